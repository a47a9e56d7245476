-- Members of lists, of what is mapped too, and what an answer that may be none says.
use Rattle.std.proofs.Common.{◌≡◌, ℕ, zero, suc, ◌<◌, Bool, true, false, cond, ◌↔◌, List, [], ◌∷◌, ◌++◌, map, length, get_or, Some, None, sym, refl, ap, subst, ap₂, inl, inr, arith}
use Rattle.ideal.specs.Lists.{Among, Each}

pub each_at : {A : Type 0} (P : A → Type 0) (xs : List A) → Each P xs → (x : A) → Among x xs → P x
each_at P [] e x a = absurd a
each_at P (y ∷ xs) (p, e) x (inl h) = subst P (sym h) p
each_at P (y ∷ xs) (p, e) x (inr a) = each_at P xs e x a

-- by its number
pub each_nth : {A : Type 0} (P : A → Type 0) (xs : List A) (i : ℕ) (d : A) → i < length xs → Each P xs → P (get_or xs i d)
each_nth P [] i d h e = absurd (omega arith)
each_nth P (x ∷ xs) zero d h e = e.0
each_nth P (x ∷ xs) (suc i) d h e = each_nth P xs i d (omega arith) e.1

pub each_push : {A : Type 0} (P : A → Type 0) (xs : List A) (x : A) → Each P xs → P x → Each P (xs ++ (x ∷ []))
each_push P [] x e p = (p, tt)
each_push P (y ∷ xs) x (q, e) p = (q, each_push P xs x e p)

pub each_of : {A : Type 0} (P : A → Type 0) (xs : List A) → ((x : A) → Among x xs → P x) → Each P xs
each_of P [] h = tt
each_of P (x ∷ xs) h = (h x (inl refl), each_of P xs (λ y a. h y (inr a)))

-- a function from A to B, with P of what it gives and Q of what it is given
module _ {A B : Type 0} (f : A → B) where
  pub each_up : (P : B → Type 0) (Q : A → Type 0) → ((x : A) → P (f x) → Q x) → (xs : List A) → Each P (map f xs) → Each Q xs
  each_up P Q h [] e = tt
  each_up P Q h (x ∷ xs) (p, e) = (h x p, each_up P Q h xs e)

  pub each_down : (P : B → Type 0) (Q : A → Type 0) → ((x : A) → Q x → P (f x)) → (xs : List A) → Each Q xs → Each P (map f xs)
  each_down P Q h [] e = tt
  each_down P Q h (x ∷ xs) (p, e) = (h x p, each_down P Q h xs e)

  pub each_both : (P : B → Type 0) (Q : A → Type 0) → ((x : A) → P (f x) ↔ Q x) → (xs : List A) → Each P (map f xs) ↔ Each Q xs
  each_both P Q h xs = (each_up P Q (λ x. (h x).0) xs, each_down P Q (λ x. (h x).1) xs)

  pub among_up : (y : B) (xs : List A) → Among y (map f xs) → (x : A) × Among x xs × (y ≡ f x)
  among_up y [] a = absurd a
  among_up y (x ∷ xs) (inl e) = (x, inl refl, e)
  among_up y (x ∷ xs) (inr a) = let (z, b, e) = among_up y xs a in (z, inr b, e)

  pub among_down : (x : A) (xs : List A) → Among x xs → Among (f x) (map f xs)
  among_down x [] a = absurd a
  among_down x (y ∷ xs) (inl e) = inl (ap f e)
  among_down x (y ∷ xs) (inr a) = inr (among_down x xs a)

  pub map_injective : ((x y : A) → f x ≡ f y → x ≡ y) → (xs ys : List A) → map f xs ≡ map f ys → xs ≡ ys
  map_injective h [] [] e = refl
  map_injective h [] (y ∷ ys) e = let z : ◌≡◌ {A = ℕ} 0 1 = cc in absurd (omega arith)
  map_injective h (x ∷ xs) [] e = let z : ◌≡◌ {A = ℕ} 0 1 = cc in absurd (omega arith)
  map_injective h (x ∷ xs) (y ∷ ys) e =
      let a : f x ≡ f y = cc in
      let b : map f xs ≡ map f ys = cc in
      ap₂ ◌∷◌ (h x y a) (map_injective h xs ys b)

pub some_injective : {A : Type 0} {x y : A} → Some x ≡ Some y → x ≡ y
some_injective p = cc

pub none_some : {A X : Type 0} {x : A} → None ≡ Some x → X
none_some {A} {X} {x} p = let z : ◌≡◌ {A = ℕ} 0 1 = cc in absurd (omega arith)

pub cond_some : {A : Type 0} (b : Bool) (x y : A) → cond b (Some x) None ≡ Some y → (b ≡ true) × (x ≡ y)
cond_some true x y e = (refl, some_injective e)
cond_some false x y e = none_some e
