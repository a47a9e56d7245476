-- A lower monomial has a smaller rank, and every rank is below the number of monomials.
use Rattle.std.proofs.Common.{◌≡◌, ℕ, zero, suc, ◌*◌, ◌^◌, ◌<◌, ◌≤◌, Bool, true, false, cond, leb, List, [], ◌∷◌, ◌++◌, map, length, Ordering, Less, Equal, Greater, sym, refl, ap, ◌∙◌, subst, inl, inr, suc-mul, zero-mul, arith, length-append}
use native.Mathlib.Nat.{pow-zero, pow-succ'}
use lib.ListN.{length-map}
use Rattle.std.proofs.lemmas.Bool.{cases_eq, and_parts, leb-true}
use Rattle.order.specs.Monomials.{small}
use Rattle.order.specs.Orders.{Compare, OrderLaws}
use Rattle.ideal.specs.Lists.{Among, Each}
use Rattle.ideal.proofs.Lists.{among_down}
use Rattle.polynomial.specs.Tables.{is_less}
use Rattle.division.specs.Ranks.{below, spread, every_monomial, count, rank}

-- every monomial with exponents up to 255 is counted
in_left : {X : Type 0} (x : X) (xs ys : List X) → Among x xs → Among x (xs ++ ys)
in_left x [] ys i = absurd i
in_left x (y ∷ xs) ys (inl e) = inl e
in_left x (y ∷ xs) ys (inr i) = inr (in_left x xs ys i)

in_right : {X : Type 0} (x : X) (xs ys : List X) → Among x ys → Among x (xs ++ ys)
in_right x [] ys i = i
in_right x (y ∷ xs) ys i = inr (in_right x xs ys i)

in_below : (n e : ℕ) → e < n → Among e (below n)
unfolding below
in_below zero e h = absurd (omega arith)
in_below (suc n) e h = elim (cases_eq e n) [
  | inl p ↦ inl p
  | inr p ↦ inr (in_below n e (omega arith))
]

in_spread : (e : ℕ) (m : List ℕ) (es : List ℕ) (ms : List (List ℕ)) → Among e es → Among m ms → Among (e ∷ m) (spread es ms)
unfolding spread
in_spread e m [] ms i j = absurd i
in_spread e m (x ∷ es) ms (inl p) j = in_left (e ∷ m) (map (λ l. x ∷ l) ms) (spread es ms)
    (subst (λ x. Among (e ∷ m) (map (λ l. x ∷ l) ms)) p (among_down (λ l. e ∷ l) m ms j))
in_spread e m (x ∷ es) ms (inr i) j = in_right (e ∷ m) (map (λ l. x ∷ l) ms) (spread es ms) (in_spread e m es ms i j)

in_every : (n : ℕ) (m : List ℕ) → length m ≡ n → small m ≡ true → Among m (every_monomial n)
unfolding every_monomial
in_every zero [] h s = inl refl
in_every zero (e ∷ m) h s = absurd (omega arith)
in_every (suc n) [] h s = absurd (omega arith)
in_every (suc n) (e ∷ m) h s =
    let (a, b) = and_parts (leb e 255) (small m) s in
    let c = leb-true e 255 a in
    in_spread e m (below 256) (every_monomial n) (in_below 256 e (omega arith)) (in_every n m (omega arith) b)

-- all of them have n exponents
abbrev Sized : ℕ → List (List ℕ) → Type 0
Sized n = Each (λ m. length m ≡ n)

sized_append : (n : ℕ) (xs ys : List (List ℕ)) → Sized n xs → Sized n ys → Sized n (xs ++ ys)
sized_append n [] ys h k = k
sized_append n (m ∷ xs) ys h k = (h.0, sized_append n xs ys h.1 k)

sized_map : (n e : ℕ) (ms : List (List ℕ)) → Sized n ms → Sized (suc n) (map (λ m. e ∷ m) ms)
sized_map n e [] h = tt
sized_map n e (m ∷ ms) h = (ap suc h.0, sized_map n e ms h.1)

sized_spread : (n : ℕ) (es : List ℕ) (ms : List (List ℕ)) → Sized n ms → Sized (suc n) (spread es ms)
unfolding spread
sized_spread n [] ms h = tt
sized_spread n (e ∷ es) ms h = sized_append (suc n) (map (λ m. e ∷ m) ms) (spread es ms) (sized_map n e ms h) (sized_spread n es ms h)

sized_every : (n : ℕ) → Sized n (every_monomial n)
unfolding every_monomial
sized_every zero = (refl, tt)
sized_every (suc n) = sized_spread n (below 256) (every_monomial n) (sized_every n)

-- how many there are
length-below : (n : ℕ) → length (below n) ≡ n
unfolding below
length-below zero = refl
length-below (suc n) = ap suc (length-below n)

length-spread : (es : List ℕ) (ms : List (List ℕ)) → length (spread es ms) ≡ length es * length ms
unfolding spread
length-spread [] ms = sym (zero-mul (length ms))
length-spread (e ∷ es) ms =
    let a = length-append (map (λ m. e ∷ m) ms) (spread es ms) in
    let b = length-map ms (λ m. e ∷ m) in
    let c = length-spread es ms in
    let d = suc-mul (length es) (length ms) in
    omega arith

length_every : (n : ℕ) → length (every_monomial n) ≡ 256 ^ n
unfolding every_monomial
length_every zero = sym (pow-zero 256)
length_every (suc n) =
    length-spread (below 256) (every_monomial n) ∙ ap (λ x. x * length (every_monomial n)) (length-below 256)
    ∙ ap (λ x. 256 * x) (length_every n) ∙ sym (pow-succ' 256 n)

count-all : {X : Type 0} (xs : List X) → count (λ _. true) xs ≡ length xs
unfolding count
count-all [] = refl
count-all (x ∷ xs) = let a = count-all xs in omega arith

-- a test that passes whatever another passes, and one more
module _ (n : ℕ) (f g : List ℕ → Bool) (more : (m : List ℕ) → length m ≡ n → f m ≡ true → g m ≡ true) where
  one_le : (m : List ℕ) → length m ≡ n → cond (f m) 1 0 ≤ cond (g m) 1 0
  one_le m h = at (f m) refl
    where
      at : (b : Bool) → f m ≡ b → cond b 1 0 ≤ cond (g m) 1 0
      at true e = rw (more m h e) (omega arith)
      at false e = omega arith

  count_le : (ms : List (List ℕ)) → Sized n ms → count f ms ≤ count g ms
  unfolding count
  count_le [] h = omega arith
  count_le (m ∷ ms) h = let a = one_le m h.0 in let b = count_le ms h.1 in omega arith

  count_lt : (a : List ℕ) → f a ≡ false → g a ≡ true → (ms : List (List ℕ)) → Sized n ms → Among a ms → count f ms < count g ms
  unfolding count
  count_lt a p q [] h i = absurd i
  count_lt a p q (m ∷ ms) h (inl e) =
      let b = count_le ms h.1 in
      let u : f m ≡ false = ap f (sym e) ∙ p in
      let v : g m ≡ true = ap g (sym e) ∙ q in
      rw (u, v) (omega arith)
  count_lt a p q (m ∷ ms) h (inr i) = let c = one_le m h.0 in let b = count_lt a p q ms h.1 i in omega arith

less_is : (d : Ordering) → is_less d ≡ true → d ≡ Less
less_is Less e = refl
less_is Equal e = cc
less_is Greater e = cc

module _ {n : ℕ} {cmp : Compare} (O : OrderLaws n cmp) where
  pub rank_falls : (a b : List ℕ) → length a ≡ n → small a ≡ true → length b ≡ n → cmp a b ≡ Less → rank cmp n a < rank cmp n b
  unfolding rank
  rank_falls a b h s l e =
      count_lt n (λ m. is_less (cmp m a)) (λ m. is_less (cmp m b))
      (λ m z t. ap is_less (O.trans (m, z) (a, h) (b, l) (less_is (cmp m a) t) e))
      a (ap is_less (O.self (a, h))) (ap is_less e) (every_monomial n) (sized_every n) (in_every n a h s)

  pub rank_below : (a : List ℕ) → length a ≡ n → small a ≡ true → rank cmp n a < 256 ^ n
  unfolding rank
  rank_below a h s =
      let x = count_lt n (λ m. is_less (cmp m a)) (λ m. true) (λ m z t. refl)
      a (ap is_less (O.self (a, h))) refl (every_monomial n) (sized_every n) (in_every n a h s) in
      let y = count-all (every_monomial n) in
      let z = length_every n in
      omega arith
