-- The theorems on polynomials as they are written down, carried over from codes and monomials.
use Rattle.std.proofs.Common.{◌≡◌, ℕ, ◌<◌, List, [], ◌∷◌, map, length, sym, refl, ap, ◌∙◌, subst, ap₂}
use Rattle.field.specs.Fields.{Arithmetic, Code, FieldLaws}
use Rattle.order.specs.Monomials.{Monomial, multiply}
use Rattle.order.specs.Orders.{Compare, OrderLaws}
use Rattle.ideal.specs.Lists.{Each}
use Rattle.ideal.specs.Polynomials.{Operations, Term, Poly, All, Lower, Falling, coefficient, sum, multiple, product, combination}
use Rattle.ideal.specs.Rings.{Raw, ring, Polynomial}
use Rattle.ideal.specs.Algebra.{NonzeroTerm, add_cofactor, add_all, Closed, SumCoefficients, MultipleCoefficients, Determined, Stepwise}
use Rattle.ideal.proofs.Calculus.{Laws}
use Rattle.ideal.proofs.Value as value
use Rattle.ideal.proofs.Heads as heads
use Rattle.ideal.proofs.Lift as lift
use Rattle.ideal.proofs.Lift.{operations, code_path, bare_term, bare}

-- what a list of f-values comes from
pub each_from : {A B : Type 0} (f : A → B) (P : B → Type 0) → ((y : B) → P y → (x : A) × (f x ≡ y))
    → (ys : List B) → Each P ys → (xs : List A) × (map f xs ≡ ys)
each_from f P h [] e = ([], refl)
each_from f P h (y ∷ ys) (p, e) = let (x, a) = h y p in let (xs, b) = each_from f P h ys e in (x ∷ xs, ap₂ ◌∷◌ a b)

module _ {k : Arithmetic} (F : FieldLaws k) {n : ℕ} {cmp : Compare} (O : OrderLaws n cmp) where
  abbrev o : Operations (Code k) (Monomial n)
  o = operations F O

  abbrev r : Operations ℕ (List ℕ)
  r = ring k n cmp

  abbrev P : Type 0
  P = Poly (Code k) (Monomial n)

  abbrev Ok : Raw → Type 0
  Ok = Polynomial k n cmp

  L : Laws o
  L = lift.laws F O

  -- up to codes and monomials, and down again
  pub all_down : (A : Monomial n → Type 0) (B : List ℕ → Type 0) → ((m : Monomial n) → A m → B m.0) → (p : P) → All A p → All B (bare p)
  all_down A B h [] a = tt
  all_down A B h (t ∷ p) (x, a) = (h _ x, all_down A B h p a)

  pub lower_down : (d : Monomial n) (p : P) → All (Lower o d) p → All (Lower r d.0) (bare p)
  lower_down d = all_down (Lower o d) (Lower r d.0) (λ m x. x)

  lower_up : (d : Monomial n) (p : P) → All (Lower r d.0) (bare p) → All (Lower o d) p
  lower_up d [] a = tt
  lower_up d (t ∷ p) (x, a) = (x, lower_up d p a)

  pub falling_up : (p : P) → Falling r (bare p) → Falling o p
  falling_up [] f = tt
  falling_up (t ∷ p) (x, a, f) = ((λ z. x (ap (λ y. y.0) z)), lower_up t.1 p a, falling_up p f)

  pub polynomial_down : (p : P) → Falling o p → Ok (bare p)
  polynomial_down [] f = (tt, tt)
  polynomial_down (t ∷ p) (x, a, f) = let (c, g) = polynomial_down p f in
      (((t.0.1, t.1.1), c), ((λ z. x (code_path z)), lower_down t.1 p a, g))

  pub lifted : (p : Raw) → Ok p → (q : P) × (bare q ≡ p)
  lifted p h = each_from bare_term (λ t. (t.0 < k.size) × (length t.1 ≡ n)) (λ t (a, b). (((t.0, a), (t.1, b)), refl)) p h.0

  -- a statement holds of polynomials if it holds of what comes from codes and monomials
  pub of_poly : (X : Raw → Type 0) → ((p : P) → Falling o p → X (bare p)) → (f : Raw) → Ok f → X f
  of_poly X h f ok = let (p, e) = lifted f ok in subst X e (h p (falling_up p (subst Ok (sym e) ok).1))

  pub of_two : (X : Raw → Raw → Type 0) → ((p q : P) → Falling o p → Falling o q → X (bare p) (bare q)) → (f g : Raw) → Ok f → Ok g → X f g
  of_two X h f g a b = of_poly (λ f. X f g) (λ p x. of_poly (X (bare p)) (λ q y. h p q x y) g b) f a

  -- the polynomials are closed under what is computed
  pub sum_closed : (p q : Raw) → Ok p → Ok q → Ok (sum r p q)
  sum_closed = of_two (λ p q. Ok (sum r p q))
      (λ p q x y. subst Ok (lift.bare-sum F O p q) (polynomial_down (sum o p q) (value.falling_sum L p q x y)))

  pub multiple_closed : (t : Term ℕ (List ℕ)) (p : Raw) → NonzeroTerm k n t → Ok p → Ok (multiple r t p)
  multiple_closed t p (a, z, b) = of_poly (λ p. Ok (multiple r t p)) (λ p x.
      let s : Term (Code k) (Monomial n) = ((t.0, a), (t.1, b)) in
      subst Ok (lift.bare-multiple F O s p) (polynomial_down (multiple o s p) (value.falling_multiple L s p (λ e. z (ap (λ v. v.0) e)) x))) p

  pub step_closed : (t : Term ℕ (List ℕ)) (p f : Raw) → NonzeroTerm k n t → Ok p → Ok f → Ok (sum r (multiple r t p) f)
  step_closed t p f z a b = sum_closed (multiple r t p) f (multiple_closed t p z a) b

  pub uncons : (t : Term ℕ (List ℕ)) (p : Raw) → Ok (t ∷ p) → NonzeroTerm k n t × Ok p
  uncons t p (((a, b), c), (z, l, f)) = ((a, z, b), (c, f))

  pub product_closed : (a p : Raw) → Ok a → Ok p → Ok (product r a p)
  product_closed [] p x y = (tt, tt)
  product_closed (t ∷ a) p x y = let (z, w) = uncons t a x in step_closed t p (product r a p) z y (product_closed a p w y)

  pub combination_closed : (cofactors generators : List Raw) → Each Ok cofactors → Each Ok generators → Ok (combination r cofactors generators)
  combination_closed [] generators x y = (tt, tt)
  combination_closed (a ∷ cofactors) [] x y = (tt, tt)
  combination_closed (a ∷ cofactors) (p ∷ generators) (x, xs) (y, ys) =
      sum_closed (product r a p) (combination r cofactors generators) (product_closed a p x y) (combination_closed cofactors generators xs ys)

  pub closed : Closed k n cmp
  closed = record { sums = sum_closed; multiples = multiple_closed; products = product_closed; combinations = combination_closed }

  -- the coefficients
  pub sum_coefficients_lem : SumCoefficients k n cmp
  sum_coefficients_lem p q a b m = of_two (λ p q. coefficient r (sum r p q) m.0 ≡ k.sum (coefficient r p m.0) (coefficient r q m.0))
      (λ p q x y. ap (λ f. coefficient r f m.0) (sym (lift.bare-sum F O p q)) ∙ lift.bare-coefficient F O (sum o p q) m
      ∙ ap (λ c. c.0) (value.coefficient-sum L p q x y m)
      ∙ sym (ap₂ k.sum (lift.bare-coefficient F O p m) (lift.bare-coefficient F O q m))) p q a b

  bare_at : (c : Code k) (m : Monomial n) (p : P) (s : Monomial n)
      → coefficient r (multiple r (c.0, m.0) (bare p)) s.0 ≡ (coefficient o (multiple o (c, m) p) s).0
  bare_at c m p s = ap (λ f. coefficient r f s.0) (sym (lift.bare-multiple F O (c, m) p)) ∙ lift.bare-coefficient F O (multiple o (c, m) p) s

  pub multiple_coefficients_lem : MultipleCoefficients k n cmp
  multiple_coefficients_lem = record {
    multiplied = λ c m p a u. of_poly
        (λ p. coefficient r (multiple r (c.0, m.0) p) (multiply m.0 u.0) ≡ k.product c.0 (coefficient r p u.0))
        (λ p x. bare_at c m p (o.multiply m u) ∙ ap (λ d. d.0) (value.coefficient-multiple L (c, m) p u)
        ∙ ap (k.product c.0) (sym (lift.bare-coefficient F O p u))) p a;
    elsewhere = λ c m p a s h. of_poly (λ p. coefficient r (multiple r (c.0, m.0) p) s.0 ≡ 0)
        (λ p x. bare_at c m p s ∙ ap (λ d. d.0) (value.coefficient-elsewhere L (c, m) p s (λ u e. h u (ap (λ d. d.0) e)))) p a;
  }

  pub determined : Determined k n cmp
  determined = of_two (λ p q. ((m : Monomial n) → coefficient r p m.0 ≡ coefficient r q m.0) → p ≡ q)
      (λ p q x y h. ap bare (value.coefficient_same L p q x y
      (λ m. code_path (sym (lift.bare-coefficient F O p m) ∙ h m ∙ lift.bare-coefficient F O q m))))

  -- one step after another
  pub sum_none : (p : Raw) → Ok p → sum r p [] ≡ p
  sum_none = of_poly (λ p. sum r p [] ≡ p) (λ p x. sym (lift.bare-sum F O p []) ∙ ap bare (heads.sum_none L p x))

  pub sum-after : (p q f : Raw) → Ok p → Ok q → Ok f → sum r q (sum r p f) ≡ sum r (sum r p q) f
  sum-after p q f a b c = of_two (λ p q. sum r q (sum r p f) ≡ sum r (sum r p q) f)
      (λ p q x y. of_poly (λ f. sum r (bare q) (sum r (bare p) f) ≡ sum r (sum r (bare p) (bare q)) f) (λ f z.
      sym (lift.bare-sum F O q (sum o p f) ∙ ap (sum r (bare q)) (lift.bare-sum F O p f)) ∙ ap bare (value.sum-after L p q f x y z)
      ∙ lift.bare-sum F O (sum o p q) f ∙ ap (λ v. sum r v (bare f)) (lift.bare-sum F O p q)) f c) p q a b

  pub add_cofactor_is : (a p f : Raw) → Ok a → Ok p → Ok f → add_cofactor r a p f ≡ sum r (product r a p) f
  add_cofactor_is [] p f x y z = refl
  add_cofactor_is (t ∷ a) p f x y z = let (c, w) = uncons t a x in
      add_cofactor_is a p (sum r (multiple r t p) f) w y (step_closed t p f c y z)
      ∙ sum-after (multiple r t p) (product r a p) f (multiple_closed t p c y) (product_closed a p w y) z

  pub add_cofactor_closed : (a p f : Raw) → Ok a → Ok p → Ok f → Ok (add_cofactor r a p f)
  add_cofactor_closed a p f x y z = subst Ok (sym (add_cofactor_is a p f x y z)) (sum_closed (product r a p) f (product_closed a p x y) z)

  pub add_all_is : (cofactors generators : List Raw) (f : Raw) → Each Ok cofactors → Each Ok generators → Ok f
      → add_all r cofactors generators f ≡ sum r (combination r cofactors generators) f
  add_all_is [] generators f x y z = refl
  add_all_is (a ∷ cofactors) [] f x y z = refl
  add_all_is (a ∷ cofactors) (p ∷ generators) f (x, xs) (y, ys) z = let b = product_closed a p x y in
      ap (add_all r cofactors generators) (add_cofactor_is a p f x y z)
      ∙ add_all_is cofactors generators (sum r (product r a p) f) xs ys (sum_closed (product r a p) f b z)
      ∙ sum-after (product r a p) (combination r cofactors generators) f b (combination_closed cofactors generators xs ys) z

  pub stepwise : Stepwise k n cmp
  stepwise cofactors generators x y =
      add_all_is cofactors generators [] x y (tt, tt)
      ∙ sum_none (combination r cofactors generators) (combination_closed cofactors generators x y)
