-- Single steps on polynomials as they are written down: a turn of a division, and an S-polynomial.
use Rattle.std.proofs.Common.{◌≡◌, ℕ, ◌<◌, ◌≢◌, List, [], ◌∷◌, length, Some, sym, ap, ◌∙◌, subst, arith}
use lib.ListN.{length-replicate}
use Rattle.field.specs.Fields.{Arithmetic, Code, FieldLaws}
use Rattle.order.specs.Monomials.{Monomial, unit}
use Rattle.order.specs.Orders.{Compare, OrderLaws}
use Rattle.order.specs.MonomialsLemmas.{monomial_path}
use Rattle.ideal.specs.Divisibility.{quotient, to_lcm}
use Rattle.ideal.specs.Polynomials.{Operations, Term, whole, leading_coefficient, leading_monomial, All, Lower, sum, multiple, difference}
use Rattle.ideal.specs.Rings.{Raw, RawElement, ring, Polynomial}
use Rattle.ideal.specs.Algebra.{NonzeroTerm}
use Rattle.ideal.specs.Dividing.{reduced, s_polynomial}
use Rattle.ideal.proofs.Calculus as calculus
use Rattle.ideal.proofs.Calculus.{Laws}
use Rattle.ideal.proofs.Divisibility as divisibility
use Rattle.ideal.proofs.Cancelling as cancelling
use Rattle.ideal.proofs.Lift as lift
use Rattle.ideal.proofs.Lift.{operations, code_path, bare_element}
use Rattle.ideal.proofs.Carried as carried
use Rattle.ideal.proofs.Raised as raised

module _ {k : Arithmetic} (F : FieldLaws k) {n : ℕ} {cmp : Compare} (O : OrderLaws n cmp) where
  abbrev o : Operations (Code k) (Monomial n)
  o = operations F O

  abbrev r : Operations ℕ (List ℕ)
  r = ring k n cmp

  abbrev Ok : Raw → Type 0
  Ok = Polynomial k n cmp

  L : Laws o
  L = lift.laws F O

  -- codes but 0
  abbrev pub Nonzero : ℕ → Type 0
  Nonzero c = (c < k.size) × (c ≢ 0)

  not_zero : (c : ℕ) (h : Nonzero c) → (c, h.0) ≢ o.zero
  not_zero c h e = h.1 (ap (λ x. x.0) e)

  pub inverse_nonzero : (c : ℕ) → Nonzero c → Nonzero (k.inverse c)
  inverse_nonzero c h = (F.inverse_code (c, h.0), λ e. calculus.inverse_nonzero L (c, h.0) (not_zero c h) (code_path e))

  pub opposite_nonzero : (c : ℕ) → Nonzero c → Nonzero (k.opposite c)
  opposite_nonzero c h = (F.opposite_code (c, h.0), λ e. calculus.negate_nonzero L (c, h.0) (not_zero c h) (code_path e))

  pub product_nonzero : (c d : ℕ) → Nonzero c → Nonzero d → Nonzero (k.product c d)
  product_nonzero c d h l = let a : Code k = (c, h.0) in let b : Code k = (d, l.0) in
      (F.product_code a b, λ e. calculus.times_nonzero L a b (not_zero c h) (not_zero d l) (code_path e))

  leading_nonzero : (g : RawElement) → Ok (whole g) → Nonzero (leading_coefficient g)
  leading_nonzero g h = let ((a, z, b), _) = carried.uncons F O g.0 g.1 h in (a, z)

  leading_length : (g : RawElement) → Ok (whole g) → length (leading_monomial g) ≡ n
  leading_length g h = h.0.0.1

  -- the term that a difference takes
  pub minus_one : NonzeroTerm k n (k.opposite 1, unit n)
  minus_one = let (a, z) = opposite_nonzero 1 (F.two, λ e. omega arith) in (a, z, length-replicate n 0)

  pub difference_closed : (p q : Raw) → Ok p → Ok q → Ok (difference r p q)
  difference_closed p q a b = carried.sum_closed F O p _ a (carried.multiple_closed F O (k.opposite 1, unit n) q minus_one b)

  -- the dividend t ∷ f, the element g, and the quotient s of their leading monomials
  module _ (t : Term ℕ (List ℕ)) (f : Raw) (g : RawElement) (a : Ok (t ∷ f)) (b : Ok (whole g))
      (s : List ℕ) (e : quotient t.1 (leading_monomial g) ≡ Some s) where
    pub quotient-length : length s ≡ n
    quotient-length = let m = leading_length g b in (divisibility.quotient_is t.1 (leading_monomial g) s (m ∙ sym a.0.0.1) e).1 ∙ m

    -- the term that cancels the leading term
    pub cancelling-term : NonzeroTerm k n (k.opposite (k.product t.0 (k.inverse (leading_coefficient g))), s)
    cancelling-term = let (c, z) = opposite_nonzero _ (product_nonzero _ _ (leading_nonzero (t, f) a) (inverse_nonzero _ (leading_nonzero g b))) in
        (c, z, quotient-length)

    pub reduced_closed : Ok (reduced r t f g s)
    reduced_closed = carried.step_closed F O _ (whole g) (t ∷ f) cancelling-term b a

  pub reduced_lower : (t : Term ℕ (List ℕ)) (f : Raw) (g : RawElement) → Ok (t ∷ f) → Ok (whole g)
      → (s : List ℕ) → quotient t.1 (leading_monomial g) ≡ Some s → All (Lower r t.1) (reduced r t f g s)
  reduced_lower t f g a b s e = let l = quotient-length t f g a b s e in
      raised.of_element F O (λ u. quotient (leading_monomial u) (leading_monomial g) ≡ Some s → Down u g)
      (λ x p. raised.of_element F O (λ g. quotient (leading_monomial x).0 (leading_monomial g) ≡ Some s → Down (bare_element x) g) (λ y q e.
      let m : Monomial n = (s, l) in
      let b = leading_monomial x in
      let a = leading_monomial y in
      let z = (divisibility.quotient_is b.0 a.0 s (lift.alike a b) e).0 in
      subst (All (Lower r b.0)) (lift.bare-reduced F O x.0 x.1 y m)
      (carried.lower_down F O b (reduced o x.0 x.1 y m) (cancelling.reduced_lower L x.0 x.1 y m p q (monomial_path z)))) g b) (t, f) a e
    where
      Down : RawElement → RawElement → Type 0
      Down u g = All (Lower r (leading_monomial u)) (reduced r u.0 u.1 g s)

  lcm_length : (g h : RawElement) → Ok (whole g) → Ok (whole h) → length (to_lcm (leading_monomial g) (leading_monomial h)) ≡ n
  lcm_length g h a b = let l = leading_length g a in
      divisibility.length-to_lcm (leading_monomial g) (leading_monomial h) (l ∙ sym (leading_length h b)) ∙ l

  module _ (g h : RawElement) (a : Ok (whole g)) (b : Ok (whole h)) where
    -- the two terms that an S-polynomial takes
    pub first_term : NonzeroTerm k n (k.inverse (leading_coefficient g), to_lcm (leading_monomial g) (leading_monomial h))
    first_term = let (c, z) = inverse_nonzero _ (leading_nonzero g a) in (c, z, lcm_length g h a b)

    pub second-term : NonzeroTerm k n (k.opposite (k.inverse (leading_coefficient h)), to_lcm (leading_monomial h) (leading_monomial g))
    second-term = let (c, z) = opposite_nonzero _ (inverse_nonzero _ (leading_nonzero h b)) in (c, z, lcm_length h g b a)

    abbrev first : Raw
    first = multiple r (k.inverse (leading_coefficient g), to_lcm (leading_monomial g) (leading_monomial h)) (whole g)

    abbrev second : Raw
    second = multiple r (k.opposite (k.inverse (leading_coefficient h)), to_lcm (leading_monomial h) (leading_monomial g)) (whole h)

    first_closed : Ok first
    first_closed = carried.multiple_closed F O _ (whole g) first_term a

    second_closed : Ok second
    second_closed = carried.multiple_closed F O _ (whole h) second-term b

    pub s_polynomial_closed : Ok (s_polynomial r g h)
    s_polynomial_closed = carried.sum_closed F O first second first_closed second_closed

    -- the S-polynomial in two steps, from 0
    pub s_polynomial_stepwise : sum r second (sum r first []) ≡ s_polynomial r g h
    s_polynomial_stepwise = carried.sum-after F O first second [] first_closed second_closed (tt, tt)
        ∙ carried.sum_none F O (s_polynomial r g h) s_polynomial_closed
