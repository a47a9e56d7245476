-- The first element that divides a monomial, a polynomial at a time. Assumes nothing.
use Rattle.std.proofs.Common.{◌≡◌, ℕ, zero, suc, ◌+◌, ◌<◌, ◌≤◌, List, [], ◌∷◌, length, get_or, drop, Some, None, sym, refl, ap, ◌∙◌, subst, arith}
use Rattle.std.proofs.lemmas.List.{drop_more, drop_all}
use Rattle.field.specs.Fields.{Arithmetic}
use Rattle.order.specs.Orders.{Compare}
use Rattle.ideal.specs.Polynomials.{whole}
use Rattle.ideal.specs.Rings.{Raw, RawElement, ring}
use Rattle.ideal.specs.Dividing.{or_later, first_divisor}
use Rattle.division.specs.Elements.{element, elements, quotient_by}
use Rattle.division.specs.Divisors.{First, Gives, Found}
use Rattle.division.specs.declared.divisor.Divisor.{Divisor}
use Rattle.polynomial.specs.Views.{exponents_of}

module _ (ps : List Raw) (m : List ℕ) where
  -- what is first from number i on is first of all
  abbrev From : ℕ → Type 0
  From i = (k : Arithmetic) (n : ℕ) (cmp : Compare) → first_divisor (ring k n cmp) (elements ps) m ≡ first_divisor (ring k n cmp) (elements (drop i ps)) m

  pub from_none : (i : ℕ) → length ps ≤ i → From i → First ps m None
  from_none i l from k n cmp = from k n cmp ∙ ap (λ ps. first_divisor (ring k n cmp) (elements ps) m) (drop_all i ps l)

  module _ (i : ℕ) (within : i < length ps) (from : From i) where
    pub from_more : quotient_by m (get_or ps i []) ≡ None → From (i + 1)
    from_more none k n cmp = from k n cmp ∙ ap (λ ps. first_divisor (ring k n cmp) (elements ps) m) (drop_more ps i [] within) ∙ at (get_or ps i []) none
      where
        at : (p : Raw) → quotient_by m p ≡ None
            → first_divisor (ring k n cmp) (element p (elements (drop (i + 1) ps))) m ≡ first_divisor (ring k n cmp) (elements (drop (i + 1) ps)) m
        at [] none = refl
        at (t ∷ q) none = ap (λ x. or_later (ring k n cmp) x (t, q) (first_divisor (ring k n cmp) (elements (drop (i + 1) ps)) m)) none

    pub from_found : (s : List ℕ) → quotient_by m (get_or ps i []) ≡ Some s → (g : RawElement) × (get_or ps i [] ≡ whole g) × First ps m (Some (g, s))
    from_found s found = at (get_or ps i []) (drop_more ps i [] within) found
      where
        at : (p : Raw) → drop i ps ≡ p ∷ drop (i + 1) ps → quotient_by m p ≡ Some s
            → (g : RawElement) × (p ≡ whole g) × First ps m (Some (g, s))
        at [] here found = cc
        at (t ∷ q) here found = (
          (t, q),
          refl,
          λ k n cmp.
              from k n cmp ∙ ap (λ ps. first_divisor (ring k n cmp) (elements ps) m) here
              ∙ ap (λ x. or_later (ring k n cmp) x (t, q) (first_divisor (ring k n cmp) (elements (drop (i + 1) ps)) m)) found,
        )

  pub from_all : (i : ℕ) → i ≤ length ps → ((j : ℕ) → j < i → quotient_by m (get_or ps j []) ≡ None) → From i
  from_all zero l none = λ k n cmp. refl
  from_all (suc i) l none = subst From {x = i + 1} {y = suc i} (omega arith) (from_more i l (from_all i (omega arith) (λ j h. none j (omega arith))) (none i (omega arith)))

  pub found_at : (i : ℕ) → i < length ps → ((j : ℕ) → j < i → quotient_by m (get_or ps j []) ≡ None) → (d : Divisor) → Gives ps m i (Some d) → Found ps m (Some d)
  found_at i within none d (is, q) =
      subst (λ i. (i < length ps) × ((g : RawElement) × (get_or ps i [] ≡ whole g) × First ps m (Some (g, exponents_of d.quotient)))) (sym is)
      (within, from_found i within (from_all i (omega arith) none) (exponents_of d.quotient) q)
