-- The ideal of some generators, and its Gröbner bases. Assumes nothing.
--   Member       f is in the ideal: the sum of the generators, each multiplied by some polynomial, however large
--   Derived      polynomials all, and the elements are in the ideal of the generators
--   Groebner     every polynomial but 0 in the ideal has a leading monomial that the leading monomial of an element divides
use Rattle.std.specs.Prelude.{◌≡◌, ℕ, List, ◌∷◌, length}
use Rattle.field.specs.Fields.{Arithmetic}
use Rattle.order.specs.Orders.{Compare}
use Rattle.ideal.specs.Lists.{Each}
use Rattle.ideal.specs.Polynomials.{Term, whole, combination}
use Rattle.ideal.specs.Rings.{Raw, RawElement, ring, Polynomial}
use Rattle.ideal.specs.Dividing.{Divisible}

module _ (k : Arithmetic) (n : ℕ) (cmp : Compare) where
  -- one cofactor for each generator
  abbrev pub Member : List Raw → Raw → Type 0
  Member generators f = (cofactors : List Raw) × Each (Polynomial k n cmp) cofactors × (length cofactors ≡ length generators)
      × (f ≡ combination (ring k n cmp) cofactors generators)

  pub record Derived (generators : List Raw) (elements : List RawElement) : Type 0 where
    pub generators_polynomials : Each (Polynomial k n cmp) generators
    pub elements_polynomials : Each (λ g. Polynomial k n cmp (whole g)) elements
    pub elements_members : Each (λ g. Member generators (whole g)) elements

  -- t ∷ f is the polynomial, t its leading term
  abbrev pub Groebner : List Raw → List RawElement → Type 0
  Groebner generators elements = (t : Term ℕ (List ℕ)) (f : Raw) → Polynomial k n cmp (t ∷ f) → Member generators (t ∷ f) → Divisible elements t.1
