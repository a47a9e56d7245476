-- Division, and S-polynomials. Assumes nothing.
--   first_divisor    the first element whose leading monomial divides m, and m divided by that
--   reduced          the dividend less the multiple of an element that cancels its leading term
--   divide i         the remainder of a division, if that takes at most i turns
--   Leaves           division leaves this remainder, after some number of turns
--   s_polynomial     of two elements: what is left where their leading terms, multiplied to be equal, cancel
--   PairsVanish      the S-polynomial of every two elements divides to 0
--   Vanishing        every generator and every S-polynomial divides to 0
--   NotAbove p f     the leading monomial of p is not above that of f, or p is 0
--   Divisible        a monomial that the leading monomial of an element divides
--   Divided          what the remainder of a division is
-- A division begins with the dividend and an empty remainder. While the dividend has a term, the first element in the order given
-- whose leading monomial divides that of the dividend is used: the multiple that cancels the leading term is taken away.
-- If there is none, the leading term moves to the remainder.
use Rattle.std.specs.Prelude.{◌≡◌, ℕ, zero, suc, true, ◌≢◌, List, [], ◌∷◌, map, length, Some, None, Option}
use Rattle.std.specs.declared.cmp.Ordering.TheVariants.{Greater}
use Rattle.field.specs.Fields.{Arithmetic}
use Rattle.order.specs.Orders.{Compare}
use Rattle.ideal.specs.Lists.{Among, Each, Together}
use Rattle.ideal.specs.Divisibility.{divides}
use Rattle.ideal.specs.Polynomials.{Operations, Term, Poly, Element, whole, leading_coefficient, leading_monomial, All, sum, multiple, product, combination}
use Rattle.ideal.specs.Rings.{Raw, RawElement, ring, Polynomial}

module _ {K M : Type 0} (o : Operations K M) where
  -- g, if the quotient is there, else what is found later
  abbrev pub or_later : Option M → Element K M → Option (Element K M × M) → Option (Element K M × M)
  or_later None g later = later
  or_later (Some s) g later = Some (g, s)

  abbrev pub first_divisor : List (Element K M) → M → Option (Element K M × M)
  first_divisor [] m = None
  first_divisor (g ∷ elements) m = or_later (o.quotient m (leading_monomial g)) g (first_divisor elements m)

  -- the dividend is t ∷ f, and s is its leading monomial divided by that of g
  abbrev pub reduced : Term K M → Poly K M → Element K M → M → Poly K M
  reduced t f g s = sum o (multiple o (o.negate (o.times t.0 (o.inverse (leading_coefficient g))), s) (whole g)) (t ∷ f)

  -- t before a remainder
  abbrev pub after : Term K M → Option (Poly K M) → Option (Poly K M)
  after t None = None
  after t (Some r) = Some (t ∷ r)

  -- one turn, by what is found, and then the next ones
  abbrev pub turn : Option (Element K M × M) → (Poly K M → Option (Poly K M)) → Term K M → Poly K M → Option (Poly K M)
  turn None next t f = after t (next f)
  turn (Some (g, s)) next t f = next (reduced t f g s)

  abbrev pub divide : ℕ → List (Element K M) → Poly K M → Option (Poly K M)
  divide zero elements f = None
  divide (suc i) elements [] = Some []
  divide (suc i) elements (t ∷ f) = turn (first_divisor elements t.1) (divide i elements) t f

  abbrev pub Leaves : List (Element K M) → Poly K M → Poly K M → Type 0
  Leaves elements f r = (i : ℕ) × (divide i elements f ≡ Some r)

  abbrev pub s_polynomial : Element K M → Element K M → Poly K M
  s_polynomial g h =
      sum o (multiple o (o.inverse (leading_coefficient g), o.to_lcm (leading_monomial g) (leading_monomial h)) (whole g))
      (multiple o (o.negate (o.inverse (leading_coefficient h)), o.to_lcm (leading_monomial h) (leading_monomial g)) (whole h))

  -- by `elements`, of every two of `some`, each two taken once, the earlier first
  abbrev pub PairsVanish : List (Element K M) → List (Element K M) → Type 0
  PairsVanish elements [] = Unit {0}
  PairsVanish elements (g ∷ some) = Each (λ h. Leaves elements (s_polynomial g h) []) some × PairsVanish elements some

  abbrev pub Vanishing : List (Poly K M) → List (Element K M) → Type 0
  Vanishing generators elements = Each (λ p. Leaves elements p []) generators × PairsVanish elements elements

  abbrev pub NotAbove : Poly K M → Poly K M → Type 0
  NotAbove [] f = Unit {0}
  NotAbove (s ∷ p) [] = ⊥
  NotAbove (s ∷ p) (t ∷ f) = o.compare s.1 t.1 ≢ Greater

abbrev pub Divisible : List RawElement → List ℕ → Type 0
Divisible elements m = (g : RawElement) × Among g elements × (divides (leading_monomial g) m ≡ true)

-- f is the sum of the elements, each multiplied by a cofactor, and of r; no product is above f, and no term of r is divisible
pub record Divided (k : Arithmetic) (n : ℕ) (cmp : Compare) (elements : List RawElement) (f r : Raw) : Type 0 where
  pub remainder : Polynomial k n cmp r
  pub indivisible : All (λ m. ¬ Divisible elements m) r
  pub cofactors : List Raw
  pub polynomials : Each (Polynomial k n cmp) cofactors
  pub one_each : length cofactors ≡ length elements
  pub bounded : Together (λ a g. NotAbove (ring k n cmp) (product (ring k n cmp) a (whole g)) f) cofactors elements
  pub equation : f ≡ sum (ring k n cmp) (combination (ring k n cmp) cofactors (map whole elements)) r
