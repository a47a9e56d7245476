-- Polynomials over any coefficients K and monomials M, and their sums and products. Assumes nothing.
--   Operations             what polynomials are computed with: coefficients and monomials
--   Term, Poly             a coefficient and a monomial; a list of terms
--   Element, whole         a polynomial that is not 0, as its leading term and the rest; the two put together
--   Falling                no coefficient is 0, and each monomial is lower than all before it
--   coefficient p m        the coefficient of p at the monomial m
--   insert, sum, multiple  one term more; the sum of two; a term times a polynomial
--   product, combination   the product of two; cofactor × generator, summed
--   difference             one less another
use Rattle.std.specs.Prelude.{◌≡◌, Bool, true, false, ◌≢◌, List, [], ◌∷◌, Option}
use Rattle.std.specs.declared.cmp.Ordering.TheVariants.{Less, Equal, Greater}
use Rattle.std.specs.declared.cmp.Ordering.{Ordering}

pub record Operations (K M : Type 0) : Type 0 where
  pub zero : K
  pub one : K
  pub plus : K → K → K
  pub negate : K → K
  pub times : K → K → K
  pub inverse : K → K
  pub is_zero : K → Bool
  pub unit : M
  pub multiply : M → M → M
  -- quotient b a: b divided by a, where a divides b
  pub quotient : M → M → Option M
  -- to_lcm a b: what a is multiplied by to make the least common multiple of a and b
  pub to_lcm : M → M → M
  pub compare : M → M → Ordering

abbrev pub Term : Type 0 → Type 0 → Type 0
Term K M = K × M

abbrev pub Poly : Type 0 → Type 0 → Type 0
Poly K M = List (Term K M)

abbrev pub Element : Type 0 → Type 0 → Type 0
Element K M = Term K M × Poly K M

abbrev pub whole : {K M : Type 0} → Element K M → Poly K M
whole g = g.0 ∷ g.1

abbrev pub leading_coefficient : {K M : Type 0} → Element K M → K
leading_coefficient g = g.0.0

abbrev pub leading_monomial : {K M : Type 0} → Element K M → M
leading_monomial g = g.0.1

-- P of each monomial of a polynomial
abbrev pub All : {K M : Type 0} → (M → Type 0) → Poly K M → Type 0
All P [] = Unit {0}
All P (t ∷ p) = P t.1 × All P p

module _ {K M : Type 0} (o : Operations K M) where
  abbrev pub Lower : M → M → Type 0
  Lower d m = o.compare m d ≡ Less

  abbrev pub Falling : Poly K M → Type 0
  Falling [] = Unit {0}
  Falling (t ∷ p) = (t.0 ≢ o.zero) × All (Lower t.1) p × Falling p

  -- c where the monomials are equal, else what comes later
  abbrev pub here : Ordering → K → K → K
  here Less c later = later
  here Equal c later = c
  here Greater c later = later

  abbrev pub coefficient : Poly K M → M → K
  coefficient [] m = o.zero
  coefficient (t ∷ p) m = here (o.compare t.1 m) t.0 (coefficient p m)

  -- the term c·m before q, unless c is 0
  abbrev pub unless_zero : Bool → K → M → Poly K M → Poly K M
  unless_zero true c m q = q
  unless_zero false c m q = (c, m) ∷ q

  -- s and t ∷ q together, given how s stands to t and what s and q make
  abbrev pub place : Ordering → Term K M → Term K M → Poly K M → Poly K M → Poly K M
  place Less s t q r = t ∷ r
  place Equal s t q r = let c = o.plus s.0 t.0 in unless_zero (o.is_zero c) c t.1 q
  place Greater s t q r = s ∷ t ∷ q

  abbrev pub insert : Term K M → Poly K M → Poly K M
  insert s [] = s ∷ []
  insert s (t ∷ q) = place (o.compare s.1 t.1) s t q (insert s q)

  abbrev pub sum : Poly K M → Poly K M → Poly K M
  sum [] q = q
  sum (s ∷ p) q = insert s (sum p q)

  abbrev pub multiple : Term K M → Poly K M → Poly K M
  multiple s [] = []
  multiple s (t ∷ p) = (o.times s.0 t.0, o.multiply s.1 t.1) ∷ multiple s p

  abbrev pub product : Poly K M → Poly K M → Poly K M
  product [] p = []
  product (s ∷ a) p = sum (multiple s p) (product a p)

  -- one cofactor for each generator
  abbrev pub combination : List (Poly K M) → List (Poly K M) → Poly K M
  combination [] generators = []
  combination (a ∷ cofactors) [] = []
  combination (a ∷ cofactors) (p ∷ generators) = sum (product a p) (combination cofactors generators)

  abbrev pub difference : Poly K M → Poly K M → Poly K M
  difference p q = sum p (multiple (o.negate o.one, o.unit) q)
