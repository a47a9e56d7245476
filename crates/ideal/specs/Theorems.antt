-- What gives a verdict its meaning, over every field and by every monomial order. Assumes nothing.
--   MembersClosed           0 and the generators are in the ideal, and so are sums, differences and multiples of its members
--   DivisionEnds            every division ends, more turns change nothing, and there is one remainder
--   DivisionTheorem         dividend = combination of the elements + remainder, as `Divided` says
--   Buchberger              if every S-polynomial of the elements divides to 0, they are a Gröbner basis of their own ideal
--   CompletenessBothWays    generators and S-polynomials all divide to 0 exactly if the elements are a Gröbner basis of the ideal
--   Membership              then a polynomial is in the ideal exactly if its remainder is 0
--   OneRemainder            and two polynomials have one remainder, each by such elements, exactly if their difference is in the ideal
use Rattle.std.specs.Prelude.{◌≡◌, ℕ, ◌≤◌, ◌↔◌, List, [], map, Some}
use Rattle.field.specs.Fields.{Arithmetic}
use Rattle.order.specs.Orders.{Compare}
use Rattle.ideal.specs.Lists.{Among, Each}
use Rattle.ideal.specs.Polynomials.{Operations, Term, whole, sum, multiple, product, difference}
use Rattle.ideal.specs.Rings.{Raw, RawElement, ring, Polynomial}
use Rattle.ideal.specs.Algebra.{NonzeroTerm}
use Rattle.ideal.specs.Dividing.{divide, Leaves, PairsVanish, Vanishing, Divided}
use Rattle.ideal.specs.Ideals.{Member, Derived, Groebner}

module _ (k : Arithmetic) (n : ℕ) (cmp : Compare) where
  abbrev o : Operations ℕ (List ℕ)
  o = ring k n cmp

  -- p is a polynomial of this ring
  abbrev Is : Raw → Type 0
  Is p = Polynomial k n cmp p

  -- f is in the ideal of the generators
  abbrev In : List Raw → Raw → Type 0
  In generators f = Member k n cmp generators f

  -- what the ideal of the generators holds
  pub record Ideal (generators : List Raw) : Type 0 where
    pub zero : In generators []
    pub generator : (p : Raw) → Among p generators → In generators p
    pub sums : (f h : Raw) → In generators f → In generators h → In generators (sum o f h)
    pub differences : (f h : Raw) → In generators f → In generators h → In generators (difference o f h)
    pub multiples : (t : Term ℕ (List ℕ)) → NonzeroTerm k n t → (f : Raw) → In generators f → In generators (multiple o t f)
    pub products : (a : Raw) → Is a → (f : Raw) → In generators f → In generators (product o a f)

  abbrev pub MembersClosed : Type 0
  MembersClosed = (generators : List Raw) → Each Is generators → Ideal generators

  pub record DivisionEnds : Type 0 where
    pub ends : (elements : List RawElement) → Each (λ g. Is (whole g)) elements → (f : Raw) → Is f → (r : Raw) × Leaves o elements f r
    pub stays : (elements : List RawElement) (f r : Raw) (i j : ℕ) → i ≤ j → divide o i elements f ≡ Some r → divide o j elements f ≡ Some r
    pub unique : (elements : List RawElement) (f q r : Raw) → Leaves o elements f q → Leaves o elements f r → q ≡ r

  abbrev pub DivisionTheorem : Type 0
  DivisionTheorem = (elements : List RawElement) → Each (λ g. Is (whole g)) elements → (f r : Raw) → Is f
      → Leaves o elements f r → Divided k n cmp elements f r

  abbrev pub Buchberger : Type 0
  Buchberger = (elements : List RawElement) → Each (λ g. Is (whole g)) elements
      → PairsVanish o elements elements → Groebner k n cmp (map whole elements) elements

  abbrev pub CompletenessBothWays : Type 0
  CompletenessBothWays = (generators : List Raw) (elements : List RawElement) → Derived k n cmp generators elements
      → Vanishing o generators elements ↔ Groebner k n cmp generators elements

  abbrev pub Membership : Type 0
  Membership = (generators : List Raw) (elements : List RawElement) → Derived k n cmp generators elements → Vanishing o generators elements
      → (f r : Raw) → Is f → Leaves o elements f r → In generators f ↔ (r ≡ [])

  -- f with the remainder q by `elements`, h with the remainder r by `others`
  abbrev pub OneRemainder : Type 0
  OneRemainder = (generators : List Raw) (elements others : List RawElement)
      → Derived k n cmp generators elements → Vanishing o generators elements → Derived k n cmp generators others → Vanishing o generators others
      → (f h q r : Raw) → Is f → Is h → Leaves o elements f q → Leaves o others h r → (q ≡ r) ↔ In generators (difference o f h)
