-- What is found to divide by. Assumes nothing.
--   Gives ps m i r  r names number i of the polynomials ps and the quotient, if its leading monomial divides m
--   Found ps m r    r names the first of the polynomials ps whose leading monomial divides m, and the quotient; or there is none
use Rattle.std.specs.Prelude.{◌≡◌, ℕ, ◌<◌, List, [], length, Some, None, Option, MatchOption, slice_index_or}
use Rattle.field.specs.Fields.{Arithmetic}
use Rattle.order.specs.Orders.{Compare}
use Rattle.ideal.specs.Polynomials.{whole}
use Rattle.ideal.specs.Rings.{Raw, RawElement, ring}
use Rattle.ideal.specs.Dividing.{first_divisor}
use Rattle.polynomial.specs.Views.{exponents_of}
use Rattle.division.specs.Elements.{elements, quotient_by}
use Rattle.division.specs.declared.divisor.Divisor.{Divisor}

abbrev pub Gives : List Raw → List ℕ → ℕ → Option Divisor → Type 0
Gives ps m i r = MatchOption r (quotient_by m (slice_index_or ps i []) ≡ None) (λ d. (d.number ≡ i) × (quotient_by m (slice_index_or ps i []) ≡ Some (exponents_of d.quotient)))

-- what is first does not depend on the field, nor on the order
abbrev pub First : List Raw → List ℕ → Option (RawElement × List ℕ) → Type 0
First ps m x = (k : Arithmetic) (n : ℕ) (cmp : Compare) → first_divisor (ring k n cmp) (elements ps) m ≡ x

abbrev pub Found : List Raw → List ℕ → Option Divisor → Type 0
Found ps m r = MatchOption r (First ps m None) (λ d. (d.number < length ps) × ((g : RawElement) × (slice_index_or ps d.number [] ≡ whole g)
    × First ps m (Some (g, exponents_of d.quotient))))
