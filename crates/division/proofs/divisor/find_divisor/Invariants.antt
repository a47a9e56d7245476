-- No element before the number divides.
use Rattle.std.proofs.Common.{◌≡◌, ℕ, ◌<◌, [], get_or, None}
use Rattle.polynomial.specs.Kept.{polynomials}
use Rattle.polynomial.specs.Views.{exponents_of}
use Rattle.division.specs.Elements.{quotient_by}
use Rattle.division.proofs.divisor.find_divisor.Given as goal

abbrev pub invariant-loop-number : goal.invariant-loop-number
invariant-loop-number l = (j : ℕ) → j < l.number → quotient_by (exponents_of l.monomial) (get_or (polynomials l.elements) j []) ≡ None
