-- The first that divides is found, or none does.
use Rattle.std.proofs.Common.{arith}
use Rattle.polynomial.specs.Kept.{polynomials}
use Rattle.polynomial.specs.Views.{exponents_of}
use Rattle.division.proofs.Searching.{from_none, from_all, found_at}
use Rattle.division.proofs.divisor.find_divisor.Goals as goal

pub returns-in-Some : goal.returns-in-Some
returns-in-Some c = found_at (polynomials c.args.elements.now) (exponents_of c.args.monomial.now) c.loop-number.number (omega arith) c.loop-number.invariant c.in-Some.divisor c.in-Some.ensures

pub returns : goal.returns
returns c =
    let ps = polynomials c.args.elements.now in
    let m = exponents_of c.args.monomial.now in
    from_none ps m c.loop-number.number (omega arith) (from_all ps m c.loop-number.number (omega arith) c.loop-number.invariant)
