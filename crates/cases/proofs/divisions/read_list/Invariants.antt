use Rattle.ideal.specs.Lists.{Each}
use Rattle.polynomial.specs.Kept.{polynomials}
use Rattle.polynomial.specs.Rings.{Within}
use Rattle.cases.proofs.divisions.read_list.Given as goal

abbrev pub invariant-loop-text : goal.invariant-loop-text
invariant-loop-text g l = Each (Within l.ring) (polynomials l.list)
