use Rattle.std.proofs.Common.{vec_items}
use Rattle.polynomial.specs.Rings.{Within}
use Rattle.polynomial.specs.Views.{view}
use Rattle.demo.proofs.walk.add_and_tell.Given as goal

abbrev pub invariant-loop-term : goal.invariant-loop-term
invariant-loop-term g l = Within l.ring (view (vec_items l.sum.sum.terms))
