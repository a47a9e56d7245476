-- A turn can be taken.
use Rattle.std.proofs.Common.{◌+◌, ◌≤◌, length, vec_items}
use Rattle.polynomial.specs.Rings.{Within}
use Rattle.polynomial.specs.Views.{view}
use Rattle.demo.proofs.divide.divide_and_tell.Given as goal

abbrev pub invariant-loop : goal.invariant-loop
invariant-loop g l =
    Within l.elements.ring.now (view (vec_items l.division.dividend.sum.terms))
    × (length (vec_items l.division.remainder.terms) + length (vec_items l.division.dividend.sum.terms) ≤ 512)
