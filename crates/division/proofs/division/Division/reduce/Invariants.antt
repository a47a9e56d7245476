-- The division is on its way, and what is left to divide falls.
use Rattle.std.proofs.Common.{◌+◌, ◌≤◌, length, vec_items}
use Rattle.ideal.specs.Rings.{ring, Polynomial}
use Rattle.polynomial.specs.Kept.{polynomials}
use Rattle.polynomial.specs.Views.{view}
use Rattle.division.specs.Elements.{elements}
use Rattle.division.specs.Ranks.{height}
use Rattle.division.proofs.Turns.{Onward}
use Rattle.division.proofs.division.Division.reduce.Given as goal

abbrev pub invariant-loop-self : goal.invariant-loop-self
invariant-loop-self g l =
    let k = g.F.Field.arithmetic l.family.ring.now.field in
    let n = l.family.ring.now.variables in
    let cmp = g.O.MonomialOrder.comparison l.family.ring.now.order in
    let rest = vec_items l.self.remainder.terms in
    let work = vec_items l.self.dividend.sum.terms in
    record {
      within : Polynomial k n cmp (view work);
      fits : length rest + length work ≤ 512;
      onward : Onward (ring k n cmp) (elements (polynomials l.family.list.now)) (view (vec_items l.initial.self.dividend.sum.terms)) (view rest) (view work);
    }

abbrev pub decreases-loop-self : goal.decreases-loop-self
decreases-loop-self g l = height (g.O.MonomialOrder.comparison l.family.ring.now.order) l.family.ring.now.variables (view (vec_items l.self.dividend.sum.terms))
