-- What is left of the table is whole and reads, and its cofactors, added to the sum so far, give what all give.
use Rattle.std.proofs.Common.{◌≡◌, suc, ◌*◌, length, drop, Ok, vec_items}
use Rattle.polynomial.specs.Cuts.{total, cut}
use Rattle.polynomial.specs.Kept.{polynomials}
use Rattle.polynomial.specs.Rings.{Within}
use Rattle.polynomial.specs.Views.{view}
use Rattle.combination.specs.Combinations.{sizes, forgotten, read_cofactors, sum_cofactors}
use Rattle.combination.proofs.Adding.{sum_from}
use Rattle.combination.proofs.combination.CofactorSum.add_cofactors.Given as goal

abbrev pub invariant-loop-number : goal.invariant-loop-number
invariant-loop-number g l =
    let k = g.F.Field.arithmetic l.table.generators.now.ring.now.field in
    let n = l.table.generators.now.ring.now.variables in
    let cmp = g.O.MonomialOrder.comparison l.table.generators.now.ring.now.order in
    let parts = cut (sizes n (drop l.number l.table.counts.now)) l.rest in
    (length l.rest ≡ total (drop l.number l.table.counts.now) * suc n)
    × (forgotten (read_cofactors k n cmp l.number parts) ≡ Ok tt)
    × Within l.table.generators.now.ring.now (view (vec_items l.self.sum.sum.terms))
    × (sum_cofactors k n cmp (cut (sizes n l.table.counts.now) l.table.numbers.now) (polynomials l.table.generators.now.list.now)
    ≡ sum_from k n cmp l.number parts (drop l.number (polynomials l.table.generators.now.list.now)) (view (vec_items l.self.sum.sum.terms)))
