-- What is left of the table is whole, and to read it gives what all gives.
use Rattle.std.proofs.Common.{◌≡◌, suc, ◌*◌, length, drop}
use Rattle.polynomial.specs.Cuts.{total, cut}
use Rattle.combination.specs.Combinations.{sizes, forgotten, read_cofactors}
use Rattle.combination.proofs.combination.CofactorSum.check_cofactors.Given as goal

abbrev pub invariant-loop-number : goal.invariant-loop-number
invariant-loop-number g l =
    let k = g.F.Field.arithmetic l.table.generators.now.ring.now.field in
    let n = l.table.generators.now.ring.now.variables in
    let cmp = g.O.MonomialOrder.comparison l.table.generators.now.ring.now.order in
    (length l.unread ≡ total (drop l.number l.table.counts.now) * suc n)
    × (forgotten (read_cofactors k n cmp 0 (cut (sizes n l.table.counts.now) l.table.numbers.now)) ≡ forgotten (read_cofactors k n cmp l.number (cut (sizes n (drop l.number l.table.counts.now)) l.unread)))
