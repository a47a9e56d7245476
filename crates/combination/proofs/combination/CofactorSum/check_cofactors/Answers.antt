-- One cofactor more is read.
use Rattle.std.proofs.Common.{◌+◌, drop, Ok, vec_items, ◌∙◌}
use Rattle.polynomial.specs.Cuts.{cut}
use Rattle.polynomial.specs.Views.{view}
use Rattle.combination.specs.Combinations.{sizes}
use Rattle.combination.proofs.Parts.{part_more, read_more}
use Rattle.combination.proofs.combination.CofactorSum.check_cofactors.Goals as goal

pub loop-number-preserved : goal.loop-number-preserved
loop-number-preserved g c =
    let k = g.F.Field.arithmetic c.args.table.now.generators.now.ring.now.field in
    let n = c.args.table.now.generators.now.ring.now.variables in
    let cmp = g.O.MonomialOrder.comparison c.args.table.now.generators.now.ring.now.order in
    let counts = c.args.table.now.counts.now in
    let i = c.loop-number.number in
    let rest = c.loop-number.unread.now in
    let part = c.split_at.result.0.now in
    let later = c.split_at.result.1.now in
    let all = cut (sizes n (drop i counts)) rest in
    let parts = cut (sizes n (drop (i + 1) counts)) later in
    let (is_cut, whole) = part_more n counts i c.from.result c.variables-stride.result rest c.loop-number-test.true c.from.ensures c.variables-stride.ensures c.loop-number.invariant.0
    part later c.split_at.ensures.front c.split_at.ensures.back c.split_at.ensures.back_len in
    let more = read_more k n cmp i all parts part (Ok (view (vec_items c.read_cofactor.new.self.cofactor.terms))) is_cut c.in_ok-read_cofactor.ensures.value in
    (whole, c.loop-number.invariant.1 ∙ more)
