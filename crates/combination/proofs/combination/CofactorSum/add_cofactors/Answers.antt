-- One cofactor more is read and its products added, or the sum stops there.
use Rattle.std.proofs.Common.{◌+◌, ◌<◌, length, drop, Ok, Err, vec_items, Result, sym, ap, ◌∙◌, arith}
use Rattle.std.proofs.lemmas.Result.{err_from_is_err_and}
use Rattle.ideal.specs.Rings.{Raw}
use Rattle.polynomial.specs.Cuts.{cut}
use Rattle.polynomial.specs.Kept.{polynomials}
use Rattle.polynomial.specs.Results.{answered}
use Rattle.polynomial.specs.Views.{view}
use Rattle.combination.specs.Combinations.{sizes}
use Rattle.fault.specs.declared.fault.Fault.{Fault}
use Rattle.combination.proofs.Parts.{part_more, read_later}
use Rattle.combination.proofs.Adding.{sum_part}
use Rattle.combination.proofs.combination.CofactorSum.add_cofactors.Goals as goal

abbrev refused : Fault → Result Raw Fault
refused e = Err e

pub returns-in_err-add_cofactor : goal.returns-in_err-add_cofactor
returns-in_err-add_cofactor g c =
    let k = g.F.Field.arithmetic c.args.table.now.generators.now.ring.now.field in
    let n = c.args.table.now.generators.now.ring.now.variables in
    let cmp = g.O.MonomialOrder.comparison c.args.table.now.generators.now.ring.now.order in
    let counts = c.args.table.now.counts.now in
    let i = c.loop-number.number in
    let rest = c.loop-number.rest.now in
    let part = c.split_at.result.0.now in
    let later = c.split_at.result.1.now in
    let all = cut (sizes n (drop i counts)) rest in
    let parts = cut (sizes n (drop (i + 1) counts)) later in
    let (is_cut, whole) = part_more n counts i c.from.result c.variables-stride.result rest c.loop-number-test.true c.from.ensures c.variables-stride.ensures c.loop-number.invariant.0
    part later c.split_at.ensures.front c.split_at.ensures.back c.split_at.ensures.back_len in
    let generators = polynomials c.args.table.now.generators.now.list.now in
    let known : i < length generators = let l = c.args.table.now.counted in omega arith in
    let (fault, is, was) = err_from_is_err_and c.from_residual.result c.from_residual.ensures.1 in
    let stop = sum_part k n cmp i all parts part generators (view (vec_items c.loop-number.self.sum.sum.terms)) (Err c.in_err-add_cofactor.field-0.0) is_cut known c.loop-number.invariant.1 c.in_err-add_cofactor.ensures.value in
    ap (λ (r : Result (Unit {0}) Fault). answered r (view (vec_items c.add_cofactor.new.self.sum.sum.terms))) is ∙ ap refused was ∙ sym (c.loop-number.invariant.3 ∙ stop)

pub loop-number-preserved : goal.loop-number-preserved
loop-number-preserved g c =
    let k = g.F.Field.arithmetic c.args.table.now.generators.now.ring.now.field in
    let n = c.args.table.now.generators.now.ring.now.variables in
    let cmp = g.O.MonomialOrder.comparison c.args.table.now.generators.now.ring.now.order in
    let counts = c.args.table.now.counts.now in
    let i = c.loop-number.number in
    let rest = c.loop-number.rest.now in
    let part = c.split_at.result.0.now in
    let later = c.split_at.result.1.now in
    let all = cut (sizes n (drop i counts)) rest in
    let parts = cut (sizes n (drop (i + 1) counts)) later in
    let (is_cut, whole) = part_more n counts i c.from.result c.variables-stride.result rest c.loop-number-test.true c.from.ensures c.variables-stride.ensures c.loop-number.invariant.0
    part later c.split_at.ensures.front c.split_at.ensures.back c.split_at.ensures.back_len in
    let generators = polynomials c.args.table.now.generators.now.list.now in
    let known : i < length generators = let l = c.args.table.now.counted in omega arith in
    let more = sum_part k n cmp i all parts part generators (view (vec_items c.loop-number.self.sum.sum.terms)) (Ok (view (vec_items c.add_cofactor.new.self.sum.sum.terms))) is_cut known c.loop-number.invariant.1 c.in_ok-add_cofactor.ensures.value in
    (whole, read_later k n cmp i all parts part is_cut c.loop-number.invariant.1, c.in_ok-add_cofactor.ensures.within, c.loop-number.invariant.3 ∙ more)
