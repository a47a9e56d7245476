-- The counts before number i add up to no more than all of them do.
use Rattle.std.proofs.Common.{◌≡◌, ℕ, List, take, refl, sym, ap, ◌∙◌, arith}
use Rattle.std.proofs.lemmas.Iterator.{YieldsList-from_slice}
use Rattle.std.proofs.lemmas.Iterator.Consumers.{sum_from_yields_List, fits_from_yields_list}
use Rattle.std.proofs.lemmas.List.Recursion.{is_sum_by}
use Rattle.std.specs.List.{sum}
use Rattle.polynomial.specs.Cuts.{total}
use Rattle.polynomial.proofs.Cutting.{total-take_le}
use Rattle.polynomial.proofs.Keeping.{few-terms}
use Rattle.polynomial.proofs.list.PolynomialList.start.Goals as goal

summed : (counts : List ℕ) → sum counts ≡ total counts
summed counts = sym (is_sum_by total (λ c. c) refl (λ _ _. refl) counts)

pub sum-requires-clause-fits : goal.sum-requires-clause-fits
sum-requires-clause-fits c =
    let l = c.args.self.now in
    let counts = c.counts.result.now in
    let all = ap total c.counts.ensures.value ∙ l.whole in
    let terms = few-terms l in
    let few = l.few in
    let part = total-take_le counts c.args.i in
    let s = summed (take c.args.i counts) in
    fits_from_yields_list c.iter.result _ (YieldsList-from_slice (take c.args.i counts) cc) (omega arith)

pub returns : goal.returns
returns c =
    let counts = c.counts.result.now in
    sum_from_yields_List c.iter.result c.sum.result c.sum.ensures.ran (YieldsList-from_slice (take c.args.i counts) cc)
    ∙ summed (take c.args.i counts) ∙ ap (λ cs. total (take c.args.i cs)) c.counts.ensures.value
