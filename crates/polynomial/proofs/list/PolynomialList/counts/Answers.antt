-- There are as many polynomials as counts.
use Rattle.std.proofs.Common.{length, vec_items, sym, ap, ◌∙◌}
use Rattle.polynomial.specs.Views.{view}
use Rattle.polynomial.proofs.Cutting.{cut-length}
use Rattle.polynomial.proofs.list.PolynomialList.counts.Goals as goal

pub returns-clause-len : goal.returns-clause-len
returns-clause-len c = let l = c.args.self.now in ap length c.as_slice.ensures.value ∙ sym (cut-length (vec_items l.counts) (view (vec_items l.terms)))
