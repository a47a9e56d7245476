use Rattle.std.proofs.Common.{◌∙◌, refl}
use Rattle.polynomial.proofs.Same.{lists_same}
use Rattle.polynomial.proofs.equality.are_equal.Goals as goal

pub returns : goal.returns
returns c = c.eq.ensures ∙ lists_same _ (λ s t. refl) c.args.p.now c.args.q.now
