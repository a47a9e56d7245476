use Rattle.std.proofs.Common.{◌∷◌, sym, ap, ◌∙◌}
use Rattle.text.specs.Heads.{values}
use Rattle.text.specs.Cuts.{others}
use Rattle.text.proofs.Heads.{fourth_field}
use Rattle.text.proofs.head.values.read_values.Goals as goal

pub returns-then-is_some : goal.returns-then-is_some
returns-then-is_some c =
    let k = c.cut.result.0.now in
    let s = c.cut-2.result.0.now in
    sym (ap values (c.cut.ensures.pieces ∙ ap (λ r. k ∷ others 32 r) c.in_ok-rest.was ∙ ap (λ ps. k ∷ ps) (c.cut-2.ensures.pieces ∙ ap (λ r. s ∷ others 32 r) c.in_ok-rest-2.was ∙ ap (λ ps. s ∷ ps) c.cut-3.ensures.pieces)) ∙ fourth_field k s c.cut-3.result.0.now c.cut-3.result.1 c.if-is_some.ensures)
