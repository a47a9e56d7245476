use Rattle.std.proofs.Common.{◌∷◌, ap, ◌∙◌}
use Rattle.text.specs.Grammar.{ended}
use Rattle.text.specs.Cuts.{others}
use Rattle.text.proofs.Pieces.{ended_more}
use Rattle.text.proofs.cut.next_line.Goals as goal

pub returns-in-Some-clause-lines : goal.returns-in-Some-clause-lines
returns-in-Some-clause-lines c =
    ap ended (c.cut.ensures.pieces ∙ ap (λ o. c.cut.result.0.now ∷ others 10 o) c.in-Some.is) ∙ ended_more 10 c.cut.result.0.now c.in-Some.rest.now
