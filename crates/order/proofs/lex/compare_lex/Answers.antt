-- std's comparison of slices is lex.
use Rattle.std.proofs.Common.{sym, ◌∙◌}
use Rattle.order.specs.LexLaws.{lex_std}
use Rattle.order.proofs.lex.compare_lex.Goals as goal

pub returns : goal.returns
returns c = c.cmp.ensures ∙ sym (lex_std c.args.a.now c.args.b.now)
