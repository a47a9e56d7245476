-- std's comparison of two slices read from their ends is lex.
use Rattle.std.proofs.Common.{◌≡◌, reverse as backward, sym, refl, ap, ◌∙◌}
use Rattle.std.proofs.lemmas.Iterator.Adapters.{YieldsList-from_rev_slice}
use Rattle.std.proofs.lemmas.Iterator.Search.{cmp_from_yields_List}
use Rattle.std.specs.Ordering.{ordering_reverse, nat_cmp}
use Rattle.order.specs.LexLaws.{lex_std}
use Rattle.order.proofs.reverse.compare_backward.Goals as goal

pub returns : goal.returns
returns c =
    let a = c.args.a.now in
    let b = c.args.b.now in
    let verdict =
    cmp_from_yields_List (λ x y. y ≡ x) _ nat_cmp c.cmp.result c.cmp.ensures.ran (YieldsList-from_rev_slice a cc)
    (λ it e. YieldsList-from_rev_slice b cc) (λ x y. refl) in
    c.reverse.ensures ∙ ap ordering_reverse (verdict ∙ sym (lex_std (backward a) (backward b)))
