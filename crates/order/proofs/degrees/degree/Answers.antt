-- The degree is std's sum.
use Rattle.std.proofs.Common.{◌≡◌, rules, sum, sym, refl, ◌∙◌}
use Rattle.std.proofs.lemmas.List.Recursion.{is_sum_by}
use Rattle.order.specs.Listed.{degree}
use Rattle.order.proofs.degrees.degree.Goals as goal

pub returns : goal.returns
returns c =
    let m = c.args.monomial.now in
    let summed : c.sum.result ≡ sum m = search rules in
    summed ∙ sym (is_sum_by degree (λ x. x) refl (λ _ _. refl) m)
