-- The sum of the library is the total, and each count is below 2^16.
use Rattle.std.proofs.Common.{◌≡◌, ℕ, ◌+◌, ◌*◌, ◌<◌, ◌≤◌, List, [], ◌∷◌, sum, length, get_or, suc, refl, ap, ◌∙◌, rules, arith}
use Rattle.std.proofs.lemmas.List.Sums.{sum_by-cons}
use Rattle.polynomial.specs.Cuts.{total}
use Rattle.combination.proofs.table.count_terms.Goals as goal

totals : (counts : List ℕ) → sum counts ≡ total counts
totals [] = refl
totals (c ∷ counts) = sum_by-cons (λ n. n) c counts ∙ ap (λ n. c + n) (totals counts)

total-le : (counts : List ℕ) → ((i : ℕ) → get_or counts i 0 < 65536) → total counts ≤ 65535 * length counts
total-le [] small = omega arith
total-le (c ∷ counts) small = let first : c < 65536 = small 0 in let rest = total-le counts (λ i. small (suc i)) in omega arith

pub returns : goal.returns
returns c =
    let counts = c.args.counts.now in
    let is : c.sum.result ≡ sum counts = search rules in
    let all = is ∙ totals counts in
    record { value = all; bound = let most = total-le counts (λ i. let fits = c.type_inv.counts i in omega arith) in omega arith }
