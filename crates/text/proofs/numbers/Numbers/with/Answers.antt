use Rattle.std.proofs.Common.{◌≡◌, ℕ, suc, ◌+◌, ◌-◌, ◌<◌, List, length, drop, replicate, set, sym, ap, ◌∙◌, arith}
use Rattle.std.proofs.lemmas.List.{drop-set-lt, drop_more, length-set}
use Rattle.text.proofs.numbers.Numbers.with.Goals as goal

zeros_after : (xs : List ℕ) (n a : ℕ) → length xs ≡ 25 → n < 25 → drop n xs ≡ replicate (25 - n) 0 → drop (n + 1) (set xs n a) ≡ replicate (25 - (n + 1)) 0
zeros_after xs n a full lt zeros =
    let e : 25 - n ≡ suc (25 - (n + 1)) = omega arith in
    drop-set-lt (n + 1) xs n a (omega arith) ∙ ap (drop 1) (sym (drop_more xs n 0 (omega arith)) ∙ zeros ∙ ap (λ k. replicate k 0) e)

pub invariant_of-result : goal.invariant_of-result
invariant_of-result c =
    let ns = c.args.self.now in
    let few = ns.few in
    record { few = omega arith; full = length-set ns.numbers ns.count c.args.number ∙ ns.full; zeros = zeros_after ns.numbers ns.count c.args.number ns.full (omega arith) ns.zeros }
