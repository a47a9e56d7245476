-- An array whose places are written one after another. Assumes nothing.
use Rattle.std.proofs.Common.{◌≡◌, ℕ, ◌+◌, ◌-◌, ◌<◌, List, length, get_or, set, drop, replicate, sym, ap, ◌∙◌, inl, inr, arith}
use Rattle.std.proofs.lemmas.Bool.{cases_eq}
use Rattle.std.proofs.lemmas.List.{get_or-set_same, get_or-set_other, drop-set-lt, drop-drop, drop-replicate}

-- what holds of each place that was written holds of one more
pub each-more : (P : ℕ → ℕ → Type 0) (xs : List ℕ) (i v : ℕ) → i < length xs → ((k : ℕ) → k < i → P k (get_or xs k 0)) → P i v → (k : ℕ) → k < i + 1 → P k (get_or (set xs i v) k 0)
each-more P xs i v h each here k l = elim (cases_eq k i) [
  | inl e ↦ rw (e, get_or-set_same xs i v 0 h) here
  | inr n ↦ rw (get_or-set_other xs i k v 0 n) (each k (omega arith))
]

-- and behind them there is one 0 less
pub zeros-more : (xs : List ℕ) (i n v : ℕ) → i < n → drop i xs ≡ replicate (n - i) 0 → drop (i + 1) (set xs i v) ≡ replicate (n - (i + 1)) 0
zeros-more xs i n v h zeros =
    let e : n - i - 1 ≡ n - (i + 1) = omega arith in
    drop-set-lt (i + 1) xs i v (omega arith) ∙ sym (drop-drop 1 i xs) ∙ ap (drop 1) zeros ∙ drop-replicate 1 (n - i) 0 ∙ ap (λ m. replicate m 0) e
