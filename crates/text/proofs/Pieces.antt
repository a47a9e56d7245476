-- Where the first piece ends. Assumes nothing.
use Rattle.std.proofs.Common.{◌≡◌, ℕ, zero, suc, ◌<◌, Bool, true, false, cond, eqb, List, [], ◌∷◌, Some, length, get_or, take, drop, refl, ap, arith}
use Rattle.std.specs.List.{onto_first}
use Rattle.text.specs.Grammar.{pieces, ended}

-- the piece before a byte 10 is a line
pub ended_more : (s : ℕ) (p xs : List ℕ) → ended (p ∷ pieces s xs) ≡ Some p ∷ ended (pieces s xs)
ended_more s p [] = refl
ended_more s p (b ∷ bs) = either (eqb b s) (pieces s bs)
  where
    either : (t : Bool) (ps : List (List ℕ)) → ended (p ∷ cond t ([] ∷ ps) (onto_first b ps)) ≡ Some p ∷ ended (cond t ([] ∷ ps) (onto_first b ps))
    either true ps = refl
    either false [] = refl
    either false (q ∷ qs) = refl

-- the first piece ends before the first byte s
pub pieces_at : (s : ℕ) (xs : List ℕ) (i : ℕ) → i < length xs → eqb (get_or xs i 0) s ≡ true → ((k : ℕ) → k < i → eqb (get_or xs k 0) s ≡ false) → pieces s xs ≡ take i xs ∷ pieces s (drop (suc i) xs)
pieces_at s [] i lt e h = absurd (omega arith)
pieces_at s (x ∷ xs) zero lt e h = rw e refl
pieces_at s (x ∷ xs) (suc i) lt e h = rw (h 0 (omega arith)) (ap (onto_first x) (pieces_at s xs i (omega arith) e (λ k l. h (suc k) (omega arith))))
