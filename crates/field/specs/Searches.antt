-- The two searches by which the listed fields are defined. Assumes nothing.
--   among xs n           whether n is one of the numbers xs
--   inverse_below q f a  the number b below q with f a b ≡ 1, or 0 where there is none (in a field there is one at most)
use Rattle.std.specs.Prelude.{ℕ, zero, suc, Bool, false, cond, ◌||◌, List, [], ◌∷◌, ◌==◌}

abbrev pub among : List ℕ → ℕ → Bool
among [] n = false
among (x ∷ xs) n = n == x || among xs n

abbrev pub inverse_below : ℕ → (ℕ → ℕ → ℕ) → ℕ → ℕ
inverse_below zero f a = 0
inverse_below (suc b) f a = cond (f a b == 1) b (inverse_below b f a)
