-- A list cut into parts by counts. Assumes nothing.
--   total         the sum of the counts
--   each_short    no count is above 32
--   cut           the parts, one behind the other
use Rattle.std.specs.Prelude.{ℕ, ◌+◌, Bool, true, ◌&&◌, List, [], ◌∷◌, take, drop, nat_le}

abbrev pub total : List ℕ → ℕ
total [] = 0
total (c ∷ counts) = c + total counts

abbrev pub each_short : List ℕ → Bool
each_short [] = true
each_short (c ∷ counts) = nat_le c 32 && each_short counts

abbrev pub cut : {A : Type 0} → List ℕ → List A → List (List A)
cut [] xs = []
cut (c ∷ counts) xs = take c xs ∷ cut counts (drop c xs)
