-- What lists of exponents are multiplied by to meet, a place at a time. Assumes nothing.
use Rattle.std.proofs.Common.{◌≡◌, ℕ, zero, suc, ◌-◌, ◌<◌, List, [], ◌∷◌, length, get_or, take, refl, ap, arith}
use Rattle.ideal.specs.Divisibility.{to_lcm}

-- fronts of two lengths meet at the shorter
pub to_lcm_fronts : (i j k : ℕ) (xs ys : List ℕ) → k ≡ i - (i - j) → to_lcm (take i xs) (take j ys) ≡ take k (to_lcm xs ys)
to_lcm_fronts zero j zero xs ys h = refl
to_lcm_fronts zero j (suc k) xs ys h = absurd (omega arith)
to_lcm_fronts (suc i) zero zero [] ys h = refl
to_lcm_fronts (suc i) zero zero (x ∷ xs) ys h = refl
to_lcm_fronts (suc i) zero (suc k) xs ys h = absurd (omega arith)
to_lcm_fronts (suc i) (suc j) zero xs ys h = absurd (omega arith)
to_lcm_fronts (suc i) (suc j) (suc k) [] ys h = refl
to_lcm_fronts (suc i) (suc j) (suc k) (x ∷ xs) [] h = refl
to_lcm_fronts (suc i) (suc j) (suc k) (x ∷ xs) (y ∷ ys) h = ap (λ t. (y - x) ∷ t) (to_lcm_fronts i j k xs ys (omega arith))

pub to_lcm_at : (i : ℕ) (xs ys : List ℕ) → i < length xs → i < length ys → get_or (to_lcm xs ys) i 0 ≡ get_or ys i 0 - get_or xs i 0
to_lcm_at i [] ys h k = absurd (omega arith)
to_lcm_at i (x ∷ xs) [] h k = absurd (omega arith)
to_lcm_at zero (x ∷ xs) (y ∷ ys) h k = refl
to_lcm_at (suc i) (x ∷ xs) (y ∷ ys) h k = to_lcm_at i xs ys (omega arith) (omega arith)

pub to_lcm-length : (xs ys : List ℕ) → length xs ≡ length ys → length (to_lcm xs ys) ≡ length xs
to_lcm-length [] ys h = refl
to_lcm-length (x ∷ xs) [] h = absurd (omega arith)
to_lcm-length (x ∷ xs) (y ∷ ys) h = ap suc (to_lcm-length xs ys (omega arith))
