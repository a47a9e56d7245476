-- Lists of exponents, a place at a time. Assumes nothing.
use Rattle.std.proofs.Common.{◌≡◌, ℕ, zero, suc, ◌+◌, ◌-◌, ◌<◌, ◌≤◌, true, false, ◌&&◌, leb, List, [], ◌∷◌, length, get_or, take, drop, replicate, sym, refl, ap, ◌∙◌, inl, inr, arith}
use Rattle.std.proofs.lemmas.Bool.{cases_Bool, le-leb, leb-true, and_parts, and_from}
use Rattle.std.proofs.lemmas.List.{ext_get_or, length-take-le, get_or-take}
use Rattle.std.proofs.lemmas.List.Recursion.{and_from_places}
use Rattle.order.specs.Monomials.{multiply, small}

-- fronts of two lengths meet at the shorter
pub multiply_fronts : (i j k : ℕ) (xs ys : List ℕ) → k ≡ i - (i - j) → multiply (take i xs) (take j ys) ≡ take k (multiply xs ys)
multiply_fronts zero j zero xs ys h = refl
multiply_fronts zero j (suc k) xs ys h = absurd (omega arith)
multiply_fronts (suc i) zero zero [] ys h = refl
multiply_fronts (suc i) zero zero (x ∷ xs) ys h = refl
multiply_fronts (suc i) zero (suc k) xs ys h = absurd (omega arith)
multiply_fronts (suc i) (suc j) zero xs ys h = absurd (omega arith)
multiply_fronts (suc i) (suc j) (suc k) [] ys h = refl
multiply_fronts (suc i) (suc j) (suc k) (x ∷ xs) [] h = refl
multiply_fronts (suc i) (suc j) (suc k) (x ∷ xs) (y ∷ ys) h = ap (λ t. (x + y) ∷ t) (multiply_fronts i j k xs ys (omega arith))

pub multiply_at : (i : ℕ) (xs ys : List ℕ) → i < length xs → i < length ys → get_or (multiply xs ys) i 0 ≡ get_or xs i 0 + get_or ys i 0
multiply_at i [] ys h k = absurd (omega arith)
multiply_at i (x ∷ xs) [] h k = absurd (omega arith)
multiply_at zero (x ∷ xs) (y ∷ ys) h k = refl
multiply_at (suc i) (x ∷ xs) (y ∷ ys) h k = multiply_at i xs ys (omega arith) (omega arith)

pub multiply-length : (xs ys : List ℕ) → length xs ≡ length ys → length (multiply xs ys) ≡ length xs
multiply-length [] ys h = refl
multiply-length (x ∷ xs) [] h = absurd (omega arith)
multiply-length (x ∷ xs) (y ∷ ys) h = ap suc (multiply-length xs ys (omega arith))

pub small_at : (i : ℕ) (xs : List ℕ) → small xs ≡ true → i < length xs → get_or xs i 0 ≤ 255
small_at i [] s h = absurd (omega arith)
small_at zero (x ∷ xs) s h = leb-true x 255 (and_parts (leb x 255) (small xs) s).0
small_at (suc i) (x ∷ xs) s h = small_at i xs (and_parts (leb x 255) (small xs) s).1 (omega arith)

pub not_small : (i : ℕ) (xs : List ℕ) → i < length xs → 255 < get_or xs i 0 → small xs ≡ false
not_small i xs h k = elim (cases_Bool (small xs)) [
  | inl t ↦ let l = small_at i xs t h in absurd (omega arith)
  | inr f ↦ f
]

pub small-take : (i : ℕ) (xs : List ℕ) → small xs ≡ true → small (take i xs) ≡ true
small-take zero xs s = refl
small-take (suc i) [] s = refl
small-take (suc i) (x ∷ xs) s = let (a, b) = and_parts (leb x 255) (small xs) s in and_from (leb x 255) (small (take i xs)) a (small-take i xs b)

-- places that are all low, and 0 behind a front

pub small_from : (xs : List ℕ) → ((k : ℕ) → k < length xs → get_or xs k 0 ≤ 255) → small xs ≡ true
small_from xs low = and_from_places small (λ e. leb e 255) refl (λ _ _. refl) xs 0 (λ k h. le-leb (get_or xs k 0) 255 (low k h))

small-zeros : (m : ℕ) → small (replicate m 0) ≡ true
small-zeros zero = refl
small-zeros (suc m) = small-zeros m

pub small-front : (n m : ℕ) (xs : List ℕ) → drop n xs ≡ replicate m 0 → small (take n xs) ≡ small xs
small-front zero m xs h = sym (ap small h ∙ small-zeros m)
small-front (suc n) m [] h = refl
small-front (suc n) m (x ∷ xs) h = ap (λ b. leb x 255 && b) (small-front n m xs h)

pub low_front : (n m : ℕ) (xs : List ℕ) → n ≤ length xs → drop n xs ≡ replicate m 0 → ((k : ℕ) → k < n → get_or xs k 0 ≤ 255) → small xs ≡ true
low_front n m xs l zeros low = sym (small-front n m xs zeros) ∙ small_from (take n xs) (λ k h. let d = length-take-le n xs l in rw (get_or-take n xs k 0 (omega arith)) (low k (omega arith)))

-- a front that is the same place by place
pub same_front : (n : ℕ) (xs ys : List ℕ) → n ≤ length xs → n ≤ length ys → ((k : ℕ) → k < n → get_or xs k 0 ≡ get_or ys k 0) → take n xs ≡ take n ys
same_front n xs ys h l at = ext_get_or 0 (take n xs) (take n ys) (length-take-le n xs h ∙ sym (length-take-le n ys l))
    (λ k i. let d = length-take-le n xs h in get_or-take n xs k 0 (omega arith) ∙ at k (omega arith) ∙ sym (get_or-take n ys k 0 (omega arith)))
