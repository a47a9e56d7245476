-- A list cut into parts by counts, a part at a time. Assumes nothing.
use Rattle.std.proofs.Common.{◌≡◌, ℕ, zero, suc, ◌+◌, ◌*◌, ◌<◌, ◌≤◌, true, leb, List, [], ◌∷◌, ◌++◌, length, get_or, take, drop, sym, refl, ap, ◌∙◌, ap₂, add-one, arith}
use Rattle.std.proofs.lemmas.List.{length-drop, nil_from_length, take_all, take-append-le, drop-append-le, drop-drop}
use Rattle.std.proofs.lemmas.Bool.{le-leb, leb-true, and_parts, and_from}
use Rattle.polynomial.specs.Cuts.{total, each_short, cut}

-- the sum of the counts

pub total_push : (counts : List ℕ) (n : ℕ) → total (counts ++ (n ∷ [])) ≡ total counts + n
total_push [] n = omega arith
total_push (c ∷ counts) n = let e = total_push counts n in omega arith

pub total_take_more : (counts : List ℕ) (i : ℕ) → i < length counts → total (take (i + 1) counts) ≡ total (take i counts) + get_or counts i 0
total_take_more counts i h = rw (add-one i) (at counts i h)
  where
    at : (counts : List ℕ) (i : ℕ) → i < length counts → total (take (suc i) counts) ≡ total (take i counts) + get_or counts i 0
    at [] i h = absurd (omega arith)
    at (c ∷ counts) zero h = omega arith
    at (c ∷ counts) (suc i) h = let e = at counts i (omega arith) in omega arith

pub total-take_le : (counts : List ℕ) (i : ℕ) → total (take i counts) ≤ total counts
total-take_le counts zero = omega arith
total-take_le [] (suc i) = omega arith
total-take_le (c ∷ counts) (suc i) = let l = total-take_le counts i in omega arith

-- a part ends within the list
pub total_within : (counts : List ℕ) (i : ℕ) → i < length counts → total (take i counts) + get_or counts i 0 ≤ total counts
total_within counts i h =
    let e = total_take_more counts i h in
    let l = total-take_le counts (i + 1) in
    omega arith

-- the parts

pub cut-length : {A : Type 0} (counts : List ℕ) (xs : List A) → length (cut counts xs) ≡ length counts
cut-length [] xs = refl
cut-length (c ∷ counts) xs = ap suc (cut-length counts (drop c xs))

-- a part behind the others
pub cut_push : {A : Type 0} (counts : List ℕ) (xs ys : List A) → total counts ≡ length xs → cut (counts ++ (length ys ∷ [])) (xs ++ ys) ≡ cut counts xs ++ (ys ∷ [])
cut_push [] xs ys h = ap (λ x. take (length ys) (x ++ ys) ∷ []) (nil_from_length xs (sym h)) ∙ ap (λ x. x ∷ []) (take_all (length ys) ys (omega arith))
cut_push (c ∷ counts) xs ys h =
    let d = length-drop c xs in
    ap₂ (λ x y. x ∷ cut (counts ++ (length ys ∷ [])) y) (take-append-le c xs ys (omega arith)) (drop-append-le c xs ys (omega arith))
    ∙ ap (λ parts. take c xs ∷ parts) (cut_push counts (drop c xs) ys (omega arith))

-- a part by its number: it begins where those before it end
pub cut_at : {A : Type 0} (counts : List ℕ) (xs : List A) (i : ℕ) → i < length counts → get_or (cut counts xs) i [] ≡ take (get_or counts i 0) (drop (total (take i counts)) xs)
cut_at [] xs i h = absurd (omega arith)
cut_at (c ∷ counts) xs zero h = refl
cut_at (c ∷ counts) xs (suc i) h = cut_at counts (drop c xs) i (omega arith) ∙ ap (take (get_or counts i 0)) (drop-drop (total (take i counts)) c xs)

-- counts that are all at most 32

pub short_push : (counts : List ℕ) (n : ℕ) → n ≤ 32 → each_short counts ≡ true → each_short (counts ++ (n ∷ [])) ≡ true
short_push [] n h s = and_from (leb n 32) true (le-leb n 32 h) refl
short_push (c ∷ counts) n h s = let (a, b) = and_parts (leb c 32) (each_short counts) s in and_from (leb c 32) (each_short (counts ++ (n ∷ []))) a (short_push counts n h b)

pub short_at : (counts : List ℕ) (i : ℕ) → each_short counts ≡ true → i < length counts → get_or counts i 0 ≤ 32
short_at [] i s h = absurd (omega arith)
short_at (c ∷ counts) zero s h = leb-true c 32 (and_parts (leb c 32) (each_short counts) s).0
short_at (c ∷ counts) (suc i) s h = short_at counts i (and_parts (leb c 32) (each_short counts) s).1 (omega arith)

pub short-total : (counts : List ℕ) → each_short counts ≡ true → total counts ≤ 32 * length counts
short-total [] s = omega arith
short-total (c ∷ counts) s =
    let (a, b) = and_parts (leb c 32) (each_short counts) s in
    let l = leb-true c 32 a in
    let m = short-total counts b in
    omega arith
