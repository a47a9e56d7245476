-- Reading a number digit by digit. Assumes nothing.
use Rattle.std.proofs.Common.{◌≡◌, ℕ, ◌+◌, ◌-◌, ◌*◌, ◌<◌, ◌≤◌, true, false, cond, ◌&&◌, leb, List, [], ◌∷◌, Option, Some, None, length, get_or, drop, refl, arith}
use Rattle.std.proofs.lemmas.List.{drop_more, drop_all}
use Rattle.std.proofs.lemmas.Bool.{le-leb, lt-leb, and_right}
use Rattle.std.specs.Str.{all_ascii_digits}
use Rattle.std.specs.Char.{is_ascii_digit}
use Rattle.text.specs.Grammar.{value}

-- what the rest of a number's digits decides, after the value n
abbrev pub decided : ℕ → List ℕ → Option ℕ
decided n ds = cond (all_ascii_digits ds && leb (value n ds) 65535) (Some (value n ds)) None

-- a number only grows
pub value-ge : (n : ℕ) (ds : List ℕ) → n ≤ value n ds
value-ge n [] = omega arith
value-ge n (c ∷ cs) = omega (arith, value-ge (n * 10 + (c - 48)) cs)

pub digit_more : (n : ℕ) (ds : List ℕ) (i : ℕ) → i < length ds → is_ascii_digit (get_or ds i 0) ≡ true → decided n (drop i ds) ≡ decided (n * 10 + (get_or ds i 0 - 48)) (drop (i + 1) ds)
digit_more n ds i lt d = rw (drop_more ds i 0 lt, d)

pub digit_bad : (n : ℕ) (ds : List ℕ) (i : ℕ) → i < length ds → is_ascii_digit (get_or ds i 0) ≡ false → decided n (drop i ds) ≡ None
digit_bad n ds i lt d = rw (drop_more ds i 0 lt, d)

pub digit_over : (n : ℕ) (ds : List ℕ) → 65535 < n → decided n ds ≡ None
digit_over n ds over = rw (lt-leb (value n ds) 65535 (omega (arith, value-ge n ds)), and_right (all_ascii_digits ds) false refl)

pub decided_end : (n : ℕ) (ds : List ℕ) (i : ℕ) → length ds ≤ i → n ≤ 65535 → decided n (drop i ds) ≡ Some n
decided_end n ds i out fits = rw (drop_all i ds out, le-leb n 65535 fits)
