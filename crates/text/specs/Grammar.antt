-- The grammar of a text, over its bytes. Assumes nothing.
--   pieces s bs      what the bytes s part: one piece more than there are bytes s
--   ended            the lines of a text, from what its bytes 10 part: None stands for bytes after the last byte 10
--   lines            the lines of a text
--   value n          the number n, continued by these digits
--   is_plain         not empty, and with no needless leading zero
--   number           1 to 5 digits, at most 65535, with no needless leading zero
--   and_then         a number before others, if all are there
--   number_list      the numbers of fields, if each is one
--   Line             what a later line says; Other is a line of another form
--   term n           a put line's numbers in n variables: a coefficient and n exponents, with at most 24 variables
--   put_numbers n    a put line's fields: the word put, and the numbers
--   said n           what a later line says in n variables
--   meant n          the same, of a line that maybe no byte 10 ends
use Rattle.std.specs.Prelude.{ℕ, suc, ◌+◌, ◌-◌, ◌*◌, ◌==◌, ◌&&◌, not, Bool, true, false, List, [], ◌∷◌, Option, Some, None, length, if◌then◌else◌, codes, nat_le}
use Rattle.std.specs.List.{slice_split}
use Rattle.std.specs.Str.{bytes_eq, all_ascii_digits}

abbrev pub pieces : ℕ → List ℕ → List (List ℕ)
pieces s bs = slice_split (λ b. b == s) bs

abbrev pub ended : List (List ℕ) → List (Option (List ℕ))
ended [] = []
ended ([] ∷ []) = []
ended ((b ∷ bs) ∷ []) = None ∷ []
ended (p ∷ q ∷ ps) = Some p ∷ ended (q ∷ ps)

abbrev pub lines : List ℕ → List (Option (List ℕ))
lines bs = ended (pieces 10 bs)

abbrev pub value : ℕ → List ℕ → ℕ
value n [] = n
value n (c ∷ cs) = value (n * 10 + (c - 48)) cs

abbrev pub is_plain : List ℕ → Bool
is_plain [] = false
is_plain (c ∷ []) = true
is_plain (c ∷ d ∷ cs) = not (c == 48)

abbrev pub number : List ℕ → Option ℕ
number w = if is_plain w && (nat_le (length w) 5 && (all_ascii_digits w && nat_le (value 0 w) 65535)) then Some (value 0 w) else None

abbrev pub and_then : Option ℕ → Option (List ℕ) → Option (List ℕ)
and_then None ns = None
and_then (Some n) None = None
and_then (Some n) (Some ns) = Some (n ∷ ns)

abbrev pub number_list : List (List ℕ) → Option (List ℕ)
number_list [] = Some []
number_list (w ∷ ws) = and_then (number w) (number_list ws)

pub data Line : Type 0 where
  -- the coefficient, and then the exponents
  Put : List ℕ → Line
  Cofactor : Line
  Rule : Line
  Offer : Line
  Question : Line
  Close : Line
  Finish : Line
  Other : Line

abbrev pub term : ℕ → Option (List ℕ) → Line
term n None = Other
term n (Some ns) = if nat_le n 24 && length ns == suc n then Put ns else Other

abbrev pub put_numbers : ℕ → List (List ℕ) → Line
put_numbers n [] = Other
put_numbers n (w ∷ ws) = if bytes_eq w (codes "put") then term n (number_list ws) else Other

abbrev pub said : ℕ → List ℕ → Line
said n bs =
    if bytes_eq bs (codes "cofactor") then Cofactor
    else if bytes_eq bs (codes "rule") then Rule
    else if bytes_eq bs (codes "offer") then Offer
    else if bytes_eq bs (codes "question") then Question
    else if bytes_eq bs (codes "close") then Close
    else if bytes_eq bs (codes "finish") then Finish
    else put_numbers n (pieces 32 bs)

abbrev pub meant : ℕ → Option (List ℕ) → Line
meant n None = Other
meant n (Some bs) = said n bs
