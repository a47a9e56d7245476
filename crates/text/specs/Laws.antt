-- What holds of every text. Assumes nothing.
--   IsLine       bytes with no byte 10 among them
--   text_of      the text whose lines these are
--   Laws         a text of whole lines has these lines; and pieces, joined by the byte that parts them, give the bytes back
use Rattle.std.specs.Prelude.{◌≡◌, ℕ, ◌==◌, ◌++◌, false, List, [], ◌∷◌, Some, map}
use Rattle.std.specs.List.{All, join_with_byte}
use Rattle.text.specs.Grammar.{pieces, lines}

abbrev pub IsLine : List ℕ → Type 0
IsLine bs = All (λ b. (b == 10) ≡ false) bs

abbrev pub text_of : List (List ℕ) → List ℕ
text_of [] = []
text_of (l ∷ ls) = l ++ 10 ∷ text_of ls

pub record Laws : Type 0 where
  pub whole_lines : (ls : List (List ℕ)) → All IsLine ls → lines (text_of ls) ≡ map Some ls
  pub joined_pieces : (s : ℕ) (bs : List ℕ) → join_with_byte s (pieces s bs) ≡ bs
