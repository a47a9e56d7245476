use Rattle.std.proofs.Common.{◌≡◌, ℕ, suc, List, [], ◌∷◌, Some, map, eqb, refl, ap, ◌∙◌, arith}
use Rattle.std.proofs.lemmas.List.Splits.{slice_split_at, join_with_byte-slice_split}
use Rattle.std.specs.List.{All}
use Rattle.text.specs.Grammar.{lines, ended}
use Rattle.text.specs.Laws.{IsLine, text_of}
use Rattle.text.proofs.Pieces.{ended_more}
use Rattle.text.proofs.text_laws.Goals as goal

whole : (ls : List (List ℕ)) → All IsLine ls → lines (text_of ls) ≡ map Some ls
whole [] h = refl
whole (l ∷ ls) h =
    ap ended (slice_split_at (λ b. eqb b 10) l 10 (text_of ls) (h 0 [] (omega arith)) refl)
    ∙ ended_more 10 l (text_of ls)
    ∙ ap (λ more. Some l ∷ more) (whole ls (λ k d lt. h (suc k) d (omega arith)))

pub returns : goal.returns
returns c = record { whole_lines = whole; joined_pieces = join_with_byte-slice_split }
