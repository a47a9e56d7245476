-- What the functions that cut answer, in the words of the grammar. Assumes nothing.
--   others s      the pieces of what follows a cut at the byte s
--   shown         a line that was cut off, as its bytes
--   lines_from    the lines of a text whose first one was cut off
use Rattle.std.specs.Prelude.{ℕ, List, [], ◌∷◌, Option, Some, None, option_map}
use denote.Ref.{Bor}
use Rattle.text.specs.Grammar.{pieces, lines}

abbrev pub others : ℕ → Option (Bor (List ℕ)) → List (List ℕ)
others s None = []
others s (Some rest) = pieces s rest.now

abbrev pub shown : Option (Bor (List ℕ)) → Option (List ℕ)
shown = option_map (λ line. line.now)

abbrev pub lines_from : Option (Option (Bor (List ℕ)) × Bor (List ℕ)) → List (Option (List ℕ))
lines_from None = []
lines_from (Some (line, rest)) = shown line ∷ lines rest.now
