-- What the three lines of the head say. Assumes nothing.
--   is_title        the first line, which is always the same
--   kind, order     what a word of the second line names
--   all_three       a kind, a number and an order, if all are there
--   values          the fields of the second line
--   values_of       what the code's `FieldLine` says
--   is_name         1 to 8 letters a to z
--   name_count      how many names there are, if each is one
--   names           the fields of the third line: do and coef, and how many names follow
use Rattle.std.specs.Prelude.{ℕ, ◌&&◌, Bool, List, [], ◌∷◌, Option, Some, None, length, if◌then◌else◌, codes, nat_le}
use Rattle.std.specs.List.{list_all}
use Rattle.std.specs.Str.{bytes_eq}
use Rattle.std.specs.Char.{is_ascii_lowercase}
use Rattle.text.specs.declared.head.Kind.{Kind}
use Rattle.text.specs.declared.head.Kind.TheVariants.{Residue, Bits}
use Rattle.text.specs.declared.head.Order.{Order}
use Rattle.text.specs.declared.head.Order.TheVariants.{Lex, Graded, Reverse}
use Rattle.text.specs.declared.head.FieldLine.{FieldLine}
use Rattle.text.specs.Grammar.{number}

abbrev pub is_title : List ℕ → Bool
is_title bs = bytes_eq bs (codes "field size order")

abbrev pub kind : List ℕ → Option Kind
kind w = if bytes_eq w (codes "residue") then Some Residue else if bytes_eq w (codes "bits") then Some Bits else None

abbrev pub order : List ℕ → Option Order
order w = if bytes_eq w (codes "lex") then Some Lex else if bytes_eq w (codes "graded") then Some Graded else if bytes_eq w (codes "reverse") then Some Reverse else None

abbrev pub all_three : Option Kind → Option ℕ → Option Order → Option (Kind × ℕ × Order)
all_three None size o = None
all_three (Some k) None o = None
all_three (Some k) (Some size) None = None
all_three (Some k) (Some size) (Some o) = Some (k, size, o)

abbrev pub values : List (List ℕ) → Option (Kind × ℕ × Order)
values [] = None
values (k ∷ []) = None
values (k ∷ s ∷ []) = None
values (k ∷ s ∷ o ∷ []) = all_three (kind k) (number s) (order o)
values (k ∷ s ∷ o ∷ p ∷ ps) = None

abbrev pub values_of : FieldLine → Kind × ℕ × Order
values_of f = (f.kind, f.size, f.order)

abbrev pub is_name : List ℕ → Bool
is_name w = nat_le 1 (length w) && (nat_le (length w) 8 && list_all is_ascii_lowercase w)

abbrev pub name_count : List (List ℕ) → Option ℕ
name_count ns = if list_all is_name ns then Some (length ns) else None

abbrev pub names : List (List ℕ) → Option ℕ
names [] = None
names (d ∷ []) = None
names (d ∷ c ∷ ns) = if bytes_eq d (codes "do") && bytes_eq c (codes "coef") then name_count ns else None
