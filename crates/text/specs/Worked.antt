-- Worked examples of the grammar, as one checked list. Assumes nothing.
--   Worked    all of them
use Rattle.std.specs.Prelude.{◌≡◌, [], ◌∷◌, true, false, Some, None, codes}
use Rattle.text.specs.declared.head.Kind.TheVariants.{Bits}
use Rattle.text.specs.declared.head.Order.TheVariants.{Reverse}
use Rattle.text.specs.Grammar.{Put, Rule, Other, pieces, number, lines, said, meant}
use Rattle.text.specs.Heads.{is_title, values, names}

pub record Worked : Type 0 where
  pub title : is_title (codes "field size order") ≡ true
  pub title_and_space : is_title (codes "field size order ") ≡ false
  pub second_line : values (pieces 32 (codes "bits 16 reverse")) ≡ Some (Bits, 16, Reverse)
  pub no_order : values (pieces 32 (codes "bits 16")) ≡ None
  pub two_names : names (pieces 32 (codes "do coef a bc")) ≡ Some 2
  pub no_names : names (pieces 32 (codes "do coef")) ≡ Some 0
  pub long_name : names (pieces 32 (codes "do coef abcdefghi")) ≡ None
  pub most : number (codes "65535") ≡ Some 65535
  pub zero : number (codes "0") ≡ Some 0
  pub past : number (codes "65536") ≡ None
  pub padded : number (codes "07") ≡ None
  pub empty : number [] ≡ None
  pub ended : lines (codes "ab\n\n") ≡ Some (codes "ab") ∷ Some [] ∷ []
  pub open_ended : lines (codes "ab\n\nc") ≡ Some (codes "ab") ∷ Some [] ∷ None ∷ []
  pub put : said 1 (codes "put 1 2") ≡ Put (1 ∷ 2 ∷ [])
  pub two_spaces : said 1 (codes "put 1  2") ≡ Other
  pub too_few : said 2 (codes "put 1 2") ≡ Other
  pub rule : said 24 (codes "rule") ≡ Rule
  pub rule_and_space : said 24 (codes "rule ") ≡ Other
  pub not_ended : meant 24 None ≡ Other
