-- Three monomial orders, by meaning. Assumes nothing.
--   nat_cmp                   std's word: how one number stands to another
--   ordering_then             std's word: the first verdict, or the second where the first is Equal
--   ordering_reverse          std's word: Less and Greater exchanged
--   lex                       the first differing exponent decides: the greater is higher
--   degree, by_degree         the sum of the exponents; the greater degree is higher
--   backward, backward_lex    the last exponent first; the last differing exponent decides: the smaller is higher
--   graded                    by degree, and lex decides a tie
--   reverse                   by degree, and backward_lex decides a tie
use Rattle.std.specs.Prelude.{ℕ, ◌+◌, List, [], ◌∷◌, reverse as backward}
use Rattle.std.specs.declared.cmp.Ordering.TheVariants.{Less, Equal, Greater}
use Rattle.std.specs.Ordering.{ordering_then, ordering_reverse, nat_cmp}
use Rattle.order.specs.Orders.{Compare}

abbrev pub lex : Compare
lex [] [] = Equal
lex [] (y ∷ b) = Less
lex (x ∷ a) [] = Greater
lex (x ∷ a) (y ∷ b) = ordering_then (nat_cmp x y) (lex a b)

abbrev pub degree : List ℕ → ℕ
degree [] = 0
degree (x ∷ a) = x + degree a

abbrev pub by_degree : Compare
by_degree a b = nat_cmp (degree a) (degree b)

abbrev pub backward_lex : Compare
backward_lex a b = ordering_reverse (lex (backward a) (backward b))

abbrev pub graded : Compare
graded a b = ordering_then (by_degree a b) (lex a b)

abbrev pub reverse : Compare
reverse a b = ordering_then (by_degree a b) (backward_lex a b)
