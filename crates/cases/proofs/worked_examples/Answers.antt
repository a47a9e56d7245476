use Rattle.std.proofs.Common.{refl}
use Rattle.cases.proofs.worked_examples.Goals as goal

pub returns : goal.returns
returns c = record {
  orders = record { by_lex = (refl, refl); by_graded = (refl, refl); by_reverse = (refl, refl) };
  binary_products = record { in_4 = (refl, refl); in_8 = refl; in_16 = refl };
  one_variable = record { combined = refl; passed = refl; refused = refl };
  two_variables = record { product_vanishes = (9, refl); element_vanishes = (9, refl); square_vanishes = (9, refl); sum_leaves_1 = (9, refl); alone = (9, refl) };
  one_pair = record { pair = refl; remainder = (9, refl) };
}
