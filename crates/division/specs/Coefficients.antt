-- Coefficients by which leading terms cancel. Assumes nothing.
--   opposite_inverse b       −1/b
--   opposite_quotient a b    −a/b, where a and b are codes and b is not 0
use Rattle.std.specs.Prelude.{ℕ, cond, ◌&&◌, Some, None, Option, nat_lt}
use Rattle.field.specs.Fields.{Arithmetic}

abbrev pub opposite_inverse : Arithmetic → ℕ → ℕ
opposite_inverse k b = k.opposite (k.inverse b)

abbrev pub opposite_quotient : Arithmetic → ℕ → ℕ → Option ℕ
opposite_quotient k a b = cond ((nat_lt 0 b && nat_lt b k.size) && nat_lt a k.size) (Some (k.opposite (k.product a (k.inverse b)))) None
