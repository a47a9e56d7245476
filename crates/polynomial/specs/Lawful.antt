-- What a ring knows of its field and its order. Assumes nothing.
--   Lawful k cmp    the field computes as a field, and the order is a monomial order in any number of variables
use Rattle.std.specs.Prelude.{ℕ}
use Rattle.field.specs.Fields.{Arithmetic, FieldLaws}
use Rattle.order.specs.Orders.{Compare, OrderLaws}

abbrev pub Lawful : Arithmetic → Compare → Type 0
Lawful k cmp = FieldLaws k × ((n : ℕ) → OrderLaws n cmp)
