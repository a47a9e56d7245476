-- The ring that a value of the code stands for. Assumes nothing.
--   arithmetic_of, comparison_of    how its field computes, and how its order compares
--   in_ring           something said of a field, a number of variables and an order, said of those of a ring
--   over              what its polynomials are computed with
--   Within            a list of terms is a polynomial of it
--   Factor            a term with a code but 0 and as many exponents as it has variables
-- The type of a ring brings the meanings of its field and of its order, here f and o.
use Rattle.std.specs.Prelude.{ℕ, List}
use Rattle.field.specs.Fields.{Arithmetic}
use Rattle.order.specs.Orders.{Compare}
use Rattle.ideal.specs.Polynomials.{Operations, Term}
use Rattle.ideal.specs.Algebra.{NonzeroTerm}
use Rattle.ideal.specs.Rings.{Raw, ring, Polynomial}
use Rattle.polynomial.specs.declared.ring.Ring.{Ring}

abbrev pub arithmetic_of : {F O : Type 0} {f : _} {o : _} → Ring F O f o → Arithmetic
arithmetic_of {f = f} r = f.arithmetic r.field

abbrev pub comparison_of : {F O : Type 0} {f : _} {o : _} → Ring F O f o → Compare
comparison_of {o = o} r = o.comparison r.order

abbrev pub in_ring {ℓ} : {A : Type ℓ} {F O : Type 0} {f : _} {o : _} → (Arithmetic → ℕ → Compare → A) → Ring F O f o → A
in_ring said r = said (arithmetic_of r) r.variables (comparison_of r)

abbrev pub over : {F O : Type 0} {f : _} {o : _} → Ring F O f o → Operations ℕ (List ℕ)
over r = ring (arithmetic_of r) r.variables (comparison_of r)

abbrev pub Within : {F O : Type 0} {f : _} {o : _} → Ring F O f o → Raw → Type 0
Within r p = Polynomial (arithmetic_of r) r.variables (comparison_of r) p

abbrev pub Factor : {F O : Type 0} {f : _} {o : _} → Ring F O f o → Term ℕ (List ℕ) → Type 0
Factor r t = NonzeroTerm (arithmetic_of r) r.variables t
