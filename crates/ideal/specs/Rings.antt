-- Polynomials in n variables over a field, ordered by a monomial order. Assumes nothing.
--   Raw               a polynomial as it is written down: codes and lists of exponents
--   RawElement        an element as it is written down
--   ring k n cmp      what such polynomials are computed with
--   Polynomial        a list of terms that is a polynomial: codes but 0, n exponents each, the monomials falling
use Rattle.std.specs.Prelude.{◌≡◌, ℕ, ◌<◌, List, length, ◌==◌}
use Rattle.field.specs.Fields.{Arithmetic}
use Rattle.order.specs.Monomials.{unit, multiply}
use Rattle.order.specs.Orders.{Compare}
use Rattle.ideal.specs.Lists.{Each}
use Rattle.ideal.specs.Divisibility.{quotient, to_lcm}
use Rattle.ideal.specs.Polynomials.{Operations, Poly, Element, Falling}

abbrev pub Raw : Type 0
Raw = Poly ℕ (List ℕ)

abbrev pub RawElement : Type 0
RawElement = Element ℕ (List ℕ)

abbrev pub ring : Arithmetic → ℕ → Compare → Operations ℕ (List ℕ)
ring k n cmp = record {
  zero = 0;
  one = 1;
  plus = k.sum;
  negate = k.opposite;
  times = k.product;
  inverse = k.inverse;
  is_zero = λ c. (c == 0);
  unit = unit n;
  multiply = multiply;
  quotient = quotient;
  to_lcm = to_lcm;
  compare = cmp;
}

abbrev pub Polynomial : Arithmetic → ℕ → Compare → Raw → Type 0
Polynomial k n cmp p = Each (λ t. (t.0 < k.size) × (length t.1 ≡ n)) p × Falling (ring k n cmp) p
