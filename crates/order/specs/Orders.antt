-- Monomial orders, by meaning and laws. Assumes nothing.
--   Compare          how the first of two monomials stands to the second
--   OrderLaws n      the laws of a monomial order on the monomials in n variables
--   comparable       two monomials in equally many variables, at most 24, with exponents up to 255
--   compared         what an order's function answers: the verdict on comparable monomials, nothing on others
use Rattle.std.specs.Prelude.{◌≡◌, ℕ, Bool, cond, ◌&&◌, ◌≢◌, List, length, Some, None, Option, ◌==◌, nat_le}
use Rattle.std.specs.declared.cmp.Ordering.TheVariants.{Less, Equal, Greater}
use Rattle.std.specs.declared.cmp.Ordering.{Ordering}
use mathlib.Core.WellFounded.{Acc}
use Rattle.order.specs.Monomials.{Monomial, unit, multiply, small}

abbrev pub Compare : Type 0
Compare = List ℕ → List ℕ → Ordering

-- `ends` says that no run of falling monomials goes on for ever, in the form that gives induction
pub record OrderLaws (n : ℕ) (cmp : Compare) : Type 0 where
  pub self : (a : Monomial n) → cmp a.0 a.0 ≡ Equal
  pub same : (a b : Monomial n) → cmp a.0 b.0 ≡ Equal → a.0 ≡ b.0
  pub greater : (a b : Monomial n) → cmp a.0 b.0 ≡ Greater → cmp b.0 a.0 ≡ Less
  pub less : (a b : Monomial n) → cmp a.0 b.0 ≡ Less → cmp b.0 a.0 ≡ Greater
  pub trans : (a b c : Monomial n) → cmp a.0 b.0 ≡ Less → cmp b.0 c.0 ≡ Less → cmp a.0 c.0 ≡ Less
  pub translate : (m a b : Monomial n) → cmp (multiply m.0 a.0) (multiply m.0 b.0) ≡ cmp a.0 b.0
  pub unit_least : (a : Monomial n) → a.0 ≢ unit n → cmp (unit n) a.0 ≡ Less
  pub ends : (a : Monomial n) → Acc (λ (x y : Monomial n). cmp x.0 y.0 ≡ Less) a

abbrev pub comparable : List ℕ → List ℕ → Bool
comparable a b = length a == length b && nat_le (length a) 24 && small a && small b

abbrev pub compared : Compare → List ℕ → List ℕ → Option Ordering
compared cmp a b = cond (comparable a b) (Some (cmp a b)) None
