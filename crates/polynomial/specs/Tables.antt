-- Tables of numbers read as polynomials: to each term its coefficient, then its n exponents. Assumes nothing.
--   most              how many terms a table may have
--   falls last m      the monomial m is lower than the one before, where there is one
--   term i last xs    term number i, behind the monomial `last`, from its own numbers
--   terms c i last    the next c terms, the first of them number i
--   read most         the polynomial of a table of at most so many terms
use Rattle.std.specs.Prelude.{ℕ, zero, suc, ◌/◌, ◌%◌, Bool, true, false, ◌&&◌, List, [], ◌∷◌, length, take, drop, Some, None, Ok, Err, Option, Result, ◌==◌, nat_le, nat_lt}
use Rattle.std.specs.declared.cmp.Ordering.TheVariants.{Less, Equal, Greater}
use Rattle.std.specs.declared.cmp.Ordering.{Ordering}
use Rattle.field.specs.Fields.{Arithmetic}
use Rattle.order.specs.Monomials.{small}
use Rattle.order.specs.Orders.{Compare}
use Rattle.ideal.specs.Polynomials.{Term}
use Rattle.ideal.specs.Rings.{Raw}
use Rattle.polynomial.specs.Results.{◌>>=◌, ◌>>◌, check}
use Rattle.polynomial.specs.declared.flaw.TableSize.{TableSize}
use Rattle.polynomial.specs.declared.flaw.TableSize.TheVariants.{Short, Long}
use Rattle.polynomial.specs.declared.flaw.Flaw.{Flaw}
use Rattle.polynomial.specs.declared.flaw.Flaw.TheVariants.{Length, Terms, Coefficient, Exponent, Order}

abbrev pub most : TableSize → ℕ
most Short = 32
most Long = 512

abbrev pub is_less : Ordering → Bool
is_less Less = true
is_less Equal = false
is_less Greater = false

abbrev pub falls : Compare → Option (List ℕ) → List ℕ → Bool
falls cmp None m = true
falls cmp (Some last) m = is_less (cmp m last)

-- without numbers there is no term: a table whose length is a multiple of n + 1 does not come to that
abbrev pub term : Arithmetic → Compare → ℕ → Option (List ℕ) → List ℕ → Result (Term ℕ (List ℕ)) Flaw
term k cmp i last [] = Err Length
term k cmp i last (c ∷ m) = do
  check (nat_lt 0 c && nat_lt c k.size) (Coefficient i)
  check (small m) (Exponent i)
  check (falls cmp last m) (Order i)
  Ok (c, m)

module _ (k : Arithmetic) (n : ℕ) (cmp : Compare) where
  abbrev pub terms : ℕ → ℕ → Option (List ℕ) → List ℕ → Result Raw Flaw
  terms zero i last xs = Ok []
  terms (suc c) i last xs = do
    t ← term k cmp i last (take (suc n) xs)
    p ← terms c (suc i) (Some t.1) (drop (suc n) xs)
    Ok (t ∷ p)

  abbrev pub read : ℕ → List ℕ → Result Raw Flaw
  read most xs = do
    check (length xs % suc n == 0) Length
    check (nat_le (length xs / suc n) most) Terms
    terms (length xs / suc n) 0 None xs
