-- Monomials in equally many variables are comparable. Assumes nothing.
use Rattle.std.proofs.Common.{◌≡◌, true, ◌&&◌, eqb, leb, length, Some, None, arith, length-take-le}
use Rattle.std.proofs.lemmas.Bool.{le-leb, eq-eqb, cond-true, and_from}
use Rattle.order.specs.Monomials.{small}
use Rattle.order.specs.Orders.{Compare, comparable, compared}
use Rattle.polynomial.specs.Views.{exponents_of}
use Rattle.polynomial.specs.declared.monomial.Monomial.{Monomial}
use Rattle.polynomial.proofs.Exponents.{small-take}

-- as many exponents as variables
pub exponents_length : (m : Monomial) → length (exponents_of m) ≡ m.variables
exponents_length m = length-take-le m.variables m.exponents (let a = m.few in let b = m.full in omega arith)

pub exponents_small : (m : Monomial) → small (exponents_of m) ≡ true
exponents_small m = small-take m.variables m.exponents m.low

pub comparable_at : (a b : Monomial) → a.variables ≡ b.variables → comparable (exponents_of a) (exponents_of b) ≡ true
comparable_at a b e =
    let la = exponents_length a in
    let lb = exponents_length b in
    let few = a.few in
    let x = exponents_of a in
    let y = exponents_of b in
    and_from (eqb (length x) (length y) && leb (length x) 24 && small x) (small y)
    (and_from (eqb (length x) (length y) && leb (length x) 24) (small x)
    (and_from (eqb (length x) (length y)) (leb (length x) 24) (eq-eqb (length x) (length y) (omega arith)) (le-leb (length x) 24 (omega arith))) (exponents_small a))
    (exponents_small b)

pub compared_at : (cmp : Compare) (a b : Monomial) → a.variables ≡ b.variables → compared cmp (exponents_of a) (exponents_of b) ≡ Some (cmp (exponents_of a) (exponents_of b))
compared_at cmp a b e = cond-true (comparable (exponents_of a) (exponents_of b)) _ None (comparable_at a b e)
