-- Products of monomials: their length, and the laws of a commutative monoid. Assumes nothing.
use Rattle.std.specs.Prelude.{◌≡◌, ℕ, zero, suc, ◌+◌, List, [], ◌∷◌, length, refl}
use Rattle.std.proofs.Common.{sym, ap, ◌∙◌, arith}
use mathlib.Core.HLevel.{Σ_prop_path}
use Rattle.std.proofs.Math.Nat.{ℕ_set}
use Rattle.order.specs.Monomials.{Monomial, unit, multiply}

pub cons : {x y : ℕ} {a b : List ℕ} → x ≡ y → a ≡ b → x ∷ a ≡ y ∷ b
cons p q = λ i. p i ∷ q i

pub monomial_path : {n : ℕ} {a b : Monomial n} → a.0 ≡ b.0 → a ≡ b
monomial_path p = Σ_prop_path (λ m. ℕ_set _ _) p

pub length-multiply : (a b : List ℕ) → length a ≡ length b → length (multiply a b) ≡ length a
length-multiply [] b h = refl
length-multiply (x ∷ a) [] h = sym h
length-multiply (x ∷ a) (y ∷ b) h = ap suc (length-multiply a b (omega arith))

pub length-unit : (n : ℕ) → length (unit n) ≡ n
length-unit zero = refl
length-unit (suc n) = ap suc (length-unit n)

-- the product, and the unit, as monomials in n variables
abbrev pub times : {n : ℕ} → Monomial n → Monomial n → Monomial n
times a b = (multiply a.0 b.0, length-multiply a.0 b.0 (a.1 ∙ sym b.1) ∙ a.1)

abbrev pub one : (n : ℕ) → Monomial n
one n = (unit n, length-unit n)

pub multiply_comm : (a b : List ℕ) → multiply a b ≡ multiply b a
multiply_comm [] [] = refl
multiply_comm [] (y ∷ b) = refl
multiply_comm (x ∷ a) [] = refl
multiply_comm (x ∷ a) (y ∷ b) = cons (omega arith) (multiply_comm a b)

pub multiply_assoc : (a b c : List ℕ) → multiply (multiply a b) c ≡ multiply a (multiply b c)
multiply_assoc [] b c = refl
multiply_assoc (x ∷ a) [] c = refl
multiply_assoc (x ∷ a) (y ∷ b) [] = refl
multiply_assoc (x ∷ a) (y ∷ b) (z ∷ c) = cons (omega arith) (multiply_assoc a b c)

pub multiply_unit : (n : ℕ) (a : List ℕ) → length a ≡ n → multiply (unit n) a ≡ a
multiply_unit zero [] h = refl
multiply_unit zero (x ∷ a) h = absurd (omega arith)
multiply_unit (suc n) [] h = refl
multiply_unit (suc n) (x ∷ a) h = cons (omega arith) (multiply_unit n a (omega arith))

-- only the unit is its own square
pub square_unit : (n : ℕ) (a : List ℕ) → length a ≡ n → multiply a a ≡ a → a ≡ unit n
square_unit zero [] h e = refl
square_unit zero (x ∷ a) h e = absurd (omega arith)
square_unit (suc n) [] h e = absurd (omega arith)
square_unit (suc n) (x ∷ a) h e =
    let head : x + x ≡ x = cc in
    let tail : multiply a a ≡ a = cc in
    cons (omega arith) (square_unit n a (omega arith) tail)
