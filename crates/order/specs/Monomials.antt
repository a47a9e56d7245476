-- Monomials as lists of exponents. Assumes nothing.
--   Monomial n    a list of n exponents, variable 0 first
--   unit n        the monomial 1: n exponents 0
--   multiply      the product of two monomials: the exponents added, place by place
--   small         every exponent is at most 255
use Rattle.std.specs.Prelude.{◌≡◌, ℕ, ◌+◌, Bool, true, ◌&&◌, List, [], ◌∷◌, length, replicate, nat_le}

abbrev pub Monomial : ℕ → Type 0
Monomial n = (m : List ℕ) × (length m ≡ n)

abbrev pub unit : ℕ → List ℕ
unit n = replicate n 0

abbrev pub multiply : List ℕ → List ℕ → List ℕ
multiply [] b = []
multiply (x ∷ a) [] = []
multiply (x ∷ a) (y ∷ b) = (x + y) ∷ multiply a b

abbrev pub small : List ℕ → Bool
small [] = true
small (e ∷ a) = nat_le e 255 && small a
