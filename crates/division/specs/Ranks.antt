-- How far a division has to go at most, by any monomial order. Assumes nothing.
--   below n                n - 1, .., 0
--   spread                 each of some exponents before each of some monomials
--   every_monomial n       the monomials in n variables with exponents up to 255
--   count                  how many of a list pass a test
--   rank                   how many monomials with exponents up to 255 are lower than one
--   height                 of a dividend: 0, or one more than the rank of its leading monomial
-- They stay shut, so that no check writes out 256 exponents.
use Rattle.std.specs.Prelude.{ℕ, zero, suc, ◌+◌, Bool, cond, List, [], ◌∷◌, ◌++◌, map}
use Rattle.order.specs.Orders.{Compare}
use Rattle.ideal.specs.Rings.{Raw}
use Rattle.polynomial.specs.Tables.{is_less}

unfoldable pub below : ℕ → List ℕ
below zero = []
below (suc n) = n ∷ below n

unfoldable pub spread : List ℕ → List (List ℕ) → List (List ℕ)
spread [] monomials = []
spread (e ∷ exponents) monomials = map (λ m. e ∷ m) monomials ++ spread exponents monomials

unfoldable pub every_monomial : ℕ → List (List ℕ)
every_monomial zero = [] ∷ []
every_monomial (suc n) = spread (below 256) (every_monomial n)

unfoldable pub count : {X : Type 0} → (X → Bool) → List X → ℕ
count f [] = 0
count f (x ∷ xs) = cond (f x) 1 0 + count f xs

unfoldable pub rank : Compare → ℕ → List ℕ → ℕ
rank cmp n m = count (λ l. is_less (cmp l m)) (every_monomial n)

abbrev pub height : Compare → ℕ → Raw → ℕ
height cmp n [] = 0
height cmp n (t ∷ f) = suc (rank cmp n t.1)
