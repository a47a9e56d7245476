-- Divisibility of monomials, as lists of exponents. Assumes nothing.
--   divides a b     a divides b: no exponent of a is above that of b
--   to_lcm a b      what a is multiplied by to make the least common multiple of a and b
--   quotient b a    b divided by a, where a divides b
use Rattle.std.specs.Prelude.{ℕ, ◌-◌, Bool, true, false, cond, ◌&&◌, List, [], ◌∷◌, Some, None, Option, nat_le}

abbrev pub divides : List ℕ → List ℕ → Bool
divides [] b = true
divides (x ∷ a) [] = false
divides (x ∷ a) (y ∷ b) = nat_le x y && divides a b

-- place by place what b has more than a, and 0 where a has more
abbrev pub to_lcm : List ℕ → List ℕ → List ℕ
to_lcm [] b = []
to_lcm (x ∷ a) [] = []
to_lcm (x ∷ a) (y ∷ b) = (y - x) ∷ to_lcm a b

-- where a divides b, their least common multiple is b
abbrev pub quotient : List ℕ → List ℕ → Option (List ℕ)
quotient b a = cond (divides a b) (Some (to_lcm a b)) None
