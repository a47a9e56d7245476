-- Division and S-polynomials within limits. Assumes nothing.
--   Outcome              a remainder, or the limit that was met
--   cancelling           the term whose multiple of an element cancels the leading term of the dividend
--   divide_within i      division in at most i turns, with b terms in the remainder; None where they do not suffice
--   division             division with turns enough: more than there are monomials in n variables with exponents up to 255
--   limited_s_polynomial the S-polynomial of two elements, in two steps from 0
--   pair                 the same of two polynomials, and 0 where one of them is 0
use Rattle.std.specs.Prelude.{ℕ, zero, suc, ◌+◌, ◌^◌, List, [], ◌∷◌, Some, None, Ok, Err, Option, Result}
use Rattle.ideal.specs.Polynomials.{Operations, Term, whole, leading_coefficient, leading_monomial}
use Rattle.ideal.specs.Rings.{Raw, RawElement}
use Rattle.ideal.specs.Dividing.{first_divisor}
use Rattle.polynomial.specs.Limits.{step}
use Rattle.polynomial.specs.Results.{◌>>=◌}
use Rattle.polynomial.specs.declared.flaw.Limit.{Limit}
use Rattle.polynomial.specs.declared.flaw.Limit.TheVariants.{Terms}

abbrev pub Outcome : Type 0
Outcome = Result Raw Limit

-- t before a remainder
abbrev pub keep : Term ℕ (List ℕ) → Option Outcome → Option Outcome
keep t None = None
keep t (Some (Ok r)) = Some (Ok (t ∷ r))
keep t (Some (Err e)) = Some (Err e)

abbrev pub resume : (Raw → Option Outcome) → Outcome → Option Outcome
resume next (Ok f) = next f
resume next (Err e) = Some (Err e)

module _ (o : Operations ℕ (List ℕ)) where
  -- s is the leading monomial of the dividend, whose leading term is t, divided by that of g
  abbrev pub cancelling : Term ℕ (List ℕ) → RawElement → List ℕ → Term ℕ (List ℕ)
  cancelling t g s = (o.negate (o.times t.0 (o.inverse (leading_coefficient g))), s)

  -- one turn, by what is found, and then the next ones; b terms are in the remainder
  abbrev pub turn : Option (RawElement × List ℕ) → (ℕ → Raw → Option Outcome) → ℕ → Term ℕ (List ℕ) → Raw → Option Outcome
  turn None next b t f = keep t (next (suc b) f)
  turn (Some (g, s)) next b t f = resume (next b) (step o b (cancelling t g s) (whole g) (t ∷ f))

  abbrev pub divide_within : ℕ → List RawElement → ℕ → Raw → Option Outcome
  divide_within zero elements b f = None
  divide_within (suc i) elements b [] = Some (Ok [])
  divide_within (suc i) elements b (t ∷ f) = turn (first_divisor o elements t.1) (divide_within i elements) b t f

  -- None does not happen
  abbrev pub settled : Option Outcome → Outcome
  settled None = Err Terms
  settled (Some r) = r

  abbrev pub division : ℕ → List RawElement → Raw → Outcome
  division n elements f = settled (divide_within (256 ^ n + 2) elements 0 f)

  abbrev pub limited_s_polynomial : RawElement → RawElement → Outcome
  limited_s_polynomial g h = do
    s ← step o 0 (o.inverse (leading_coefficient g), o.to_lcm (leading_monomial g) (leading_monomial h)) (whole g) []
    step o 0 (o.negate (o.inverse (leading_coefficient h)), o.to_lcm (leading_monomial h) (leading_monomial g)) (whole h) s

  abbrev pub pair : Raw → Raw → Outcome
  pair [] h = Ok []
  pair (s ∷ g) [] = Ok []
  pair (s ∷ g) (t ∷ h) = limited_s_polynomial (s, g) (t, h)
