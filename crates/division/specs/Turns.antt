-- One turn of a division within limits. Assumes nothing.
--   cancelled b t s p f    f less the multiple of p that cancels the leading term t of f, where s is t's monomial divided by that of p;
--                          b terms are in the remainder
--   turned                 what a turn makes of the remainder so far and of the dividend
use Rattle.std.specs.Prelude.{ℕ, List, [], ◌∷◌, ◌++◌, length, Some, None, Ok, Option, Result}
use Rattle.ideal.specs.Polynomials.{Operations, Term, whole}
use Rattle.ideal.specs.Rings.{Raw, RawElement}
use Rattle.ideal.specs.Dividing.{first_divisor}
use Rattle.polynomial.specs.Limits.{step}
use Rattle.polynomial.specs.Results.{mapped_ok}
use Rattle.polynomial.specs.declared.flaw.Limit.{Limit}
use Rattle.division.specs.Limits.{cancelling}

module _ (o : Operations ℕ (List ℕ)) where
  abbrev pub cancelled : ℕ → Term ℕ (List ℕ) → List ℕ → Raw → Raw → Result Raw Limit
  cancelled b t s [] f = Ok f
  cancelled b t s (u ∷ p) f = step o b (cancelling o t (u, p) s) (u ∷ p) f

  -- by what is found to divide the leading term t
  abbrev pub turned_by : Option (RawElement × List ℕ) → Raw → Term ℕ (List ℕ) → Raw → Result (Raw × Raw) Limit
  turned_by None rest t f = Ok (rest ++ (t ∷ []), f)
  turned_by (Some (g, s)) rest t f = mapped_ok (λ h. (rest, h)) (cancelled (length rest) t s (whole g) (t ∷ f))

  abbrev pub turned : List RawElement → Raw → Raw → Result (Raw × Raw) Limit
  turned elements rest [] = Ok (rest, [])
  turned elements rest (t ∷ f) = turned_by (first_divisor o elements t.1) rest t f
