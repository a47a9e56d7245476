-- Sums within limits. Assumes nothing.
--   all_small          every exponent of a polynomial is at most 255
--   tight, bounded     refused where an exponent passes 255; where there are more than so many terms
--   step o b t p f     the multiple t·p added to f in one step: refused where an exponent of the multiple passes 255,
--                      then where the sum has more than 512 terms, less the b that are kept elsewhere
--   united             two terms with one monomial, made one, or none if they cancel
use Rattle.std.specs.Prelude.{ℕ, ◌-◌, Bool, true, ◌&&◌, List, [], ◌∷◌, length, Ok, Result, nat_le}
use Rattle.order.specs.Monomials.{small}
use Rattle.ideal.specs.Polynomials.{Operations, Term, unless_zero, sum, multiple}
use Rattle.ideal.specs.Rings.{Raw}
use Rattle.polynomial.specs.Results.{◌>>=◌, ◌>>◌, check}
use Rattle.polynomial.specs.declared.flaw.Limit.{Limit}
use Rattle.polynomial.specs.declared.flaw.Limit.TheVariants.{Exponent, Terms}

abbrev pub all_small : Raw → Bool
all_small [] = true
all_small (t ∷ p) = small t.1 && all_small p

-- a multiple, unless an exponent passes 255
abbrev pub tight : Raw → Result Raw Limit
tight p = check (all_small p) Exponent >> Ok p

-- a sum, unless it has more than `room` terms
abbrev pub bounded : ℕ → Raw → Result Raw Limit
bounded room p = check (nat_le (length p) room) Terms >> Ok p

abbrev pub step : Operations ℕ (List ℕ) → ℕ → Term ℕ (List ℕ) → Raw → Raw → Result Raw Limit
step o b t p f = do
  m ← tight (multiple o t p)
  bounded (512 - b) (sum o m f)

-- two terms with one monomial, made one
abbrev pub united : Operations ℕ (List ℕ) → Term ℕ (List ℕ) → Term ℕ (List ℕ) → Raw
united o x y = let c = o.plus x.0 y.0 in unless_zero o (o.is_zero c) c y.1 []
