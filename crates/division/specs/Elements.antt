-- Lists of polynomials as elements to divide by. Assumes nothing.
--   elements         the polynomials of a list but 0, each as its leading term and the rest
--   quotient_by m p  m divided by the leading monomial of p, if p is not 0 and that divides m
use Rattle.std.specs.Prelude.{ℕ, List, [], ◌∷◌, None, Option}
use Rattle.ideal.specs.Divisibility.{quotient}
use Rattle.ideal.specs.Rings.{Raw, RawElement}

abbrev pub element : Raw → List RawElement → List RawElement
element [] later = later
element (t ∷ p) later = (t, p) ∷ later

abbrev pub elements : List Raw → List RawElement
elements [] = []
elements (p ∷ ps) = element p (elements ps)

abbrev pub quotient_by : List ℕ → Raw → Option (List ℕ)
quotient_by m [] = None
quotient_by m (t ∷ p) = quotient m t.1
