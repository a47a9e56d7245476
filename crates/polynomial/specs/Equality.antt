-- Whether two polynomials are the same. Assumes nothing.
--   equal_exponents, equal_terms, equal    of lists of exponents, of terms, of polynomials
use Rattle.std.specs.Prelude.{ℕ, Bool, true, false, ◌&&◌, List, [], ◌∷◌, ◌==◌}
use Rattle.ideal.specs.Polynomials.{Term}
use Rattle.ideal.specs.Rings.{Raw}

abbrev pub equal_exponents : List ℕ → List ℕ → Bool
equal_exponents [] [] = true
equal_exponents [] (y ∷ b) = false
equal_exponents (x ∷ a) [] = false
equal_exponents (x ∷ a) (y ∷ b) = x == y && equal_exponents a b

abbrev pub equal_terms : Term ℕ (List ℕ) → Term ℕ (List ℕ) → Bool
equal_terms s t = s.0 == t.0 && equal_exponents s.1 t.1

abbrev pub equal : Raw → Raw → Bool
equal [] [] = true
equal [] (t ∷ q) = false
equal (s ∷ p) [] = false
equal (s ∷ p) (t ∷ q) = equal_terms s t && equal p q
