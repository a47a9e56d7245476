-- What monomials and terms stand for. Assumes nothing.
--   exponents_of    a monomial's exponents
--   term_of, view   a term, and a list of terms, as a coefficient and exponents
use Rattle.std.specs.Prelude.{ℕ, List, [], ◌∷◌, take}
use Rattle.ideal.specs.Polynomials.{Term as Written}
use Rattle.ideal.specs.Rings.{Raw}
use Rattle.polynomial.specs.declared.monomial.Monomial.{Monomial}
use Rattle.polynomial.specs.declared.term.Term.{Term}

abbrev pub exponents_of : Monomial → List ℕ
exponents_of m = take m.variables m.exponents

abbrev pub term_of : Term → Written ℕ (List ℕ)
term_of t = (t.coefficient, exponents_of t.monomial)

abbrev pub view : List Term → Raw
view [] = []
view (t ∷ ts) = term_of t ∷ view ts
