-- Tests for equality, and what they decide. Assumes nothing.
use Rattle.std.proofs.Common.{◌≡◌, ℕ, ◌-◌, Bool, ◌&&◌, eqb, List, [], ◌∷◌, ◌++◌, length, take, replicate, Decides, sym, refl, ap, ◌∙◌, ap₂, rules}
use Rattle.std.specs.Cmp.Lexicographic.{pointwise}
use Rattle.std.proofs.lemmas.List.{take-append-drop}
use Rattle.std.proofs.lemmas.Slice.Eq.{slice_eq-Decides, bytes_eq-Decides, compares_Decides}
use Rattle.std.proofs.lemmas.Bool.Decides.{same_from_decides, Decides-eqb, Decides-and, Decides-like}
use Rattle.ideal.specs.Polynomials.{Term as Written}
use Rattle.ideal.specs.Rings.{Raw}
use Rattle.polynomial.specs.Equality.{equal_exponents, equal_terms, equal}
use Rattle.polynomial.specs.Views.{exponents_of, view}
use Rattle.polynomial.specs.declared.monomial.Monomial.{Monomial}
use Rattle.polynomial.specs.declared.term.Term.{Term}
use Rattle.polynomial.proofs.Comparing.{exponents_length}

pub exponents_decides : (a b : List ℕ) → Decides (equal_exponents a b) (a ≡ b)
exponents_decides = compares_Decides equal_exponents (search rules)

terms_decides : (s t : Written ℕ (List ℕ)) → Decides (equal_terms s t) (s ≡ t)
terms_decides s t = Decides-like (equal_terms s t) (λ e. λ i. (e.0 i, e.1 i)) (λ e. (ap (λ z. z.0) e, ap (λ z. z.1) e)) (Decides-and (eqb s.0 t.0) (equal_exponents s.1 t.1) (Decides-eqb s.0 t.0) (exponents_decides s.1 t.1))

equal-pointwise : (p q : Raw) → equal p q ≡ pointwise equal_terms p q
equal-pointwise [] [] = refl
equal-pointwise [] (t ∷ q) = refl
equal-pointwise (s ∷ p) [] = refl
equal-pointwise (s ∷ p) (t ∷ q) = ap (λ b. equal_terms s t && b) (equal-pointwise p q)

-- the test of polynomials decides whether they are the same
pub equal_decides : (p q : Raw) → Decides (equal p q) (p ≡ q)
equal_decides p q = slice_eq-Decides terms_decides p q (equal p q) (equal-pointwise p q)

-- monomials with the same exponents are the same array, since they are 0 behind

whole : (m n : Monomial) → m.variables ≡ n.variables → exponents_of m ≡ exponents_of n → m.exponents ≡ n.exponents
whole m n v e =
    sym (take-append-drop m.variables m.exponents)
    ∙ ap₂ ◌++◌ e (m.zeros ∙ ap (λ v. replicate (24 - v) 0) v ∙ sym n.zeros)
    ∙ take-append-drop n.variables n.exponents

monomials_same : (m n : Monomial) → (pointwise eqb m.exponents n.exponents && eqb m.variables n.variables) ≡ equal_exponents (exponents_of m) (exponents_of n)
monomials_same m n = same_from_decides _ _
    (Decides-like _ (λ e. ap₂ take e.1 e.0) (λ e. let v : m.variables ≡ n.variables = sym (exponents_length m) ∙ ap length e ∙ exponents_length n in (whole m n v e, v))
    (Decides-and (pointwise eqb m.exponents n.exponents) (eqb m.variables n.variables) (bytes_eq-Decides m.exponents n.exponents) (Decides-eqb m.variables n.variables)))
    (exponents_decides (exponents_of m) (exponents_of n))

-- what `==` says of two lists of terms
module _ (same : Term → Term → Bool) (fields : (s t : Term) → same s t ≡ (eqb s.coefficient t.coefficient && (pointwise eqb s.monomial.exponents t.monomial.exponents && eqb s.monomial.variables t.monomial.variables))) where
  pub lists_same : (p q : List Term) → pointwise same p q ≡ equal (view p) (view q)
  lists_same [] [] = refl
  lists_same [] (t ∷ q) = refl
  lists_same (s ∷ p) [] = refl
  lists_same (s ∷ p) (t ∷ q) = ap₂ ◌&&◌ (fields s t ∙ ap (λ b. eqb s.coefficient t.coefficient && b) (monomials_same s.monomial t.monomial)) (lists_same p q)
