-- A sum by its leading terms: a term above all others comes first.
use Rattle.std.proofs.Common.{◌≡◌, [], ◌∷◌, refl, ap, ◌∙◌}
use Rattle.ideal.specs.Polynomials.{Operations, Term, Poly, All, Lower, Falling, place, insert, sum}
use Rattle.ideal.proofs.Calculus.{Laws}

pub sum_later : {K M : Type 0} (o : Operations K M) (p q : Poly K M) (t : Term K M) → All (Lower o t.1) p → sum o p (t ∷ q) ≡ t ∷ sum o p q
sum_later o [] q t a = refl
sum_later o (s ∷ p) q t (h, a) = ap (insert o s) (sum_later o p q t a) ∙ ap (λ d. place o d s t (sum o p q) (insert o s (sum o p q))) h

module _ {K M : Type 0} {o : Operations K M} (L : Laws o) where
  pub insert_first : (s : Term K M) (q : Poly K M) → All (Lower o s.1) q → insert o s q ≡ s ∷ q
  insert_first s [] a = refl
  insert_first s (t ∷ q) a = ap (λ d. place o d s t q (insert o s q)) (L.compare_less _ _ a.0)

  pub sum_none : (p : Poly K M) → Falling o p → sum o p [] ≡ p
  sum_none [] f = refl
  sum_none (s ∷ p) (n, a, f) = ap (insert o s) (sum_none p f) ∙ insert_first s p a
