-- A sum by the leading terms of its two polynomials. Assumes nothing.
use Rattle.std.proofs.Common.{◌≡◌, ℕ, ◌<◌, Bool, true, false, eqb, List, [], ◌∷◌, ◌++◌, length, Less, Equal, Greater, refl, ap, ◌∙◌, subst}
use Rattle.field.specs.Fields.{Arithmetic}
use Rattle.order.specs.Monomials.{Monomial}
use Rattle.order.specs.Orders.{Compare, OrderLaws}
use Rattle.ideal.specs.Lists.{Each}
use Rattle.ideal.specs.Polynomials.{Operations, Term, All, Lower, unless_zero, place, insert, sum}
use Rattle.ideal.specs.Rings.{Raw, ring, Polynomial}
use Rattle.ideal.proofs.Alls.{all-sum}
use Rattle.ideal.proofs.Heads.{sum_later}
use Rattle.polynomial.specs.Limits.{united}

module _ (k : Arithmetic) (n : ℕ) (cmp : Compare) (O : OrderLaws n cmp) where
  abbrev o : Operations ℕ (List ℕ)
  o = ring k n cmp

  abbrev Sized : Raw → Type 0
  Sized = Each (λ t. (t.0 < k.size) × (length t.1 ≡ n))

  -- what is lower than d is lower than what d is lower than
  pub lower_trans : (d e : Monomial n) → cmp d.0 e.0 ≡ Less → (p : Raw) → Sized p → All (Lower o d.0) p → All (Lower o e.0) p
  lower_trans d e h [] s a = tt
  lower_trans d e h (t ∷ p) ((c, l), s) (x, a) = (O.trans (t.1, l) d e x h, lower_trans d e h p s a)

  above : (d : Monomial n) (p : Raw) → Sized p → All (Lower o d.0) p → All (λ m. cmp d.0 m ≡ Greater) p
  above d [] s a = tt
  above d (t ∷ p) ((c, l), s) (x, a) = (O.less (t.1, l) d x, above d p s a)

  insert_above : (s : Term ℕ (List ℕ)) (q : Raw) → All (λ m. cmp s.1 m ≡ Greater) q → insert o s q ≡ s ∷ q
  insert_above s [] a = refl
  insert_above s (t ∷ q) (h, a) = ap (λ d. place o d s t q (insert o s q)) h

  module _ (x y : Term ℕ (List ℕ)) (p q : Raw) (left : Polynomial k n cmp (x ∷ p)) (right : Polynomial k n cmp (y ∷ q)) where
    abbrev a : Monomial n
    a = (x.1, left.0.0.1)

    abbrev b : Monomial n
    b = (y.1, right.0.0.1)

    pub sum_less : cmp x.1 y.1 ≡ Less → sum o (x ∷ p) (y ∷ q) ≡ y ∷ sum o (x ∷ p) q
    sum_less h = sum_later o (x ∷ p) q y (h, lower_trans a b h p left.0.1 left.1.1)

    pub sum-greater : cmp x.1 y.1 ≡ Greater → sum o (x ∷ p) (y ∷ q) ≡ x ∷ sum o p (y ∷ q)
    sum-greater h = insert_above x (sum o p (y ∷ q)) (all-sum o (λ m. cmp x.1 m ≡ Greater) p (y ∷ q) (above a p left.0.1 left.1.1)
        (h, above a q right.0.1 (lower_trans b a (O.greater a b h) q right.0.1 right.1.1)))

    pub sum-equal : cmp x.1 y.1 ≡ Equal → sum o (x ∷ p) (y ∷ q) ≡ united o x y ++ sum o p q
    sum-equal h = ap (insert o x) (sum_later o p q y (subst (λ m. All (Lower o m) p) (O.same a b h) left.1.1))
        ∙ ap (λ d. place o d x y (sum o p q) (insert o x (sum o p q))) h ∙ at (eqb (k.sum x.0 y.0) 0)
      where
        at : (z : Bool) → unless_zero o z (k.sum x.0 y.0) y.1 (sum o p q) ≡ unless_zero o z (k.sum x.0 y.0) y.1 [] ++ sum o p q
        at true = refl
        at false = refl
