-- The ways in which a sum's next term comes about, on the code's lists of terms. Assumes nothing.
use Rattle.std.proofs.Common.{◌≡◌, ℕ, ◌<◌, List, [], ◌∷◌, ◌++◌, length, get_or, drop, Less, Equal, Greater, sym, refl, ap, ◌∙◌, subst, ap₂, arith}
use Rattle.field.specs.Fields.{Arithmetic, FieldLaws}
use Rattle.order.specs.Orders.{Compare, OrderLaws}
use Rattle.ideal.specs.Polynomials.{Operations, sum}
use Rattle.ideal.specs.Rings.{ring, Polynomial}
use Rattle.ideal.proofs.Carried as carried
use Rattle.polynomial.specs.Limits.{united}
use Rattle.polynomial.specs.Views.{exponents_of, term_of, view}
use Rattle.polynomial.specs.declared.term.Term.{Term}
use Rattle.polynomial.proofs.Leading.{sum_less, sum-greater, sum-equal}

-- a list that is not empty begins with its first term
pub first : (ts : List Term) (x : Term) → 0 < length ts → x ≡ get_or ts 0 x → view ts ≡ term_of x ∷ view (drop 1 ts)
first [] x h e = absurd (omega arith)
first (t ∷ ts) x h e = ap (λ y. term_of y ∷ view ts) (sym e)

pub nothing : (ts : List Term) → length ts ≡ 0 → view ts ≡ []
nothing [] h = refl
nothing (t ∷ ts) h = absurd (omega arith)

module _ {k : Arithmetic} (F : FieldLaws k) {n : ℕ} {cmp : Compare} (O : OrderLaws n cmp) (p q : List Term) where
  abbrev o : Operations ℕ (List ℕ)
  o = ring k n cmp

  pub only_right : (y : Term) → length p ≡ 0 → 0 < length q → y ≡ get_or q 0 y → sum o (view p) (view q) ≡ term_of y ∷ sum o (view p) (view (drop 1 q))
  only_right y h l e = ap (λ v. sum o v (view q)) (nothing p h) ∙ first q y l e ∙ ap (λ v. term_of y ∷ sum o v (view (drop 1 q))) (sym (nothing p h))

  pub only_left : (x : Term) → length q ≡ 0 → 0 < length p → x ≡ get_or p 0 x → Polynomial k n cmp (view p) → sum o (view p) (view q) ≡ term_of x ∷ sum o (view (drop 1 p)) (view q)
  only_left x h l e ok =
      ap (sum o (view p)) (nothing q h) ∙ carried.sum_none F O (view p) ok ∙ first p x l e
      ∙ ap (λ v. term_of x ∷ v) (sym (ap (sum o (view (drop 1 p))) (nothing q h) ∙ carried.sum_none F O (view (drop 1 p)) (carried.uncons F O (term_of x) (view (drop 1 p)) (subst (Polynomial k n cmp) (first p x l e) ok)).1))

  module _ (x y : Term) (l : 0 < length p) (d : x ≡ get_or p 0 x) (m : 0 < length q) (e : y ≡ get_or q 0 y) (left : Polynomial k n cmp (view p)) (right : Polynomial k n cmp (view q)) where
    x_ok : Polynomial k n cmp (term_of x ∷ view (drop 1 p))
    x_ok = subst (Polynomial k n cmp) (first p x l d) left

    y_ok : Polynomial k n cmp (term_of y ∷ view (drop 1 q))
    y_ok = subst (Polynomial k n cmp) (first q y m e) right

    both : sum o (view p) (view q) ≡ sum o (term_of x ∷ view (drop 1 p)) (term_of y ∷ view (drop 1 q))
    both = ap₂ (sum o) (first p x l d) (first q y m e)

    pub next_less : cmp (exponents_of x.monomial) (exponents_of y.monomial) ≡ Less → sum o (view p) (view q) ≡ term_of y ∷ sum o (view p) (view (drop 1 q))
    next_less h = both ∙ sum_less k n cmp O (term_of x) (term_of y) (view (drop 1 p)) (view (drop 1 q)) x_ok y_ok h ∙ ap (λ v. term_of y ∷ sum o v (view (drop 1 q))) (sym (first p x l d))

    pub next_greater : cmp (exponents_of x.monomial) (exponents_of y.monomial) ≡ Greater → sum o (view p) (view q) ≡ term_of x ∷ sum o (view (drop 1 p)) (view q)
    next_greater h = both ∙ sum-greater k n cmp O (term_of x) (term_of y) (view (drop 1 p)) (view (drop 1 q)) x_ok y_ok h ∙ ap (λ v. term_of x ∷ sum o (view (drop 1 p)) v) (sym (first q y m e))

    pub next_equal : cmp (exponents_of x.monomial) (exponents_of y.monomial) ≡ Equal → sum o (view p) (view q) ≡ united o (term_of x) (term_of y) ++ sum o (view (drop 1 p)) (view (drop 1 q))
    next_equal h = both ∙ sum-equal k n cmp O (term_of x) (term_of y) (view (drop 1 p)) (view (drop 1 q)) x_ok y_ok h
