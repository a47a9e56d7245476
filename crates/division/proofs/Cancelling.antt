-- The term whose multiple of a polynomial cancels a leading term, as the code computes it. Assumes nothing.
use Rattle.std.proofs.Common.{◌≡◌, ℕ, List, length, Some, Option, IsSome, is_some, sym, ap, ◌∙◌, subst}
use Rattle.field.specs.Fields.{Arithmetic, FieldLaws}
use Rattle.order.specs.Orders.{Compare, OrderLaws}
use Rattle.ideal.specs.Polynomials.{Term as Written}
use Rattle.ideal.specs.Rings.{Raw, ring}
use Rattle.ideal.specs.Algebra.{NonzeroTerm}
use Rattle.ideal.proofs.Lists.{some_injective}
use Rattle.ideal.proofs.Steps as steps
use Rattle.polynomial.specs.Limits.{step}
use Rattle.polynomial.specs.Views.{term_of, view}
use Rattle.polynomial.specs.declared.term.Term.{Term}
use Rattle.division.specs.Coefficients.{opposite_quotient}
use Rattle.division.specs.Turns.{cancelled}
use Rattle.division.proofs.Coefficients.{opposite_quotient_at}
use Rattle.division.proofs.Leading.{Leads, view_is, nonzero_term}

-- p begins with x; t is to be cancelled
module _ {k : Arithmetic} (F : FieldLaws k) {n : ℕ} {cmp : Compare} (O : OrderLaws n cmp) {p : List Term} {x : Term} (leads : Leads k n cmp p x)
    (t : Written ℕ (List ℕ)) (nonzero : NonzeroTerm k n t) where
  head : NonzeroTerm k n (term_of x)
  head = nonzero_term leads F O

  value : opposite_quotient k t.0 x.coefficient ≡ Some (k.opposite (k.product t.0 (k.inverse x.coefficient)))
  value = opposite_quotient_at F t.0 x.coefficient nonzero.0 head.0 head.1

  pub answers : (r : Option ℕ) → r ≡ opposite_quotient k t.0 x.coefficient → IsSome r
  answers r e = ap is_some (e ∙ value)

  module _ (c : ℕ) (e : Some c ≡ opposite_quotient k t.0 x.coefficient) where
    is : c ≡ k.opposite (k.product t.0 (k.inverse x.coefficient))
    is = some_injective (e ∙ value)

    pub factor : (s : List ℕ) → length s ≡ n → NonzeroTerm k n (c, s)
    factor s l =
        let (a, z) = steps.opposite_nonzero F O _ (steps.product_nonzero F O _ _ (nonzero.0, nonzero.1) (steps.inverse_nonzero F O _ (head.0, head.1))) in
        subst (λ c. NonzeroTerm k n (c, s)) (sym is) (a, z, l)

    pub cancels : (b : ℕ) (s : List ℕ) (f : Raw) → step (ring k n cmp) b (c, s) (view p) f ≡ cancelled (ring k n cmp) b t s (view p) f
    cancels b s f = ap (λ c. step (ring k n cmp) b (c, s) (view p) f) is
        ∙ ap (λ q. step (ring k n cmp) b (k.opposite (k.product t.0 (k.inverse x.coefficient)), s) q f) (view_is leads)
        ∙ ap (λ q. cancelled (ring k n cmp) b t s q f) (sym (view_is leads))
