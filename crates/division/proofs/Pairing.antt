-- An S-polynomial in two steps, as the code takes them. Assumes nothing.
use Rattle.std.proofs.Common.{◌≡◌, ℕ, List, [], drop, Some, Ok, Err, Option, Result, IsSome, is_some, sym, ap, ◌∙◌, subst, ap₂}
use Rattle.field.specs.Fields.{Arithmetic, FieldLaws, inverted}
use Rattle.order.specs.Orders.{Compare, OrderLaws}
use Rattle.ideal.specs.Divisibility.{to_lcm}
use Rattle.ideal.specs.Polynomials.{Operations, Term as Written}
use Rattle.ideal.specs.Rings.{Raw, RawElement, ring}
use Rattle.ideal.specs.Algebra.{NonzeroTerm}
use Rattle.ideal.proofs.Lists.{some_injective}
use Rattle.ideal.proofs.Steps as steps
use Rattle.polynomial.specs.Limits.{step}
use Rattle.polynomial.specs.Results.{◌>>=◌}
use Rattle.polynomial.specs.Views.{exponents_of, term_of, view}
use Rattle.polynomial.specs.declared.flaw.Limit.{Limit}
use Rattle.polynomial.specs.declared.term.Term.{Term}
use Rattle.division.specs.Coefficients.{opposite_inverse}
use Rattle.division.specs.Limits.{pair}
use Rattle.division.proofs.Coefficients.{inverse_at, opposite_inverse_at}
use Rattle.division.proofs.Leading.{Leads, view_is, element_ok, nonzero_term}

-- g begins with a, and h with b
module _ {k : Arithmetic} (F : FieldLaws k) {n : ℕ} {cmp : Compare} (O : OrderLaws n cmp)
    {g h : List Term} {a b : Term} (g_leads : Leads k n cmp g a) (h_leads : Leads k n cmp h b) where
  abbrev o : Operations ℕ (List ℕ)
  o = ring k n cmp

  abbrev left_element : RawElement
  left_element = (term_of a, view (drop 1 g))

  abbrev right_element : RawElement
  right_element = (term_of b, view (drop 1 h))

  inverse_is : inverted k.size k.inverse a.coefficient ≡ Some (k.inverse a.coefficient)
  inverse_is = let t = nonzero_term g_leads F O in inverse_at F a.coefficient t.0 t.1

  opposite_is : inverted k.size (opposite_inverse k) b.coefficient ≡ Some (k.opposite (k.inverse b.coefficient))
  opposite_is = let t = nonzero_term h_leads F O in opposite_inverse_at F b.coefficient t.0 t.1

  pub inverse_answers : (r : Option ℕ) → r ≡ inverted k.size k.inverse a.coefficient → IsSome r
  inverse_answers r e = ap is_some (e ∙ inverse_is)

  pub opposite_answers : (r : Option ℕ) → r ≡ inverted k.size (opposite_inverse k) b.coefficient → IsSome r
  opposite_answers r e = ap is_some (e ∙ opposite_is)

  abbrev left : Written ℕ (List ℕ)
  left = (k.inverse a.coefficient, to_lcm (exponents_of a.monomial) (exponents_of b.monomial))

  abbrev right : Written ℕ (List ℕ)
  right = (k.opposite (k.inverse b.coefficient), to_lcm (exponents_of b.monomial) (exponents_of a.monomial))

  -- the two steps
  abbrev made : Raw → Raw → Result Raw Limit
  made p q = step o 0 left p [] >>= (λ f. step o 0 right q f)

  pair_is : made (view g) (view h) ≡ pair o (view g) (view h)
  pair_is = ap₂ made (view_is g_leads) (view_is h_leads) ∙ sym (ap₂ (pair o) (view_is g_leads) (view_is h_leads))

  -- x is the factor of g
  module _ (x : Term) (x_coefficient : Some x.coefficient ≡ inverted k.size k.inverse a.coefficient)
      (x_monomial : exponents_of x.monomial ≡ to_lcm (exponents_of a.monomial) (exponents_of b.monomial)) where
    pub left_is : term_of x ≡ left
    left_is = ap₂ (λ c s. (c, s)) (some_injective (x_coefficient ∙ inverse_is)) x_monomial

    pub left_factor : NonzeroTerm k n (term_of x)
    left_factor = subst (NonzeroTerm k n) (sym left_is) (steps.first_term F O left_element right_element (element_ok g_leads) (element_ok h_leads))

    pub pair_refused : (sum : Raw) → sum ≡ [] → (l : Limit) → Err l ≡ step o 0 (term_of x) (view g) sum → Err l ≡ pair o (view g) (view h)
    pair_refused sum z l e =
        ap (λ (x : Result Raw Limit). x >>= (λ f. step o 0 right (view h) f)) (e ∙ ap₂ (λ t f. step o 0 t (view g) f) left_is z) ∙ pair_is

    -- y is the factor of h
    module _ (y : Term) (y_coefficient : Some y.coefficient ≡ inverted k.size (opposite_inverse k) b.coefficient)
        (y_monomial : exponents_of y.monomial ≡ to_lcm (exponents_of b.monomial) (exponents_of a.monomial)) where
      pub right_is : term_of y ≡ right
      right_is = ap₂ (λ c s. (c, s)) (some_injective (y_coefficient ∙ opposite_is)) y_monomial

      pub right_factor : NonzeroTerm k n (term_of y)
      right_factor = subst (NonzeroTerm k n) (sym right_is) (steps.second-term F O left_element right_element (element_ok g_leads) (element_ok h_leads))

      pub pair_made : (sum : Raw) → sum ≡ [] → (f : Raw) → Ok f ≡ step o 0 (term_of x) (view g) sum
          → step o 0 (term_of y) (view h) f ≡ pair o (view g) (view h)
      pair_made sum z f e = ap (λ u. step o 0 u (view h) f) right_is
          ∙ ap (λ (x : Result Raw Limit). x >>= (λ f. step o 0 right (view h) f)) (e ∙ ap₂ (λ t f. step o 0 t (view g) f) left_is z) ∙ pair_is
