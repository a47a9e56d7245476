-- The terms of a polynomial, and the leading one. Assumes nothing.
use Rattle.std.proofs.Common.{◌≡◌, ℕ, ◌<◌, List, ◌∷◌, length, get_or, drop, subst}
use Rattle.field.specs.Fields.{Arithmetic, FieldLaws}
use Rattle.order.specs.Orders.{Compare, OrderLaws}
use Rattle.ideal.specs.Rings.{Polynomial}
use Rattle.ideal.specs.Algebra.{NonzeroTerm}
use Rattle.polynomial.specs.Views.{term_of, view}
use Rattle.polynomial.specs.declared.term.Term.{Term}
use Rattle.polynomial.proofs.Steps.{factor_at}
use Rattle.polynomial.proofs.Viewing.{view_at}

-- ts are the terms of a polynomial, and x stands first
pub record Leads (k : Arithmetic) (n : ℕ) (cmp : Compare) (ts : List Term) (x : Term) : Type 0 where
  pub some : 0 < length ts
  pub first : x ≡ get_or ts 0 x
  pub ok : Polynomial k n cmp (view ts)

module _ {k : Arithmetic} {n : ℕ} {cmp : Compare} {ts : List Term} {x : Term} (leads : Leads k n cmp ts x) where
  pub view_is : view ts ≡ term_of x ∷ view (drop 1 ts)
  view_is = view_at 0 ts x leads.some leads.first

  pub element_ok : Polynomial k n cmp (term_of x ∷ view (drop 1 ts))
  element_ok = subst (Polynomial k n cmp) view_is leads.ok

  pub nonzero_term : FieldLaws k → OrderLaws n cmp → NonzeroTerm k n (term_of x)
  nonzero_term F O = factor_at F O 0 ts x leads.some leads.first leads.ok
