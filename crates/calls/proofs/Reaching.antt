-- What is held is reached by a run, and so it stands; a call that is the definition's goes on from there, and keeps the laws of runs.
use Rattle.std.proofs.Common.{◌≡◌, ℕ, List, [], ◌∷◌, ◌++◌, sym, subst, subst₂}
use Rattle.std.proofs.Math.Logic.{∥∥₁_elim, ∥∥₁_prop}
use Rattle.field.specs.Fields.{Arithmetic, FieldLaws}
use Rattle.field.specs.declared.field.Field.{Ghosts as FieldGhosts}
use Rattle.order.specs.Orders.{Compare, OrderLaws}
use Rattle.order.specs.declared.order.MonomialOrder.{Ghosts as OrderGhosts}
use Rattle.ideal.specs.Lists.{Each}
use Rattle.ideal.specs.Rings.{Polynomial}
use Rattle.polynomial.specs.Kept.{polynomials}
use Rattle.polynomial.specs.Propositions.{Each-prop, Polynomial-prop}
use Rattle.polynomial.specs.Rings.{Within}
use Rattle.polynomial.specs.declared.ring.Ring.{Ring}
use Rattle.polynomial.specs.declared.list.PolynomialList.{PolynomialList}
use Rattle.checker.specs.declared.checker.ElementChecker.{ElementChecker}
use Rattle.run.specs.declared.state.State.{State}
use Rattle.run.specs.Calls.{hear}
use Rattle.run.specs.Hears.{Goes}
use Rattle.run.specs.Models.{Model, Call, Answer}
use Rattle.run.specs.Runs.{model_of}
use Rattle.run.specs.Standing.{Standing}
use Rattle.run.proofs.Holds.{kept-polynomials, standing}
use Rattle.run.proofs.RunLaws.{call_law_lem}
use Rattle.calls.specs.Held.{held, Reached}
use Rattle.calls.specs.Shown.{shown, Promise}
use Rattle.calls.specs.declared.held.Checker.{Checker}

-- some run leads to m
abbrev pub Led : Arithmetic → Compare → Model → Type 0
Led k cmp m = (past : List Call) × (model_of k cmp past ≡ m)

module _ {k : Arithmetic} (F : FieldLaws k) {cmp : Compare} (O : (n : ℕ) → OrderLaws n cmp) where
  -- what is reached stands
  pub stands : (m : Model) → Led k cmp m → Standing k cmp m
  stands m (past, is) = subst (Standing k cmp) is (standing F O past)

  basis_polynomials : (m : Model) → ∥ Led k cmp m ∥₁ → Each (Polynomial k m.variables cmp) m.basis
  basis_polynomials m led = ∥∥₁_elim led (Each-prop _ (Polynomial-prop k m.variables cmp) m.basis)
      (λ l. kept-polynomials F O m m.basis (stands m l).elements_kept)

  goes : (m m' : Model) (c : Call) (a : Answer) → (a, m') ≡ hear k cmp m c → (past : List Call) → model_of k cmp past ≡ m → Goes k cmp past c a m'
  goes m m' c a heard past is =
      subst (λ (x : Answer × Model). Goes k cmp past c x.0 x.1) (sym heard) ((call_law_lem F O m c (stands m (past, is))).runs past is)

  led_on : (m m' : Model) (c : Call) (a : Answer) → (a, m') ≡ hear k cmp m c → ∥ Led k cmp m ∥₁ → ∥ Led k cmp m' ∥₁
  led_on m m' c a heard led = ∥∥₁_elim led ∥∥₁_prop (λ l. ∣ (l.0 ++ (c ∷ []), (goes m m' c a heard l.0 l.1).leads) ∣₁)

module _ {F O : Type 0} {f : FieldGhosts F} {o : OrderGhosts O} (lawful : (x : F) → FieldLaws (f.arithmetic x)) (ordered : (x : O) (n : ℕ) → OrderLaws n (o.comparison x)) where
  -- the basis elements are polynomials of the ring
  pub held-polynomials : (check : ElementChecker F O f o) (basis : PolynomialList) (state : State) (r : Ring F O f o) → r ≡ check.ring → ∥ Reached check basis state ∥₁
      → Each (Within r) (polynomials basis)
  held-polynomials check basis state r e led =
      subst (λ r. Each (Within r) (polynomials basis)) (sym e) (basis_polynomials (lawful check.ring.field) (ordered check.ring.order) (held check basis state) led)

  -- what is held after a call that is the definition's is reached too
  pub reached_on : (check check' : ElementChecker F O f o) (basis basis' : PolynomialList) (state state' : State) (c : Call) (a : Answer)
      → (a, held check' basis' state') ≡ hear (f.arithmetic check.ring.field) (o.comparison check.ring.order) (held check basis state) c
      → check'.ring.field ≡ check.ring.field → check'.ring.order ≡ check.ring.order → ∥ Reached check basis state ∥₁ → ∥ Reached check' basis' state' ∥₁
  reached_on check check' basis basis' state state' c a heard field order led =
      subst₂ (λ x y. ∥ Led (f.arithmetic x) (o.comparison y) (held check' basis' state') ∥₁) (sym field) (sym order)
      (led_on (lawful check.ring.field) (ordered check.ring.order) (held check basis state) (held check' basis' state') c a heard led)

  pub promised : (before after : Checker F O f o) (c : Call) (a : Answer) → (a, shown after) ≡ hear (f.arithmetic before.check.ring.field) (o.comparison before.check.ring.order) (shown before) c
      → after.check.ring.field ≡ before.check.ring.field → after.check.ring.order ≡ before.check.ring.order → Promise before c a after
  promised before after c a heard field order = record {
    heard = heard;
    stands = λ s.
        subst₂ (λ x y. Standing (f.arithmetic x) (o.comparison y) (shown after)) (sym field) (sym order)
        (subst (λ (x : Answer × Model). Standing (f.arithmetic before.check.ring.field) (o.comparison before.check.ring.order) x.1) (sym heard)
        (call_law_lem (lawful before.check.ring.field) (ordered before.check.ring.order) (shown before) c s).stands);
    runs = goes (lawful before.check.ring.field) (ordered before.check.ring.order) (shown before) (shown after) c a heard;
    field = field;
    order = order;
  }

-- a state that is what it was
pub unmoved : {F O : Type 0} {f : FieldGhosts F} {o : OrderGhosts O} (check : ElementChecker F O f o) (basis : PolynomialList) (state state' : State) → state' ≡ state
    → ∥ Reached check basis state ∥₁ → ∥ Reached check basis state' ∥₁
unmoved check basis state state' e led = subst (λ s. ∥ Reached check basis s ∥₁) (sym e) led
