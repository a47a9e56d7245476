-- What is held, and an offer that is refused. Assumes nothing.
use Rattle.std.proofs.Common.{◌≡◌, ℕ, ◌<◌, ltb, List, [], ◌∷◌, ◌++◌, length, Ok, Err, Result, sym, ap, ◌∙◌, ap₂, subst₂}
use Rattle.std.proofs.lemmas.Bool.{lt-ltb}
use Rattle.field.specs.Fields.{Arithmetic}
use Rattle.order.specs.Orders.{Compare}
use Rattle.ideal.specs.Rings.{Raw}
use Rattle.polynomial.specs.Results.{◌>>=◌, ◌>>◌, check}
use Rattle.polynomial.specs.declared.list.PolynomialList.{PolynomialList}
use Rattle.fault.specs.declared.fault.Fault.{Fault}
use Rattle.fault.specs.declared.fault.Fault.TheVariants.{Full}
use Rattle.combination.specs.Checks.{check_element}
use Rattle.checker.specs.declared.checker.ElementChecker.{ElementChecker}
use Rattle.division.proofs.Bounded.{err_ok, ok_injective}
use Rattle.run.specs.declared.state.State.{State}
use Rattle.run.specs.declared.state.State.TheVariants.{Generators, Elements, Passed}
use Rattle.run.specs.declared.state.CallKind.TheVariants.{Offer as OfferKind, Question as QuestionKind}
use Rattle.run.specs.Calls.{changes, hear}
use Rattle.run.specs.Models.{Model, Offer, Refused, entered}
use Rattle.calls.specs.Held.{held}
use Rattle.calls.specs.Shown.{shown, Same}
use Rattle.calls.specs.declared.held.Checker.{Checker}

module _ {F O : Type 0} {f : _} {o : _} where
  -- what is said of a checker is said of one that holds the same
  pub moved : (before after : Checker F O f o) → Same before after → (P : ElementChecker F O f o → PolynomialList → Type 0) → P after.check after.basis → P before.check before.basis
  moved before after s P h = subst₂ P s.check s.basis h

  pub same_then : (x y z : Checker F O f o) → Same x y → Same y z → Same x z
  same_then x y z a b = record { check = b.check ∙ a.check; basis = b.basis ∙ a.basis; state = b.state ∙ a.state }

  pub shown_same : (x y : Checker F O f o) → Same x y → shown y ≡ shown x
  shown_same x y s = ap₂ (λ c b. held c b y.state) s.check s.basis ∙ ap (held x.check x.basis) s.state

-- an offer does not change the state
pub offer_state : (before after : State) → Ok after ≡ entered before OfferKind → after ≡ before
offer_state Generators after e = err_ok (sym e)
offer_state Elements after e = ok_injective e
offer_state Passed after e = err_ok (sym e)

-- nor does a question
pub question_state : (before after : State) → Ok after ≡ entered before QuestionKind → after ≡ before
question_state Generators after e = err_ok (sym e)
question_state Elements after e = err_ok (sym e)
question_state Passed after e = ok_injective e

-- an offer that the check of the element refuses
pub offer_refused : (k : Arithmetic) (cmp : Compare) (m : Model) (state : State) (table cofactor_table counts : List ℕ) (e : Fault) → Ok state ≡ entered m.state OfferKind
    → length m.basis < 32 → check_element k m.variables cmp m.generators (length m.basis) table cofactor_table counts ≡ Err e
    → (Refused e, m) ≡ hear k cmp m (Offer table cofactor_table counts)
offer_refused k cmp m state table cofactor_table counts e now few refused =
    let more : State → Raw → Result Model Fault = λ s p. Ok (record { variables = m.variables; generators = m.generators; basis = m.basis ++ (p ∷ []); state = s }) in
    let checks : Result Raw Fault = check_element k m.variables cmp m.generators (length m.basis) table cofactor_table counts in
    sym (
    ap (λ (x : Result State Fault). changes m (x >>= (λ s. check (ltb (length m.basis) 32) Full >> (checks >>= more s)))) (sym now)
    ∙ ap (λ b. changes m (check b Full >> (checks >>= more state))) (lt-ltb (length m.basis) 32 few)
    ∙ ap (λ (x : Result Raw Fault). changes m (x >>= more state)) refused
    )
