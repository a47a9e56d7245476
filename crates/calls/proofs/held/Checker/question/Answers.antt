-- A refusal of the division or for want of room, or the remainder as it is written.
use Rattle.std.proofs.Common.{◌≡◌, ℕ, suc, ◌+◌, ◌*◌, length, Ok, vec_items, Result, sym, ap, ◌∙◌, ap₂, List, arith}
use Rattle.std.proofs.lemmas.Result.{err_from_is_err_and}
use Rattle.std.proofs.lemmas.Bool.{le-leb, lt-leb}
use Rattle.ideal.specs.Rings.{Polynomial}
use Rattle.polynomial.specs.Views.{view}
use Rattle.polynomial.specs.declared.term.Term.{Term}
use Rattle.polynomial.proofs.Viewing.{view-length}
use Rattle.fault.specs.declared.fault.TableFault.TheVariants.{NoRoom}
use Rattle.fault.specs.declared.fault.Fault.{Fault}
use Rattle.fault.specs.declared.fault.Fault.TheVariants.{Table}
use Rattle.run.specs.Calls.{flat, written}
use Rattle.run.specs.Models.{Model, Question, Answer, Told, Refused}
use Rattle.run.proofs.RunLaws.{flat-length, sized}
use Rattle.calls.specs.Asking.{remainder_asked}
use Rattle.calls.specs.Shown.{shown, told}
use Rattle.calls.proofs.Asked.{question_refused, question_no_room, question_told}
use Rattle.calls.proofs.Holding.{shown_same}
use Rattle.calls.proofs.Reaching.{promised}
use Rattle.calls.proofs.held.Checker.question.Goals as goal

pub returns-in_err-divide_question-clause-promise : goal.returns-in_err-divide_question-clause-promise
returns-in_err-divide_question-clause-promise g c =
    let before = c.args.self.now in
    let after = c.divide_question.new.self in
    let k = g.F.Field.arithmetic before.check.ring.field in
    let cmp = g.O.MonomialOrder.comparison before.check.ring.order in
    let m = shown before in
    let same = c.divide_question.ensures.same in
    let table = c.args.table.now in
    let result = c.args.result_table.now in
    let e = c.in_err-divide_question.field-0.0 in
    let (fault, is, was) = err_from_is_err_and c.from_residual.result c.from_residual.ensures.1 in
    let heard = ap₂ (λ (a : Answer) (n : Model). (a, n)) (ap (λ (r : Result ℕ Fault). told r result) is ∙ ap Refused was) (shown_same before after same)
    ∙ question_refused k cmp m table result e (sym c.in_err-divide_question.ensures.value) in
    promised g.met.F.Field.lawful g.met.O.MonomialOrder.lawful before after (Question table result) (told c.from_residual.result result) heard
    (ap (λ x. x.ring.field) same.check) (ap (λ x. x.ring.order) same.check)

pub returns-then-terms-variables-clause-promise : goal.returns-then-terms-variables-clause-promise
returns-then-terms-variables-clause-promise g c =
    let before = c.args.self.now in
    let after = c.divide_question.new.self in
    let k = g.F.Field.arithmetic before.check.ring.field in
    let cmp = g.O.MonomialOrder.comparison before.check.ring.order in
    let m = shown before in
    let same = c.divide_question.ensures.same in
    let table = c.args.table.now in
    let result = c.args.result_table.now in
    let left = vec_items after.division.remainder.terms in
    let asked : remainder_asked k cmp m table ≡ Ok (view left) = sym c.in_ok-divide_question.ensures.value in
    let number : length (view left) ≡ length c.remainder-terms.result.now = view-length left ∙ sym (ap length c.remainder-terms.ensures) in
    let width : suc m.variables ≡ c.variables.result + 1 = let e = c.variables.ensures ∙ ap (λ r. r.variables) (c.ring.ensures ∙ ap (λ x. x.ring) same.check) in omega arith in
    let size : length (view left) * suc m.variables ≡ length c.remainder-terms.result.now * (c.variables.result + 1) = ap₂ ◌*◌ number width in
    let taken = c.if-terms-variables.true in
    let heard = ap (λ (n : Model). (Refused (Table NoRoom), n)) (shown_same before after same) ∙ question_no_room k cmp m table result (view left) asked (lt-leb _ _ (omega arith)) in
    promised g.met.F.Field.lawful g.met.O.MonomialOrder.lawful before _ (Question table result) (Refused (Table NoRoom)) heard
    (ap (λ x. x.ring.field) same.check) (ap (λ x. x.ring.order) same.check)

pub write_terms-requires : goal.write_terms-requires
write_terms-requires g c =
    let before = c.args.self.now in
    let after = c.divide_question.new.self in
    let k = g.F.Field.arithmetic before.check.ring.field in
    let cmp = g.O.MonomialOrder.comparison before.check.ring.order in
    let m = shown before in
    let same = c.divide_question.ensures.same in
    let table = c.args.table.now in
    let result = c.args.result_table.now in
    let left = vec_items after.division.remainder.terms in
    let asked : remainder_asked k cmp m table ≡ Ok (view left) = sym c.in_ok-divide_question.ensures.value in
    let number : length (view left) ≡ length c.remainder-terms.result.now = view-length left ∙ sym (ap length c.remainder-terms.ensures) in
    let width : suc m.variables ≡ c.variables.result + 1 = let e = c.variables.ensures ∙ ap (λ r. r.variables) (c.ring.ensures ∙ ap (λ x. x.ring) same.check) in omega arith in
    let size : length (view left) * suc m.variables ≡ length c.remainder-terms.result.now * (c.variables.result + 1) = ap₂ ◌*◌ number width in
    let fits = c.if-terms-variables.false in
    let ok : Polynomial k m.variables cmp (view left) = c.in_ok-divide_question.ensures.within in
    let long = flat-length m.variables (view left) (sized k m.variables (view left) ok.0) in
    let there = ap (λ (ts : List Term). length (flat (view ts))) c.remainder-terms.ensures in
    omega arith

pub returns-clause-promise : goal.returns-clause-promise
returns-clause-promise g c =
    let before = c.args.self.now in
    let after = c.divide_question.new.self in
    let k = g.F.Field.arithmetic before.check.ring.field in
    let cmp = g.O.MonomialOrder.comparison before.check.ring.order in
    let m = shown before in
    let same = c.divide_question.ensures.same in
    let table = c.args.table.now in
    let result = c.args.result_table.now in
    let left = vec_items after.division.remainder.terms in
    let asked : remainder_asked k cmp m table ≡ Ok (view left) = sym c.in_ok-divide_question.ensures.value in
    let number : length (view left) ≡ length c.remainder-terms.result.now = view-length left ∙ sym (ap length c.remainder-terms.ensures) in
    let width : suc m.variables ≡ c.variables.result + 1 = let e = c.variables.ensures ∙ ap (λ r. r.variables) (c.ring.ensures ∙ ap (λ x. x.ring) same.check) in omega arith in
    let size : length (view left) * suc m.variables ≡ length c.remainder-terms.result.now * (c.variables.result + 1) = ap₂ ◌*◌ number width in
    let fits = c.if-terms-variables.false in
    let wrote = c.write_terms.ensures ∙ ap (λ (ts : List Term). written (view ts) result) c.remainder-terms.ensures in
    let heard = ap₂ (λ (a : Answer) (n : Model). (a, n)) (ap₂ Told (sym number) wrote) (shown_same before after same)
    ∙ question_told k cmp m table result (view left) asked (le-leb _ _ (omega arith)) in
    promised g.met.F.Field.lawful g.met.O.MonomialOrder.lawful before _ (Question table result) (Told (length c.remainder-terms.result.now) c.write_terms.new.result_table) heard
    (ap (λ x. x.ring.field) same.check) (ap (λ x. x.ring.order) same.check)
