-- A question by its remainder. Assumes nothing.
use Rattle.std.proofs.Common.{◌≡◌, ℕ, suc, ◌*◌, Bool, true, false, leb, List, length, Ok, Err, Result, sym, refl, ap, ◌∙◌}
use Rattle.field.specs.Fields.{Arithmetic}
use Rattle.order.specs.Orders.{Compare}
use Rattle.ideal.specs.Rings.{Raw, ring}
use Rattle.polynomial.specs.Results.{◌>>=◌, ◌>>◌, check, because}
use Rattle.polynomial.specs.Tables.{read}
use Rattle.fault.specs.declared.fault.Place.TheVariants.{Question as InQuestion}
use Rattle.fault.specs.declared.fault.TableFault.TheVariants.{Flawed, NoRoom}
use Rattle.fault.specs.declared.fault.Work.TheVariants.{Question as Asking}
use Rattle.fault.specs.declared.fault.Fault.{Fault}
use Rattle.fault.specs.declared.fault.Fault.TheVariants.{Table}
use Rattle.division.specs.Elements.{elements}
use Rattle.division.specs.Limits.{division}
use Rattle.run.specs.declared.state.CallKind.TheVariants.{Question as QuestionKind}
use Rattle.run.specs.Calls.{written, question_call, tells, hear}
use Rattle.run.specs.Finishing.{in_work_lem}
use Rattle.run.specs.Models.{Model, Question, Told, Refused, entered}
use Rattle.calls.specs.Asking.{remainder_asked}

-- to go on twice, the second time after both
again : {A B C : Type 0} (x : Result A Fault) (f : A → Result B Fault) (h : B → Result C Fault) → (x >>= (λ a. f a >>= h)) ≡ ((x >>= f) >>= h)
again (Ok a) f h = refl
again (Err e) f h = refl

module _ (k : Arithmetic) (cmp : Compare) (m : Model) (table result : List ℕ) where
  -- the remainder, if there is room for it
  abbrev fitting : Raw → Result Raw Fault
  fitting r = check (leb (length r * suc m.variables) (length result)) (Table NoRoom) >> Ok r

  abbrev divided : Raw → Result Raw Fault
  divided f = in_work_lem Asking (division (ring k m.variables cmp) m.variables (elements m.basis) f)

  abbrev reading : Result Raw Fault
  reading = because Table (because (Flawed InQuestion) (read k m.variables cmp 512 table))

  question_is : question_call k cmp m table result ≡ (remainder_asked k cmp m table >>= fitting)
  question_is =
      ap (λ (y : Result Raw Fault). entered m.state QuestionKind >>= (λ state. y)) (again reading divided fitting)
      ∙ again (entered m.state QuestionKind) (λ state. reading >>= divided) fitting

  pub question_refused : (e : Fault) → remainder_asked k cmp m table ≡ Err e → (Refused e, m) ≡ hear k cmp m (Question table result)
  question_refused e h = sym (ap (tells m result) (question_is ∙ ap (λ (x : Result Raw Fault). x >>= fitting) h))

  question_by : (r : Raw) (b : Bool) → remainder_asked k cmp m table ≡ Ok r → leb (length r * suc m.variables) (length result) ≡ b
      → hear k cmp m (Question table result) ≡ tells m result (check b (Table NoRoom) >> Ok r)
  question_by r b h fits = ap (tells m result) (question_is ∙ ap (λ (x : Result Raw Fault). x >>= fitting) h ∙ ap (λ b. check b (Table NoRoom) >> Ok r) fits)

  pub question_no_room : (r : Raw) → remainder_asked k cmp m table ≡ Ok r → leb (length r * suc m.variables) (length result) ≡ false
      → (Refused (Table NoRoom), m) ≡ hear k cmp m (Question table result)
  question_no_room r h fits = sym (question_by r false h fits)

  pub question_told : (r : Raw) → remainder_asked k cmp m table ≡ Ok r → leb (length r * suc m.variables) (length result) ≡ true
      → (Told (length r) (written r result), m) ≡ hear k cmp m (Question table result)
  question_told r h fits = sym (question_by r true h fits)
