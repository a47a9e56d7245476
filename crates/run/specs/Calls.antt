-- The six calls, each as what is asked in turn; the first no ends the call. Assumes nothing.
--   flat                        a polynomial as a table
--   written p result            a result table with a polynomial at its start, the rest unchanged
--   open_call .. finish_call    the model after a call that is done
--   question_call               the remainder that is told
--   hear m c                    the answer to the call c, and the model after it; a refused call leaves the model alone
use Rattle.std.specs.Prelude.{ℕ, suc, ◌*◌, ◌&&◌, List, [], ◌∷◌, ◌++◌, length, drop, Ok, Err, Result, nat_le, nat_lt}
use Rattle.field.specs.Fields.{Arithmetic}
use Rattle.order.specs.Orders.{Compare}
use Rattle.ideal.specs.Rings.{Raw, ring}
use Rattle.polynomial.specs.Results.{◌>>=◌, ◌>>◌, check, because}
use Rattle.polynomial.specs.Tables.{read}
use Rattle.fault.specs.declared.fault.Place.TheVariants.{Generator, Question as Asked}
use Rattle.fault.specs.declared.fault.TableFault.TheVariants.{Flawed, NoRoom}
use Rattle.fault.specs.declared.fault.Work.TheVariants.{Question as Asking}
use Rattle.fault.specs.declared.fault.Fault.{Fault}
use Rattle.fault.specs.declared.fault.Fault.TheVariants.{Variables, Full, Table}
use Rattle.combination.specs.Checks.{check_element}
use Rattle.division.specs.Elements.{elements}
use Rattle.division.specs.Limits.{division}
use Rattle.run.specs.declared.state.State.TheVariants.{Passed}
use Rattle.run.specs.declared.state.CallKind.TheVariants.{Rule as RuleKind, Close as CloseKind, Offer as OfferKind, Finish as FinishKind, Question as QuestionKind}
use Rattle.run.specs.Models.{Model, fresh, Call, Open, Rule, Close, Offer, Finish, Question, Answer, Done, Told, Refused, entered}
use Rattle.run.specs.Finishing.{in_work_lem, generators_vanish, all_pairs_vanish}

abbrev pub flat : Raw → List ℕ
flat [] = []
flat (t ∷ p) = (t.0 ∷ t.1) ++ flat p

abbrev pub written : Raw → List ℕ → List ℕ
written p result = flat p ++ drop (length (flat p)) result

abbrev pub open_call : ℕ → Result Model Fault
open_call n = do
  check (nat_le 1 n && nat_le n 24) Variables
  Ok (fresh n)

abbrev pub close_call : Model → Result Model Fault
close_call m = do
  state ← entered m.state CloseKind
  Ok (record { variables = m.variables; generators = m.generators; basis = m.basis; state = state })

module _ (k : Arithmetic) (cmp : Compare) where
  abbrev pub rule_call : Model → List ℕ → Result Model Fault
  rule_call m table = do
    state ← entered m.state RuleKind
    check (nat_lt (length m.generators) 32) Full
    p ← because Table (because (Flawed (Generator (length m.generators))) (read k m.variables cmp 32 table))
    Ok (record { variables = m.variables; generators = m.generators ++ (p ∷ []); basis = m.basis; state = state })

  abbrev pub offer_call : Model → List ℕ → List ℕ → List ℕ → Result Model Fault
  offer_call m table cofactor_table counts = do
    state ← entered m.state OfferKind
    check (nat_lt (length m.basis) 32) Full
    p ← check_element k m.variables cmp m.generators (length m.basis) table cofactor_table counts
    Ok (record { variables = m.variables; generators = m.generators; basis = m.basis ++ (p ∷ []); state = state })

  abbrev pub finish_call : Model → Result Model Fault
  finish_call m = do
    state ← entered m.state FinishKind
    generators_vanish k m.variables cmp m.basis 0 m.generators
    all_pairs_vanish k m.variables cmp m.basis 0 m.basis
    Ok (record { variables = m.variables; generators = m.generators; basis = m.basis; state = Passed })

  abbrev pub question_call : Model → List ℕ → List ℕ → Result Raw Fault
  question_call m table result = do
    state ← entered m.state QuestionKind
    f ← because Table (because (Flawed Asked) (read k m.variables cmp 512 table))
    r ← in_work_lem Asking (division (ring k m.variables cmp) m.variables (elements m.basis) f)
    check (nat_le (length r * suc m.variables) (length result)) (Table NoRoom)
    Ok r

-- the answer and the model after a call that changes the model, and after a question
abbrev pub changes : Model → Result Model Fault → Answer × Model
changes m (Ok m') = (Done, m')
changes m (Err e) = (Refused e, m)

abbrev pub tells : Model → List ℕ → Result Raw Fault → Answer × Model
tells m result (Ok r) = (Told (length r) (written r result), m)
tells m result (Err e) = (Refused e, m)

abbrev pub hear : Arithmetic → Compare → Model → Call → Answer × Model
hear k cmp m (Open n) = changes m (open_call n)
hear k cmp m (Rule table) = changes m (rule_call k cmp m table)
hear k cmp m Close = changes m (close_call m)
hear k cmp m (Offer table cofactor_table counts) = changes m (offer_call k cmp m table cofactor_table counts)
hear k cmp m Finish = changes m (finish_call k cmp m)
hear k cmp m (Question table result) = tells m result (question_call k cmp m table result)
