-- Calls made one after another, the questions with one result table. Assumes nothing.
--   request c result        the call c of the code, with the numbers handed in
--   Reply                   what a call of the code answers
--   replied a               what is kept of an answer: whether it is done, the number of terms, or why it is refused
--   spoken r after          the answer of a reply, with the result table after the call
--   left_by a result        the result table after an answer: as written by an answered question, else as before
--   requests, answers       the calls that are made, on a checker that holds m, and the answers to them
--   left                    the result table after them
--   Sequence                what is said of them all: the answers are the definition's, and the run keeps the laws as a whole
use Rattle.std.specs.Prelude.{◌≡◌, ℕ, List, [], ◌∷◌, map, Some, None, Ok, Err, Option, Result}
use Rattle.field.specs.Fields.{Arithmetic}
use Rattle.order.specs.Orders.{Compare}
use Rattle.fault.specs.declared.fault.Fault.{Fault}
use Rattle.run.specs.Calls.{hear}
use Rattle.run.specs.Models.{Model, fresh, Call as Request, Open, Rule, Close, Offer, Finish, Question, Answer, Done, Told, Refused}
use Rattle.run.specs.Runs.{Laws}
use Rattle.calls.specs.declared.call.Call.{Call}
use Rattle.calls.specs.declared.call.Call.TheVariants.{Open as OpenCall, Rule as RuleCall, Close as CloseCall, Offer as OfferCall, Finish as FinishCall, Question as QuestionCall}

abbrev pub request : Call → List ℕ → Request
request (OpenCall n) result = Open n
request (RuleCall table) result = Rule table.now
request CloseCall result = Close
request (OfferCall offered) result = Offer offered.table.now offered.cofactors.now offered.counts.now
request FinishCall result = Finish
request (QuestionCall table) result = Question table.now result

abbrev pub Reply : Type 0
Reply = Result (Option ℕ) Fault

abbrev pub replied : Answer → Reply
replied Done = Ok None
replied (Told number after) = Ok (Some number)
replied (Refused e) = Err e

abbrev pub spoken : Reply → List ℕ → Answer
spoken (Ok None) after = Done
spoken (Ok (Some number)) after = Told number after
spoken (Err e) after = Refused e

abbrev pub left_by : Answer → List ℕ → List ℕ
left_by Done result = result
left_by (Told number after) result = after
left_by (Refused e) result = result

module _ (k : Arithmetic) (cmp : Compare) where
  abbrev pub requests : Model → List Call → List ℕ → List Request
  requests m [] result = []
  requests m (c ∷ calls) result = let x = hear k cmp m (request c result) in request c result ∷ requests x.1 calls (left_by x.0 result)

  abbrev pub answers : Model → List Call → List ℕ → List Answer
  answers m [] result = []
  answers m (c ∷ calls) result = let x = hear k cmp m (request c result) in x.0 ∷ answers x.1 calls (left_by x.0 result)

  abbrev pub left : Model → List Call → List ℕ → List ℕ
  left m [] result = result
  left m (c ∷ calls) result = let x = hear k cmp m (request c result) in left x.1 calls (left_by x.0 result)

  pub record Sequence (calls : List Call) (result : List ℕ) (replies : List Reply) (after : List ℕ) : Type 0 where
    pub answered : replies ≡ map replied (answers (fresh 1) calls result)
    pub written : after ≡ left (fresh 1) calls result
    pub laws : Laws k cmp (requests (fresh 1) calls result)
