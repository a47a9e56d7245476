-- Runs of calls, refused ones included, and their laws. Assumes nothing.
--   model_of past           what is held after the calls of `past`, from a checker never opened
--   answer past c           what is said to the call c then
--   asked past table        the polynomial that a question's table then stands for
--   shown past number after what an answered question shows of the remainder: the number of terms, and the terms
--   FinishAt                what a finish decides that neither the state nor a limit refuses
--   QuestionAt              what an answer 0 to a question says
--   RemainderAt             what equal remainders of two questions say
--   Made run past c         c is made in the run, behind `past`
--   Laws run                all of it, for every finish, question and two questions of the run
use Rattle.std.specs.Prelude.{◌≡◌, ℕ, suc, ◌*◌, ◌≢◌, ◌↔◌, List, [], ◌∷◌, ◌++◌, take, Ok, Result}
use Rattle.field.specs.Fields.{Arithmetic}
use Rattle.order.specs.Orders.{Compare}
use Rattle.ideal.specs.Polynomials.{difference}
use Rattle.ideal.specs.Rings.{Raw, ring}
use Rattle.polynomial.specs.Tables.{read}
use Rattle.polynomial.specs.declared.flaw.Flaw.{Flaw}
use Rattle.fault.specs.declared.fault.ArithmeticFault.{ArithmeticFault}
use Rattle.fault.specs.declared.fault.Fault.TheVariants.{State as NotNow, Arithmetic as Limited}
use Rattle.run.specs.Calls.{hear}
use Rattle.run.specs.Models.{Model, fresh, Call, Finish, Question, Answer, Done, Told, Refused}
use Rattle.run.specs.Standing.{Follows, Complete}

module _ (k : Arithmetic) (cmp : Compare) where
  -- what is held after calls on a checker that holds m
  abbrev pub from : Model → List Call → Model
  from m [] = m
  from m (c ∷ calls) = from (hear k cmp m c).1 calls

  abbrev pub model_of : List Call → Model
  model_of = from (fresh 1)

  abbrev pub answer : List Call → Call → Answer
  answer past c = (hear k cmp (model_of past) c).0

  abbrev pub asked : List Call → List ℕ → Result Raw Flaw
  asked past table = read k (model_of past).variables cmp 512 table

  abbrev pub shown : List Call → ℕ → List ℕ → ℕ × List ℕ
  shown past number after = (number, take (number * suc (model_of past).variables) after)

  -- done exactly if the basis elements then held are complete
  abbrev pub FinishAt : List Call → Type 0
  FinishAt past = answer past Finish ≢ Refused NotNow → ((limit : ArithmeticFault) → answer past Finish ≢ Refused (Limited limit))
      → (answer past Finish ≡ Done) ↔ Complete k cmp (model_of past)

  -- told 0 exactly if what is asked follows from the generators then held
  abbrev pub QuestionAt : List Call → List ℕ → List ℕ → Type 0
  QuestionAt past table result = (number : ℕ) (after : List ℕ) → answer past (Question table result) ≡ Told number after
      → (f : Raw) × (asked past table ≡ Ok f) × ((number ≡ 0) ↔ Follows k cmp (model_of past) f)

  -- under equal variables and generators, the same remainder exactly if the difference follows
  abbrev pub RemainderAt : List Call → List ℕ → List ℕ → List Call → List ℕ → List ℕ → Type 0
  RemainderAt past table result past' table' result' = (number number' : ℕ) (after after' : List ℕ)
      → answer past (Question table result) ≡ Told number after → answer past' (Question table' result') ≡ Told number' after'
      → (model_of past).variables ≡ (model_of past').variables → (model_of past).generators ≡ (model_of past').generators
      → (f f' : Raw) → asked past table ≡ Ok f → asked past' table' ≡ Ok f'
      → (shown past number after ≡ shown past' number' after') ↔ Follows k cmp (model_of past) (difference (ring k (model_of past).variables cmp) f f')

  abbrev pub Made : List Call → List Call → Call → Type 0
  Made run past c = (later : List Call) × (run ≡ past ++ (c ∷ later))

  pub record Laws (run : List Call) : Type 0 where
    pub finishes : (past : List Call) → Made run past Finish → FinishAt past
    pub questions : (past : List Call) (table result : List ℕ) → Made run past (Question table result) → QuestionAt past table result
    pub remainders : (past past' : List Call) (table result table' result' : List ℕ)
        → Made run past (Question table result) → Made run past' (Question table' result') → RemainderAt past table result past' table' result'
