-- What a checker holds, and what is asked of it and said by it. Assumes nothing.
--   Model         the number of variables, the generators, the basis elements, and the state
--   fresh n       nothing held, in n variables
--   Call          a call, with what is handed in: the numbers of tables, counts and the result table
--   Answer        done; told, with the number of terms and the result table after the call; or refused
--   entered       the state in which a call is taken, if the state allows the call
use Rattle.std.specs.Prelude.{ℕ, List, [], Ok, Err, Result}
use Rattle.ideal.specs.Rings.{Raw}
use Rattle.fault.specs.declared.fault.Fault.{Fault}
use Rattle.fault.specs.declared.fault.Fault.TheVariants.{State as NotNow}
use Rattle.run.specs.declared.state.State.{State}
use Rattle.run.specs.declared.state.State.TheVariants.{Generators, Elements, Passed}
use Rattle.run.specs.declared.state.CallKind.{CallKind}
use Rattle.run.specs.declared.state.CallKind.TheVariants.{Open as OpenKind, Rule as RuleKind, Close as CloseKind, Offer as OfferKind, Finish as FinishKind, Question as QuestionKind}

pub record Model : Type 0 where
  pub variables : ℕ
  pub generators : List Raw
  pub basis : List Raw
  pub state : State

abbrev pub fresh : ℕ → Model
fresh n = record { variables = n; generators = []; basis = []; state = Generators }

pub data Call : Type 0 where
  -- the number of variables
  Open : ℕ → Call
  -- the generator's table
  Rule : List ℕ → Call
  Close : Call
  -- the element's table, the table of its cofactors, the counts
  Offer : List ℕ → List ℕ → List ℕ → Call
  Finish : Call
  -- the table of what is asked about, and the result table
  Question : List ℕ → List ℕ → Call

pub data Answer : Type 0 where
  Done : Answer
  Told : ℕ → List ℕ → Answer
  Refused : Fault → Answer

abbrev pub entered : State → CallKind → Result State Fault
entered Generators OpenKind = Ok Generators
entered Generators RuleKind = Ok Generators
entered Generators CloseKind = Ok Elements
entered Generators OfferKind = Err NotNow
entered Generators FinishKind = Err NotNow
entered Generators QuestionKind = Err NotNow
entered Elements OpenKind = Ok Generators
entered Elements RuleKind = Err NotNow
entered Elements CloseKind = Err NotNow
entered Elements OfferKind = Ok Elements
entered Elements FinishKind = Ok Elements
entered Elements QuestionKind = Err NotNow
entered Passed OpenKind = Ok Generators
entered Passed RuleKind = Err NotNow
entered Passed CloseKind = Err NotNow
entered Passed OfferKind = Err NotNow
entered Passed FinishKind = Err NotNow
entered Passed QuestionKind = Ok Passed
