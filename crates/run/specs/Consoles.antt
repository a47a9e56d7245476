-- Worked runs and their answers. Assumes nothing.
--   answers k cmp run    what a checker never opened answers to the calls of a run
--   OneVariable          residues modulo 7: a³+6a²+5a and a²+4a+2; the element a+5 by the cofactors 4 and 3a+6 passes, and by 4 and 3a+5 is refused
--   TwoVariables         residues modulo 2, by lex: ab and a+b+1; with the elements a+b+1 and b²+b a²+a follows and a+b leaves 1; without b²+b, ab leaves a remainder
--   OnePair              residues modulo 7, graded: a³+5ab and a²b+5b²+a as generators and as elements; their S-polynomial leaves a remainder
--   Nothing              no generators and no elements: only 0 follows
--   Consoles             all of them
use Rattle.std.specs.Prelude.{◌≡◌, ℕ, List, [], ◌∷◌, ◌++◌}
use Rattle.field.specs.Fields.{Arithmetic}
use Rattle.field.specs.Primes.{residues}
use Rattle.order.specs.Orders.{Compare}
use Rattle.order.specs.Listed.{lex, graded}
use Rattle.fault.specs.declared.fault.Fault.TheVariants.{NotTheSum, GeneratorLeft, PairLeft}
use Rattle.run.specs.Calls.{hear}
use Rattle.run.specs.Models.{Model, fresh, Call, Open, Rule, Close, Offer, Finish, Question, Answer, Done, Told, Refused}

abbrev pub answers_from : Arithmetic → Compare → Model → List Call → List Answer
answers_from k cmp m [] = []
answers_from k cmp m (c ∷ calls) = (hear k cmp m c).0 ∷ answers_from k cmp (hear k cmp m c).1 calls

abbrev pub answers : Arithmetic → Compare → List Call → List Answer
answers k cmp = answers_from k cmp (fresh 1)

-- the element a+5, by the cofactors 4 and `second`
abbrev pub one_variable : List ℕ → List Call
one_variable second = Open 1 ∷ Rule (1 ∷ 3 ∷ 6 ∷ 2 ∷ 5 ∷ 1 ∷ []) ∷ Rule (1 ∷ 2 ∷ 4 ∷ 1 ∷ 2 ∷ 0 ∷ []) ∷ Close
    ∷ Offer (1 ∷ 1 ∷ 5 ∷ 0 ∷ []) ((4 ∷ 0 ∷ []) ++ second) (1 ∷ 2 ∷ []) ∷ Finish ∷ []

pub record OneVariable : Type 0 where
  pub passed : answers (residues 7) lex (one_variable (3 ∷ 1 ∷ 6 ∷ 0 ∷ [])) ≡ Done ∷ Done ∷ Done ∷ Done ∷ Done ∷ Done ∷ []
  pub refused : answers (residues 7) lex (one_variable (3 ∷ 1 ∷ 5 ∷ 0 ∷ [])) ≡ Done ∷ Done ∷ Done ∷ Done ∷ Refused (NotTheSum 0) ∷ Refused (GeneratorLeft 0) ∷ []

-- with the element a+b+1
abbrev pub two_variables : List Call
two_variables = Open 2 ∷ Rule (1 ∷ 1 ∷ 1 ∷ []) ∷ Rule (1 ∷ 1 ∷ 0 ∷ 1 ∷ 0 ∷ 1 ∷ 1 ∷ 0 ∷ 0 ∷ []) ∷ Close
    ∷ Offer (1 ∷ 1 ∷ 0 ∷ 1 ∷ 0 ∷ 1 ∷ 1 ∷ 0 ∷ 0 ∷ []) (1 ∷ 0 ∷ 0 ∷ []) (0 ∷ 1 ∷ []) ∷ []

pub record TwoVariables : Type 0 where
  pub passed : answers (residues 2) lex (two_variables ++ (Offer (1 ∷ 0 ∷ 2 ∷ 1 ∷ 0 ∷ 1 ∷ []) (1 ∷ 0 ∷ 0 ∷ 1 ∷ 0 ∷ 1 ∷ []) (1 ∷ 1 ∷ []) ∷ Finish
      ∷ Question (1 ∷ 2 ∷ 0 ∷ 1 ∷ 1 ∷ 0 ∷ []) (9 ∷ []) ∷ Question (1 ∷ 1 ∷ 0 ∷ 1 ∷ 0 ∷ 1 ∷ []) (9 ∷ 9 ∷ 9 ∷ 9 ∷ []) ∷ []))
      ≡ Done ∷ Done ∷ Done ∷ Done ∷ Done ∷ Done ∷ Done ∷ Told 0 (9 ∷ []) ∷ Told 1 (1 ∷ 0 ∷ 0 ∷ 9 ∷ []) ∷ []
  pub incomplete : answers (residues 2) lex (two_variables ++ (Finish ∷ [])) ≡ Done ∷ Done ∷ Done ∷ Done ∷ Done ∷ Refused (GeneratorLeft 0) ∷ []

abbrev pub first : List ℕ
first = 1 ∷ 3 ∷ 0 ∷ 5 ∷ 1 ∷ 1 ∷ []

abbrev pub second : List ℕ
second = 1 ∷ 2 ∷ 1 ∷ 5 ∷ 0 ∷ 2 ∷ 1 ∷ 1 ∷ 0 ∷ []

abbrev pub OnePair : Type 0
OnePair = answers (residues 7) graded (Open 2 ∷ Rule first ∷ Rule second ∷ Close
    ∷ Offer first (1 ∷ 0 ∷ 0 ∷ []) (1 ∷ 0 ∷ []) ∷ Offer second (1 ∷ 0 ∷ 0 ∷ []) (0 ∷ 1 ∷ []) ∷ Finish ∷ [])
    ≡ Done ∷ Done ∷ Done ∷ Done ∷ Done ∷ Done ∷ Refused (PairLeft 0 1) ∷ []

-- never opened
abbrev pub Nothing : Type 0
Nothing = answers (residues 2) lex (Close ∷ Finish ∷ Question [] [] ∷ Question (1 ∷ 0 ∷ []) (9 ∷ 9 ∷ []) ∷ [])
    ≡ Done ∷ Done ∷ Told 0 [] ∷ Told 1 (1 ∷ 0 ∷ []) ∷ []

pub record Consoles : Type 0 where
  pub one_variable_runs : OneVariable
  pub two_variable_runs : TwoVariables
  pub one_pair : OnePair
  pub nothing : Nothing
