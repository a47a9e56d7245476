-- What a call promises. Assumes nothing.
--   Hears m c a m'    asked c, a checker that holds m answers a and then holds m': by the definition of the calls; what it holds stands
--                     as before; and every run that led to m goes on by this call, and keeps the laws as a whole
--   CallLaw           the definition of the calls promises that
--   StandingLaw       what is held after any run stands
--   RunLaw            every run keeps the laws
--   Everywhere X      X for every field and every monomial order
use Rattle.std.specs.Prelude.{◌≡◌, ℕ, List, [], ◌∷◌, ◌++◌}
use Rattle.field.specs.Fields.{Arithmetic, FieldLaws}
use Rattle.order.specs.Orders.{Compare, OrderLaws}
use Rattle.run.specs.Calls.{hear}
use Rattle.run.specs.Models.{Model, Call, Answer}
use Rattle.run.specs.Runs.{model_of, answer, Laws}
use Rattle.run.specs.Standing.{Standing}

module _ (k : Arithmetic) (cmp : Compare) where
  -- the run that led to m, with this call added
  pub record Goes (past : List Call) (c : Call) (a : Answer) (m' : Model) : Type 0 where
    pub leads : model_of k cmp (past ++ (c ∷ [])) ≡ m'
    pub answers : answer k cmp past c ≡ a
    pub laws : Laws k cmp (past ++ (c ∷ []))

  pub record Hears (m : Model) (c : Call) (a : Answer) (m' : Model) : Type 0 where
    pub heard : (a, m') ≡ hear k cmp m c
    pub stands : Standing k cmp m'
    pub runs : (past : List Call) → model_of k cmp past ≡ m → Goes past c a m'

  abbrev pub CallLaw : Type 0
  CallLaw = (m : Model) (c : Call) → Standing k cmp m → Hears m c (hear k cmp m c).0 (hear k cmp m c).1

  abbrev pub StandingLaw : Type 0
  StandingLaw = (run : List Call) → Standing k cmp (model_of k cmp run)

  abbrev pub RunLaw : Type 0
  RunLaw = (run : List Call) → Laws k cmp run

abbrev pub Everywhere : (Arithmetic → Compare → Type 0) → Type 0
Everywhere X = (k : Arithmetic) → FieldLaws k → (cmp : Compare) → ((n : ℕ) → OrderLaws n cmp) → X k cmp
