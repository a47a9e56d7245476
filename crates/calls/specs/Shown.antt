-- What a checker of the code shows, and what its calls promise. Assumes nothing.
--   shown                   the model that it shows
--   said, told              the answer of a call, and of a question with the result table after it
--   Same                    two checkers hold the same
--   Stands                  what it holds stands: the bounds, that the basis elements follow, and that they are complete once they have passed
--   Promise before c a after    the answer and what is held after are those of the definition; what is held stands if it stood before; every
--                           run that leads to what was held goes on by this call, and keeps the laws as a whole; field and order stay
-- That what is held is reached by a run is part of the type.
use Rattle.std.specs.Prelude.{◌≡◌, ℕ, List, Ok, Err, Result}
use Rattle.polynomial.specs.Rings.{arithmetic_of, comparison_of}
use Rattle.fault.specs.declared.fault.Fault.{Fault}
use Rattle.run.specs.Calls.{hear}
use Rattle.run.specs.Hears.{Goes}
use Rattle.run.specs.Models.{Model, Call, Answer, Done, Told, Refused}
use Rattle.run.specs.Runs.{model_of}
use Rattle.run.specs.Standing.{Standing}
use Rattle.calls.specs.Held.{held}
use Rattle.calls.specs.declared.held.Checker.{Checker}

abbrev pub said : Result (Unit {0}) Fault → Answer
said (Ok u) = Done
said (Err e) = Refused e

abbrev pub told : Result ℕ Fault → List ℕ → Answer
told (Ok number) after = Told number after
told (Err e) after = Refused e

abbrev pub shown : {F O : Type 0} {f : _} {o : _} → Checker F O f o → Model
shown c = held c.check c.basis c.state

pub record Same {F O : Type 0} {f : _} {o : _} (before after : Checker F O f o) : Type 0 where
  pub check : after.check ≡ before.check
  pub basis : after.basis ≡ before.basis
  pub state : after.state ≡ before.state

abbrev pub Stands : {F O : Type 0} {f : _} {o : _} → Checker F O f o → Type 0
Stands c = Standing (arithmetic_of c.check.ring) (comparison_of c.check.ring) (shown c)

pub record Promise {F O : Type 0} {f : _} {o : _} (before : Checker F O f o) (c : Call) (a : Answer) (after : Checker F O f o) : Type 0 where
  pub heard : (a, shown after) ≡ hear (arithmetic_of before.check.ring) (comparison_of before.check.ring) (shown before) c
  pub stands : Stands before → Stands after
  pub runs : (past : List Call) → model_of (arithmetic_of before.check.ring) (comparison_of before.check.ring) past ≡ shown before
      → Goes (arithmetic_of before.check.ring) (comparison_of before.check.ring) past c a (shown after)
  pub field : after.check.ring.field ≡ before.check.ring.field
  pub order : after.check.ring.order ≡ before.check.ring.order
