-- What the parts of a checker hold. Assumes nothing.
--   held       the model that they show
--   Reached    some run of calls leads to it, from a checker never opened
use Rattle.std.specs.Prelude.{◌≡◌, List}
use Rattle.polynomial.specs.Kept.{polynomials}
use Rattle.polynomial.specs.declared.list.PolynomialList.{PolynomialList}
use Rattle.checker.specs.declared.checker.ElementChecker.{ElementChecker}
use Rattle.run.specs.declared.state.State.{State}
use Rattle.run.specs.Models.{Model, Call}
use Rattle.run.specs.Runs.{model_of}

abbrev pub held : {F O : Type 0} {f : _} {o : _} → ElementChecker F O f o → PolynomialList → State → Model
held check basis state = record { variables = check.ring.variables; generators = polynomials check.generators; basis = polynomials basis; state = state }

abbrev pub Reached : {F O : Type 0} {f : _} {o : _} → ElementChecker F O f o → PolynomialList → State → Type 0
Reached {f = f} {o = o} check basis state =
    (past : List Call) × (model_of (f.arithmetic check.ring.field) (o.comparison check.ring.order) past ≡ held check basis state)
