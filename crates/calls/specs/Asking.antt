-- What a question divides. Assumes nothing.
--   remainder_asked m table    the remainder of the polynomial of a question's table, if the state, the table and the limits allow it
use Rattle.std.specs.Prelude.{ℕ, List, Result}
use Rattle.field.specs.Fields.{Arithmetic}
use Rattle.order.specs.Orders.{Compare}
use Rattle.ideal.specs.Rings.{Raw, ring}
use Rattle.polynomial.specs.Results.{◌>>=◌, because}
use Rattle.polynomial.specs.Tables.{read}
use Rattle.fault.specs.declared.fault.Place.TheVariants.{Question as Asked}
use Rattle.fault.specs.declared.fault.TableFault.TheVariants.{Flawed}
use Rattle.fault.specs.declared.fault.Work.TheVariants.{Question as Asking}
use Rattle.fault.specs.declared.fault.Fault.{Fault}
use Rattle.fault.specs.declared.fault.Fault.TheVariants.{Table}
use Rattle.division.specs.Elements.{elements}
use Rattle.division.specs.Limits.{division}
use Rattle.run.specs.declared.state.CallKind.TheVariants.{Question as QuestionKind}
use Rattle.run.specs.Finishing.{in_work_lem}
use Rattle.run.specs.Models.{Model, entered}

abbrev pub remainder_asked : Arithmetic → Compare → Model → List ℕ → Result Raw Fault
remainder_asked k cmp m table = do
  state ← entered m.state QuestionKind
  f ← because Table (because (Flawed Asked) (read k m.variables cmp 512 table))
  in_work_lem Asking (division (ring k m.variables cmp) m.variables (elements m.basis) f)
