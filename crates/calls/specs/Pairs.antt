-- What is decided of one pair, and of all that a finish divides. Assumes nothing.
--   left_over j l    the pair (j, l) leaves a remainder, and is refused for that; or it does not; or a limit was met
--   all_vanish       every generator, and then every pair, divides to 0
use Rattle.std.specs.Prelude.{ℕ, Bool, not, List, Result}
use Rattle.field.specs.Fields.{Arithmetic}
use Rattle.order.specs.Orders.{Compare}
use Rattle.ideal.specs.Rings.{Raw}
use Rattle.polynomial.specs.Results.{◌>>=◌, ◌>>◌, check}
use Rattle.fault.specs.declared.fault.Fault.{Fault}
use Rattle.fault.specs.declared.fault.Fault.TheVariants.{PairLeft}
use Rattle.run.specs.Finishing.{generators_vanish, all_pairs_vanish}

abbrev pub left_over : ℕ → ℕ → Result Bool Fault → Result (Unit {0}) Fault
left_over j l r = r >>= (λ left. check (not left) (PairLeft j l))

abbrev pub all_vanish : Arithmetic → ℕ → Compare → List Raw → List Raw → Result (Unit {0}) Fault
all_vanish k n cmp generators basis = do
  generators_vanish k n cmp basis 0 generators
  all_pairs_vanish k n cmp basis 0 basis
