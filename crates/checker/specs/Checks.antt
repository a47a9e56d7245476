-- How what a checker holds changes. Assumes nothing.
--   add_generator      the generators with one more, from its table
--   after              the answer, and what is held after it: a refusal leaves that as it was
use Rattle.std.specs.Prelude.{ℕ, List, [], ◌∷◌, ◌++◌, length, Ok, Err, Result, nat_lt}
use Rattle.field.specs.Fields.{Arithmetic}
use Rattle.order.specs.Orders.{Compare}
use Rattle.ideal.specs.Rings.{Raw}
use Rattle.polynomial.specs.Results.{◌>>=◌, ◌>>◌, check, because}
use Rattle.polynomial.specs.Tables.{read}
use Rattle.fault.specs.declared.fault.Place.TheVariants.{Generator}
use Rattle.fault.specs.declared.fault.TableFault.TheVariants.{Flawed}
use Rattle.fault.specs.declared.fault.Fault.{Fault}
use Rattle.fault.specs.declared.fault.Fault.TheVariants.{Full, Table}

abbrev pub after : {A : Type 0} → A → Result A Fault → Result (Unit {0}) Fault × A
after old (Ok new) = (Ok tt, new)
after old (Err e) = (Err e, old)

module _ (k : Arithmetic) (n : ℕ) (cmp : Compare) where
  abbrev pub add_generator : List Raw → List ℕ → Result (List Raw) Fault
  add_generator generators table = do
    check (nat_lt (length generators) 32) Full
    p ← because Table (because (Flawed (Generator (length generators))) (read k n cmp 32 table))
    Ok (generators ++ (p ∷ []))
