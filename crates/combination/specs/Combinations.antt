-- Cofactors from one table, and their sum with the generators. Assumes nothing.
--   sizes n             how many numbers the cofactors of these counts take
--   read_cofactor i     cofactor number i from its part of the table
--   read_cofactors i    the cofactors from number i on, each from its part
--   add_terms i j       the products of a generator and the terms of cofactor i, from term j on, added one after another
--   add_cofactors i     the same for all cofactors, from number i on, and their generators
--   sum_cofactor i      one cofactor read from its part, and its products with its generator added
--   sum_cofactors       all cofactors read from their parts, and then all products added, from 0
--   stopped             the fault of a limit met in some work
--   forgotten           whether there was an answer, without it
--   laid_out            as many counts as generators, and a table with just the numbers that the counts ask for
use Rattle.std.specs.Prelude.{ℕ, suc, ◌*◌, List, [], ◌∷◌, map, length, Ok, Err, Result, ◌==◌}
use Rattle.field.specs.Fields.{Arithmetic}
use Rattle.order.specs.Orders.{Compare}
use Rattle.ideal.specs.Polynomials.{Operations}
use Rattle.ideal.specs.Rings.{Raw, ring}
use Rattle.polynomial.specs.Cuts.{total}
use Rattle.polynomial.specs.Limits.{step}
use Rattle.polynomial.specs.Results.{◌>>=◌, ◌>>◌, check, because}
use Rattle.polynomial.specs.Tables.{read}
use Rattle.polynomial.specs.declared.flaw.Flaw.TheVariants.{Length}
use Rattle.polynomial.specs.declared.flaw.Limit.{Limit}
use Rattle.fault.specs.declared.fault.Place.TheVariants.{Cofactor}
use Rattle.fault.specs.declared.fault.TableFault.{TableFault}
use Rattle.fault.specs.declared.fault.TableFault.TheVariants.{Flawed, CofactorCount}
use Rattle.fault.specs.declared.fault.Work.{Work}
use Rattle.fault.specs.declared.fault.Work.TheVariants.{CofactorTerm}
use Rattle.fault.specs.declared.fault.ArithmeticFault.{ArithmeticFault}
use Rattle.fault.specs.declared.fault.Fault.{Fault}
use Rattle.fault.specs.declared.fault.Fault.TheVariants.{Table, Arithmetic as Limited}

abbrev pub sizes : ℕ → List ℕ → List ℕ
sizes n counts = map (λ c. c * suc n) counts

abbrev pub stopped : Work → Limit → ArithmeticFault
stopped work limit = record { work = work; limit = limit }

abbrev pub forgotten : {E A : Type 0} → Result A E → Result (Unit {0}) E
forgotten (Ok a) = Ok tt
forgotten (Err e) = Err e

abbrev pub laid_out : ℕ → List Raw → List ℕ → List ℕ → Result (Unit {0}) TableFault
laid_out n generators counts cofactor_table = check (length counts == length generators) CofactorCount >> check (length cofactor_table == total counts * suc n) (Flawed (Cofactor 0) Length)

module _ (k : Arithmetic) (n : ℕ) (cmp : Compare) where
  abbrev pub read_cofactor : ℕ → List ℕ → Result Raw TableFault
  read_cofactor i part = because (Flawed (Cofactor i)) (read k n cmp 32 part)

  abbrev pub read_cofactors : ℕ → List (List ℕ) → Result (List Raw) TableFault
  read_cofactors i [] = Ok []
  read_cofactors i (part ∷ parts) = do
    a ← read_cofactor i part
    rest ← read_cofactors (suc i) parts
    Ok (a ∷ rest)

module _ (o : Operations ℕ (List ℕ)) where
  abbrev pub add_terms : ℕ → ℕ → Raw → Raw → Raw → Result Raw ArithmeticFault
  add_terms i j [] p f = Ok f
  add_terms i j (t ∷ a) p f = do
    h ← because (stopped (CofactorTerm i j)) (step o 0 t p f)
    add_terms i (suc j) a p h

  abbrev pub add_cofactors : ℕ → List Raw → List Raw → Raw → Result Raw ArithmeticFault
  add_cofactors i [] generators f = Ok f
  add_cofactors i (a ∷ cofactors) [] f = Ok f
  add_cofactors i (a ∷ cofactors) (p ∷ generators) f = do
    h ← add_terms i 0 a p f
    add_cofactors (suc i) cofactors generators h

module _ (k : Arithmetic) (n : ℕ) (cmp : Compare) where
  abbrev pub sum_cofactor : ℕ → List ℕ → Raw → Raw → Result Raw Fault
  sum_cofactor i part p f = do
    a ← because Table (read_cofactor k n cmp i part)
    because Limited (add_terms (ring k n cmp) i 0 a p f)

  abbrev pub sum_cofactors : List (List ℕ) → List Raw → Result Raw Fault
  sum_cofactors parts generators = do
    cofactors ← because Table (read_cofactors k n cmp 0 parts)
    because Limited (add_cofactors (ring k n cmp) 0 cofactors generators [])
