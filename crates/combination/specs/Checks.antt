-- The check of an offered element, as what is asked in turn; and what a passed element is. Assumes nothing.
--   check_element      the element of a table, if it is the sum of cofactor × generator
--   Combined           an element is the combination of the generators with the cofactors of the table
--   Verdict            an element that passes is so combined, and one that is refused for its sum is not
use Rattle.std.specs.Prelude.{◌≡◌, ℕ, suc, ◌*◌, Bool, true, false, List, [], ◌∷◌, length, Ok, Err, Result, ◌==◌, ◌≢◌}
use Rattle.field.specs.Fields.{Arithmetic}
use Rattle.order.specs.Orders.{Compare}
use Rattle.ideal.specs.Lists.{Each}
use Rattle.ideal.specs.Polynomials.{combination}
use Rattle.ideal.specs.Rings.{Raw, ring, Polynomial}
use Rattle.polynomial.specs.Cuts.{total, cut}
use Rattle.polynomial.specs.Equality.{equal}
use Rattle.polynomial.specs.Results.{◌>>=◌, ◌>>◌, check, because}
use Rattle.polynomial.specs.Tables.{read}
use Rattle.polynomial.specs.declared.flaw.Flaw.TheVariants.{Length}
use Rattle.fault.specs.declared.fault.Place.TheVariants.{Element, Cofactor}
use Rattle.fault.specs.declared.fault.TableFault.TheVariants.{Flawed, NoTerm, CofactorCount}
use Rattle.fault.specs.declared.fault.Fault.{Fault}
use Rattle.fault.specs.declared.fault.Fault.TheVariants.{Table, NotTheSum}
use Rattle.combination.specs.Combinations.{sizes, read_cofactors, sum_cofactors}

abbrev pub has_term : Raw → Bool
has_term [] = false
has_term (t ∷ p) = true

module _ (k : Arithmetic) (n : ℕ) (cmp : Compare) where
  abbrev pub check_element : List Raw → ℕ → List ℕ → List ℕ → List ℕ → Result Raw Fault
  check_element generators number table cofactor_table counts = do
    p ← because Table (because (Flawed (Element number)) (read k n cmp 32 table))
    check (has_term p) (Table (NoTerm number))
    check (length counts == length generators) (Table CofactorCount)
    check (length cofactor_table == total counts * suc n) (Table (Flawed (Cofactor 0) Length))
    s ← sum_cofactors k n cmp (cut (sizes n counts) cofactor_table) generators
    check (equal s p) (NotTheSum number)
    Ok p

  pub record Read (generators : List Raw) (table cofactor_table counts : List ℕ) (p : Raw) (cofactors : List Raw) : Type 0 where
    pub element : read k n cmp 32 table ≡ Ok p
    pub parts : read_cofactors k n cmp 0 (cut (sizes n counts) cofactor_table) ≡ Ok cofactors
    pub polynomials : Each (Polynomial k n cmp) (p ∷ cofactors)
    pub counted : length cofactors ≡ length generators

  abbrev pub Combined : List Raw → List ℕ → List ℕ → List ℕ → Type 0
  Combined generators table cofactor_table counts = (p : Raw) × (cofactors : List Raw) × Read generators table cofactor_table counts p cofactors × (p ≡ combination (ring k n cmp) cofactors generators)

  abbrev pub NotCombined : List Raw → List ℕ → List ℕ → List ℕ → Type 0
  NotCombined generators table cofactor_table counts = (p : Raw) × (cofactors : List Raw) × Read generators table cofactor_table counts p cofactors × (p ≢ combination (ring k n cmp) cofactors generators)

  abbrev pub Verdict : List Raw → ℕ → List ℕ → List ℕ → List ℕ → Result (Unit {0}) Fault → Type 0
  Verdict generators number table cofactor_table counts r =
      (r ≡ Ok tt → Combined generators table cofactor_table counts) × (r ≡ Err (NotTheSum number) → NotCombined generators table cofactor_table counts)
