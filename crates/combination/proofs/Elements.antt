-- The check of an element, by what its parts answered. Assumes nothing.
use Rattle.std.proofs.Common.{◌≡◌, ℕ, suc, ◌*◌, Bool, true, false, eqb, List, [], length, Ok, Err, Result, sym, refl, ap, ◌∙◌, ap₂, arith}
use Rattle.field.specs.Fields.{Arithmetic}
use Rattle.order.specs.Orders.{Compare}
use Rattle.ideal.specs.Rings.{Raw, ring}
use Rattle.polynomial.specs.Cuts.{total, cut}
use Rattle.polynomial.specs.Equality.{equal}
use Rattle.polynomial.specs.Results.{◌>>=◌, ◌>>◌, check, because}
use Rattle.polynomial.specs.Tables.{read}
use Rattle.polynomial.specs.declared.flaw.Flaw.{Flaw}
use Rattle.polynomial.specs.declared.flaw.Flaw.TheVariants.{Length}
use Rattle.fault.specs.declared.fault.Place.TheVariants.{Element, Cofactor}
use Rattle.fault.specs.declared.fault.TableFault.{TableFault}
use Rattle.fault.specs.declared.fault.TableFault.TheVariants.{Flawed, NoTerm, CofactorCount}
use Rattle.fault.specs.declared.fault.Fault.{Fault}
use Rattle.fault.specs.declared.fault.Fault.TheVariants.{Table, Arithmetic as Limited, NotTheSum}
use Rattle.combination.specs.Combinations.{sizes, forgotten, laid_out, read_cofactors, add_cofactors, sum_cofactors}
use Rattle.combination.specs.Checks.{has_term, check_element}

-- the layout asked in two steps, or at once
laid-checks : (same whole : Bool) (r : Result Raw Fault)
    → (check same (Table CofactorCount) >> (check whole (Table (Flawed (Cofactor 0) Length)) >> r)) ≡ (because Table (check same CofactorCount >> check whole (Flawed (Cofactor 0) Length)) >> r)
laid-checks true true r = refl
laid-checks true false r = refl
laid-checks false whole r = refl

module _ (k : Arithmetic) (n : ℕ) (cmp : Compare) where
  module _ (generators : List Raw) (number : ℕ) (table cofactor_table counts : List ℕ) where
    abbrev parts : List (List ℕ)
    parts = cut (sizes n counts) cofactor_table

    -- a check of an element whose table reads, by the answers of its parts
    pub examined : (p : Raw) → Ok p ≡ read k n cmp 32 table → (some : Bool) (laid : Result (Unit {0}) TableFault) (sum : Result Raw Fault) → has_term p ≡ some
        → laid ≡ laid_out n generators counts cofactor_table → sum_cofactors k n cmp parts generators ≡ sum
        → check_element k n cmp generators number table cofactor_table counts
        ≡ (check some (Table (NoTerm number)) >> (because Table laid >> (sum >>= (λ s. check (equal s p) (NotTheSum number) >> Ok p))))
    examined p e some laid sum a b d =
        let same = eqb (length counts) (length generators) in
        let whole = eqb (length cofactor_table) (total counts * suc n) in
        let last : Result Raw Fault → Result Raw Fault = λ sum. sum >>= (λ s. check (equal s p) (NotTheSum number) >> Ok p) in
        ap (λ (r : Result Raw Flaw). because Table (because (Flawed (Element number)) r) >>= (λ p. check (has_term p) (Table (NoTerm number))
        >> (check same (Table CofactorCount) >> (check whole (Table (Flawed (Cofactor 0) Length))
        >> (sum_cofactors k n cmp parts generators >>= (λ s. check (equal s p) (NotTheSum number) >> Ok p)))))) (sym e)
        ∙ ap₂ (λ b sum. check b (Table (NoTerm number)) >> (check same (Table CofactorCount) >> (check whole (Table (Flawed (Cofactor 0) Length)) >> last sum))) a d
        ∙ ap (λ r. check some (Table (NoTerm number)) >> r) (laid-checks same whole (last sum))
        ∙ ap (λ (r : Result (Unit {0}) TableFault). check some (Table (NoTerm number)) >> (because Table r >> last sum)) (sym b)

    -- a cofactor that does not read ends the sum
    pub sum-refused : (e : TableFault) → Err e ≡ forgotten (read_cofactors k n cmp 0 parts) → sum_cofactors k n cmp parts generators ≡ Err (Table e)
    sum-refused e h = at (read_cofactors k n cmp 0 parts) h
      where
        at : (r : Result (List Raw) TableFault) → Err e ≡ forgotten r → (because Table r >>= (λ cofactors. because Limited (add_cofactors (ring k n cmp) 0 cofactors generators []))) ≡ Err (Table e)
        at (Ok xs) h = let z : ◌≡◌ {A = ℕ} 0 1 = cc in absurd (omega arith)
        at (Err x) h = let z : x ≡ e = cc in ap (λ x. Err (Table x)) z
