-- What a finish divides: every generator, then the S-polynomial of every two basis elements. Assumes nothing.
--   is_zero                the polynomial 0 has no term
--   vanish work left r     an outcome of a division that must be 0: refused by the limit met in some work, or by `left` where a term is left
--   generators_vanish i    the generators from number i on divide to 0
--   pairs_vanish j g l     the S-polynomials of g, which is basis element j, with those from number l on divide to 0
--   all_pairs_vanish j     those of every two from number j on, the pairs (0,1), (0,2) .. (1,2) ..
use Rattle.std.specs.Prelude.{ℕ, suc, Bool, true, false, List, [], ◌∷◌, Ok, Result}
use Rattle.field.specs.Fields.{Arithmetic}
use Rattle.order.specs.Orders.{Compare}
use Rattle.ideal.specs.Polynomials.{Operations}
use Rattle.ideal.specs.Rings.{Raw, ring}
use Rattle.polynomial.specs.Results.{◌>>=◌, ◌>>◌, check, because}
use Rattle.fault.specs.declared.fault.Work.{Work}
use Rattle.fault.specs.declared.fault.Work.TheVariants.{Generator as Dividing, Pair}
use Rattle.fault.specs.declared.fault.Fault.{Fault}
use Rattle.fault.specs.declared.fault.Fault.TheVariants.{Arithmetic as Limited, GeneratorLeft, PairLeft}
use Rattle.combination.specs.Combinations.{stopped}
use Rattle.division.specs.Elements.{elements}
use Rattle.division.specs.Limits.{Outcome, division, pair}

abbrev pub is_zero : Raw → Bool
is_zero [] = true
is_zero (t ∷ p) = false

-- what a limit met in some work refuses
abbrev pub in_work_lem : Work → Outcome → Result Raw Fault
in_work_lem work x = because Limited (because (stopped work) x)

abbrev pub vanish : Work → Fault → Outcome → Result (Unit {0}) Fault
vanish work left x = do
  r ← in_work_lem work x
  check (is_zero r) left

module _ (k : Arithmetic) (n : ℕ) (cmp : Compare) (basis : List Raw) where
  abbrev o : Operations ℕ (List ℕ)
  o = ring k n cmp

  abbrev pub generators_vanish : ℕ → List Raw → Result (Unit {0}) Fault
  generators_vanish i [] = Ok tt
  generators_vanish i (p ∷ generators) = do
    vanish (Dividing i) (GeneratorLeft i) (division o n (elements basis) p)
    generators_vanish (suc i) generators

  -- the S-polynomial of g and h, which are basis elements j and l, divides to 0
  abbrev pub pair_vanishes : ℕ → Raw → ℕ → Raw → Result (Unit {0}) Fault
  pair_vanishes j g l h = do
    s ← in_work_lem (Pair j l) (pair o g h)
    vanish (Pair j l) (PairLeft j l) (division o n (elements basis) s)

  abbrev pub pairs_vanish : ℕ → Raw → ℕ → List Raw → Result (Unit {0}) Fault
  pairs_vanish j g l [] = Ok tt
  pairs_vanish j g l (h ∷ later) = do
    pair_vanishes j g l h
    pairs_vanish j g (suc l) later

  abbrev pub all_pairs_vanish : ℕ → List Raw → Result (Unit {0}) Fault
  all_pairs_vanish j [] = Ok tt
  all_pairs_vanish j (g ∷ later) = do
    pairs_vanish j g (suc j) later
    all_pairs_vanish (suc j) later
