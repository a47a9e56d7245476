-- What a finish divides to 0, and what stops one. Assumes nothing.
use Rattle.std.proofs.Common.{◌≡◌, ℕ, suc, ◌⊎◌, List, [], ◌∷◌, Ok, Err, Result, sym, refl, ap, subst, inl, inr}
use Rattle.field.specs.Fields.{Arithmetic, FieldLaws}
use Rattle.order.specs.Orders.{Compare, OrderLaws}
use Rattle.ideal.specs.Lists.{Each}
use Rattle.ideal.specs.Polynomials.{Operations, whole}
use Rattle.ideal.specs.Rings.{Raw, RawElement, ring}
use Rattle.ideal.specs.Dividing.{s_polynomial, Leaves, PairsVanish}
use Rattle.ideal.proofs.Verdicts as verdicts
use Rattle.polynomial.specs.Results.{◌>>=◌, ◌>>◌}
use Rattle.fault.specs.declared.fault.ArithmeticFault.{ArithmeticFault}
use Rattle.fault.specs.declared.fault.Work.{Work}
use Rattle.fault.specs.declared.fault.Work.TheVariants.{Generator as Dividing, Pair}
use Rattle.fault.specs.declared.fault.Fault.{Fault}
use Rattle.fault.specs.declared.fault.Fault.TheVariants.{Arithmetic as Limited, GeneratorLeft, PairLeft}
use Rattle.combination.specs.Combinations.{stopped}
use Rattle.division.specs.Bounds.{Held}
use Rattle.division.specs.Elements.{elements}
use Rattle.division.specs.Limits.{Outcome, division, limited_s_polynomial, pair}
use Rattle.division.proofs.Bounded.{err_ok, ok_injective, division_is}
use Rattle.division.proofs.Settling.{pair_law}
use Rattle.run.specs.Finishing.{in_work_lem, vanish, generators_vanish, pair_vanishes, pairs_vanish, all_pairs_vanish}

-- one after the other
pub both_done : {A : Type 0} (x : Result (Unit {0}) Fault) (y : Result A Fault) (a : A) → (x >> y) ≡ Ok a → (x ≡ Ok tt) × (y ≡ Ok a)
both_done (Ok tt) y a e = (refl, e)
both_done (Err f) y a e = err_ok e

-- an outcome that is found to be 0
vanish_is : (work : Work) (left : Fault) (x : Outcome) → vanish work left x ≡ Ok tt → x ≡ Ok []
vanish_is work left (Ok []) e = refl
vanish_is work left (Ok (t ∷ r)) e = err_ok e
vanish_is work left (Err l) e = err_ok e

-- an S-polynomial that is gone on with
pair_bound : (work : Work) (x : Outcome) (next : Raw → Result (Unit {0}) Fault) → (in_work_lem work x >>= next) ≡ Ok tt → (s : Raw) × (x ≡ Ok s) × (next s ≡ Ok tt)
pair_bound work (Ok s) next e = (s, refl, e)
pair_bound work (Err l) next e = err_ok e

-- done, or stopped by a limit
abbrev pub Stops : Result (Unit {0}) Fault → Type 0
Stops x = (x ≡ Ok tt) ⊎ ((limit : ArithmeticFault) × (x ≡ Err (Limited limit)))

stops_then : (x y : Result (Unit {0}) Fault) → Stops x → Stops y → Stops (x >> y)
stops_then x y (inl e) s = subst (λ (x : Result (Unit {0}) Fault). Stops (x >> y)) (sym e) s
stops_then x y (inr (l, e)) s = inr (l, ap (λ (x : Result (Unit {0}) Fault). x >> y) e)

-- an outcome that can only be 0
stops_vanish : (work : Work) (left : Fault) (x : Outcome) → ((r : Raw) → x ≡ Ok r → r ≡ []) → Stops (vanish work left x)
stops_vanish work left (Ok r) h = subst (λ (r : Raw). Stops (vanish work left (Ok r))) (sym (h r refl)) (inl refl)
stops_vanish work left (Err l) h = inr (stopped work l, refl)

module _ {k : Arithmetic} (F : FieldLaws k) {n : ℕ} {cmp : Compare} (O : OrderLaws n cmp) (basis : List Raw) where
  abbrev o : Operations ℕ (List ℕ)
  o = ring k n cmp

  abbrev Zero : Raw → Type 0
  Zero p = Leaves o (elements basis) p []

  divided : (work : Work) (left : Fault) (p : Raw) → vanish work left (division o n (elements basis) p) ≡ Ok tt → Zero p
  divided work left p e = division_is o (elements basis) n p [] (vanish_is work left (division o n (elements basis) p) e)

  stops_division : (work : Work) (left : Fault) (p : Raw) → Zero p → Stops (vanish work left (division o n (elements basis) p))
  stops_division work left p z = stops_vanish work left (division o n (elements basis) p)
      (λ r e. (verdicts.division-ends F O).unique (elements basis) p r [] (division_is o (elements basis) n p r e) z)

  -- the generators
  pub generators-zero : (i : ℕ) (generators : List Raw) → generators_vanish k n cmp basis i generators ≡ Ok tt → Each Zero generators
  generators-zero i [] e = tt
  generators-zero i (p ∷ generators) e =
      let (a, b) = both_done (vanish (Dividing i) (GeneratorLeft i) (division o n (elements basis) p)) (generators_vanish k n cmp basis (suc i) generators) tt e in
      (divided (Dividing i) (GeneratorLeft i) p a, generators-zero (suc i) generators b)

  pub stops_generators : (i : ℕ) (generators : List Raw) → Each Zero generators → Stops (generators_vanish k n cmp basis i generators)
  stops_generators i [] z = inl refl
  stops_generators i (p ∷ generators) (z, zs) =
      stops_then (vanish (Dividing i) (GeneratorLeft i) (division o n (elements basis) p)) (generators_vanish k n cmp basis (suc i) generators)
      (stops_division (Dividing i) (GeneratorLeft i) p z) (stops_generators (suc i) generators zs)

  -- one pair
  abbrev PairZero : Raw → Raw → Type 0
  PairZero g h = (s : Raw) → pair o g h ≡ Ok s → Zero s

  pair-zero : (j l : ℕ) (g h : RawElement) → Held k n cmp (whole g) → Held k n cmp (whole h) → pair_vanishes k n cmp basis j (whole g) l (whole h) ≡ Ok tt → Zero (s_polynomial o g h)
  pair-zero j l g h a b e =
      let (s, d, e₁) = pair_bound (Pair j l) (limited_s_polynomial o g h) (λ s. vanish (Pair j l) (PairLeft j l) (division o n (elements basis) s)) e in
      subst Zero (pair_law F O g h a b s d).0 (divided (Pair j l) (PairLeft j l) s e₁)

  stops_pair : (j l : ℕ) (g h : Raw) → PairZero g h → Stops (pair_vanishes k n cmp basis j g l h)
  stops_pair j l g h z = at (pair o g h) z
    where
      at : (x : Outcome) → ((s : Raw) → x ≡ Ok s → Zero s) → Stops (in_work_lem (Pair j l) x >>= (λ s. vanish (Pair j l) (PairLeft j l) (division o n (elements basis) s)))
      at (Ok s) z = stops_division (Pair j l) (PairLeft j l) s (z s refl)
      at (Err e) z = inr (stopped (Pair j l) e, refl)

  -- a pair that is 0 at once
  zero-pair : (s : Raw) → ◌≡◌ {A = Outcome} (Ok []) (Ok s) → Zero s
  zero-pair s e = subst Zero (ok_injective e) (1, refl)

  -- the pairs of one element with later ones; 0 is no element, and its pairs are 0
  pairs_zero : (j : ℕ) (g : RawElement) (l : ℕ) (later : List Raw) → Held k n cmp (whole g) → Each (Held k n cmp) later
      → pairs_vanish k n cmp basis j (whole g) l later ≡ Ok tt → Each (λ h. Zero (s_polynomial o g h)) (elements later)
  pairs_zero j g l [] a as' e = tt
  pairs_zero j g l ([] ∷ later) a (b, bs) e =
      let (_, e₁) = both_done (pair_vanishes k n cmp basis j (whole g) l []) (pairs_vanish k n cmp basis j (whole g) (suc l) later) tt e in
      pairs_zero j g (suc l) later a bs e₁
  pairs_zero j g l ((t ∷ h) ∷ later) a (b, bs) e =
      let (d, e₁) = both_done (pair_vanishes k n cmp basis j (whole g) l (t ∷ h)) (pairs_vanish k n cmp basis j (whole g) (suc l) later) tt e in
      (pair-zero j l g (t, h) a b d, pairs_zero j g (suc l) later a bs e₁)

  stops_pairs : (j : ℕ) (g : Raw) (l : ℕ) (later : List Raw) → Each (PairZero g) later → Stops (pairs_vanish k n cmp basis j g l later)
  stops_pairs j g l [] z = inl refl
  stops_pairs j g l (h ∷ later) (z, zs) =
      stops_then (pair_vanishes k n cmp basis j g l h) (pairs_vanish k n cmp basis j g (suc l) later) (stops_pair j l g h z) (stops_pairs j g (suc l) later zs)

  -- every two
  pub all_pairs_zero : (j : ℕ) (some : List Raw) → Each (Held k n cmp) some → all_pairs_vanish k n cmp basis j some ≡ Ok tt → PairsVanish o (elements basis) (elements some)
  all_pairs_zero j [] as' e = tt
  all_pairs_zero j ([] ∷ some) (a, as') e =
      let (_, e₁) = both_done (pairs_vanish k n cmp basis j [] (suc j) some) (all_pairs_vanish k n cmp basis (suc j) some) tt e in
      all_pairs_zero (suc j) some as' e₁
  all_pairs_zero j ((t ∷ g) ∷ some) (a, as') e =
      let (d, e₁) = both_done (pairs_vanish k n cmp basis j (t ∷ g) (suc j) some) (all_pairs_vanish k n cmp basis (suc j) some) tt e in
      (pairs_zero j (t, g) (suc j) some a as' d, all_pairs_zero (suc j) some as' e₁)

  zero_pairs : (later : List Raw) → Each (PairZero []) later
  zero_pairs [] = tt
  zero_pairs (h ∷ later) = (zero-pair, zero_pairs later)

  -- from the S-polynomials to those within limits
  limited_pairs : (g : RawElement) (later : List Raw) → Held k n cmp (whole g) → Each (Held k n cmp) later → Each (λ h. Zero (s_polynomial o g h)) (elements later) → Each (PairZero (whole g)) later
  limited_pairs g [] a as' z = tt
  limited_pairs g ([] ∷ later) a (b, bs) z = (zero-pair, limited_pairs g later a bs z)
  limited_pairs g ((t ∷ h) ∷ later) a (b, bs) (z, zs) = ((λ s e. subst Zero (sym (pair_law F O g (t, h) a b s e).0) z), limited_pairs g later a bs zs)

  pub stops_all : (j : ℕ) (some : List Raw) → Each (Held k n cmp) some → PairsVanish o (elements basis) (elements some) → Stops (all_pairs_vanish k n cmp basis j some)
  stops_all j [] as' z = inl refl
  stops_all j ([] ∷ some) (a, as') z =
      stops_then (pairs_vanish k n cmp basis j [] (suc j) some) (all_pairs_vanish k n cmp basis (suc j) some)
      (stops_pairs j [] (suc j) some (zero_pairs some)) (stops_all (suc j) some as' z)
  stops_all j ((t ∷ g) ∷ some) (a, as') (z, zs) =
      stops_then (pairs_vanish k n cmp basis j (t ∷ g) (suc j) some) (all_pairs_vanish k n cmp basis (suc j) some)
      (stops_pairs j (t ∷ g) (suc j) some (limited_pairs (t, g) some a as' z)) (stops_all (suc j) some as' zs)
