-- The divisions of a finish, one at a time. Assumes nothing.
use Rattle.std.proofs.Common.{◌≡◌, ℕ, suc, ◌+◌, ◌<◌, ◌≤◌, Bool, true, false, not, eqb, List, [], ◌∷◌, length, get_or, drop, Ok, Err, Result, sym, refl, ap, ◌∙◌, arith}
use Rattle.std.proofs.lemmas.List.{drop_more, drop_all}
use Rattle.std.proofs.lemmas.Bool.{ne_eqb}
use Rattle.field.specs.Fields.{Arithmetic}
use Rattle.order.specs.Orders.{Compare}
use Rattle.ideal.specs.Rings.{Raw, ring}
use Rattle.polynomial.specs.Results.{◌>>=◌, ◌>>◌, check}
use Rattle.polynomial.specs.Views.{view}
use Rattle.polynomial.specs.declared.term.Term.{Term}
use Rattle.fault.specs.declared.fault.Work.{Work}
use Rattle.fault.specs.declared.fault.Work.TheVariants.{Generator as Dividing, Pair}
use Rattle.fault.specs.declared.fault.Fault.{Fault}
use Rattle.fault.specs.declared.fault.Fault.TheVariants.{GeneratorLeft, PairLeft}
use Rattle.division.specs.Elements.{elements}
use Rattle.division.specs.Limits.{Outcome, division, pair}
use Rattle.run.specs.Finishing.{is_zero, in_work_lem, vanish, generators_vanish, pair_vanishes, pairs_vanish, all_pairs_vanish}
use Rattle.calls.specs.Pairs.{left_over}

-- whether there is a term, by the code's test
pub zero_by_length : (ts us : List Term) (b : Bool) → ts ≡ us → b ≡ eqb (length ts) 0 → is_zero (view us) ≡ b
zero_by_length ts us b e h = at us (h ∙ ap (λ x. eqb (length x) 0) e)
  where
    at : (us : List Term) → b ≡ eqb (length us) 0 → is_zero (view us) ≡ b
    at [] h = sym h
    at (u ∷ us) h = sym (h ∙ ne_eqb (length (u ∷ us)) 0 (λ z. omega arith))

-- a division that comes to r, by whether r is 0
pub vanish_by : (work : Work) (left : Fault) (r : Raw) (x : Outcome) (b : Bool) → Ok r ≡ x → is_zero r ≡ b → vanish work left x ≡ check b left
vanish_by work left r x b e z = ap (vanish work left) (sym e) ∙ ap (λ b. check b left) z

not_not : (b : Bool) → not (not b) ≡ b
not_not true = refl
not_not false = refl

-- a pair whose S-polynomial is s, which leaves r
pub pair_by : (k : Arithmetic) (n : ℕ) (cmp : Compare) (basis : List Raw) (j : ℕ) (g : Raw) (l : ℕ) (h s r : Raw) (b : Bool)
    → Ok s ≡ pair (ring k n cmp) g h → Ok r ≡ division (ring k n cmp) n (elements basis) s → is_zero r ≡ b
    → pair_vanishes k n cmp basis j g l h ≡ left_over j l (Ok (not b))
pair_by k n cmp basis j g l h s r b formed outcome z =
    ap (λ (x : Outcome). in_work_lem (Pair j l) x >>= (λ s. vanish (Pair j l) (PairLeft j l) (division (ring k n cmp) n (elements basis) s))) (sym formed)
    ∙ vanish_by (Pair j l) (PairLeft j l) r (division (ring k n cmp) n (elements basis) s) b outcome z ∙ ap (λ b. check b (PairLeft j l)) (sym (not_not b))

-- the first step decides, or leaves the rest to decide
then_ok : {B : Type 0} (x : Result (Unit {0}) Fault) (y : Result B Fault) → x ≡ Ok tt → (x >> y) ≡ y
then_ok x y e = ap (λ (x : Result (Unit {0}) Fault). x >> y) e

then_err : (x y : Result (Unit {0}) Fault) (e : Fault) → x ≡ Err e → (x >> y) ≡ Err e
then_err x y e h = ap (λ (x : Result (Unit {0}) Fault). x >> y) h

next_number : (i : ℕ) → suc i ≡ i + 1
next_number i = omega arith

module _ (k : Arithmetic) (n : ℕ) (cmp : Compare) (basis : List Raw) where
  -- the generators from number i on
  module _ (generators : List Raw) (i : ℕ) where
    abbrev first : Result (Unit {0}) Fault
    first = vanish (Dividing i) (GeneratorLeft i) (division (ring k n cmp) n (elements basis) (get_or generators i []))

    generators_at : i < length generators → generators_vanish k n cmp basis i (drop i generators) ≡ (first >> generators_vanish k n cmp basis (i + 1) (drop (i + 1) generators))
    generators_at h = ap (generators_vanish k n cmp basis i) (drop_more generators i [] h)
        ∙ ap (λ j. first >> generators_vanish k n cmp basis j (drop (i + 1) generators)) (next_number i)

    pub generators_on : i < length generators → first ≡ Ok tt → generators_vanish k n cmp basis i (drop i generators) ≡ generators_vanish k n cmp basis (i + 1) (drop (i + 1) generators)
    generators_on h e = generators_at h ∙ then_ok first _ e

    pub generators_stop : i < length generators → (e : Fault) → first ≡ Err e → generators_vanish k n cmp basis i (drop i generators) ≡ Err e
    generators_stop h e d = generators_at h ∙ then_err first _ e d

    pub generators_end : length generators ≤ i → generators_vanish k n cmp basis i (drop i generators) ≡ Ok tt
    generators_end h = ap (generators_vanish k n cmp basis i) (drop_all i generators h)

  -- the pairs of g, which is number j, from number l on
  module _ (j : ℕ) (g : Raw) (l : ℕ) where
    abbrev one : Result (Unit {0}) Fault
    one = pair_vanishes k n cmp basis j g l (get_or basis l [])

    pairs_at : l < length basis → pairs_vanish k n cmp basis j g l (drop l basis) ≡ (one >> pairs_vanish k n cmp basis j g (l + 1) (drop (l + 1) basis))
    pairs_at h = ap (pairs_vanish k n cmp basis j g l) (drop_more basis l [] h) ∙ ap (λ i. one >> pairs_vanish k n cmp basis j g i (drop (l + 1) basis)) (next_number l)

    pub pairs_on : l < length basis → one ≡ Ok tt → pairs_vanish k n cmp basis j g l (drop l basis) ≡ pairs_vanish k n cmp basis j g (l + 1) (drop (l + 1) basis)
    pairs_on h e = pairs_at h ∙ then_ok one _ e

    pub pairs_stop : l < length basis → (e : Fault) → one ≡ Err e → pairs_vanish k n cmp basis j g l (drop l basis) ≡ Err e
    pairs_stop h e d = pairs_at h ∙ then_err one _ e d

    pub pairs_end : length basis ≤ l → pairs_vanish k n cmp basis j g l (drop l basis) ≡ Ok tt
    pairs_end h = ap (pairs_vanish k n cmp basis j g l) (drop_all l basis h)

  -- those from number l on of number j, and then all from number j + 1 on
  abbrev pub Left : ℕ → ℕ → Result (Unit {0}) Fault
  Left j l = pairs_vanish k n cmp basis j (get_or basis j []) l (drop l basis) >> all_pairs_vanish k n cmp basis (j + 1) (drop (j + 1) basis)

  pub pairs_begin : (j : ℕ) → j < length basis → all_pairs_vanish k n cmp basis j (drop j basis) ≡ Left j (j + 1)
  pairs_begin j h = ap (all_pairs_vanish k n cmp basis j) (drop_more basis j [] h)
      ∙ ap (λ i. pairs_vanish k n cmp basis j (get_or basis j []) i (drop (j + 1) basis) >> all_pairs_vanish k n cmp basis i (drop (j + 1) basis)) (next_number j)

  pub left_on : (j l : ℕ) → l < length basis → pair_vanishes k n cmp basis j (get_or basis j []) l (get_or basis l []) ≡ Ok tt → Left j l ≡ Left j (l + 1)
  left_on j l h e = ap (λ (x : Result (Unit {0}) Fault). x >> all_pairs_vanish k n cmp basis (j + 1) (drop (j + 1) basis)) (pairs_on j (get_or basis j []) l h e)

  pub left_stop : (j l : ℕ) → l < length basis → (e : Fault) → pair_vanishes k n cmp basis j (get_or basis j []) l (get_or basis l []) ≡ Err e → Left j l ≡ Err e
  left_stop j l h e d = then_err _ _ e (pairs_stop j (get_or basis j []) l h e d)

  pub left_end : (j l : ℕ) → length basis ≤ l → Left j l ≡ all_pairs_vanish k n cmp basis (j + 1) (drop (j + 1) basis)
  left_end j l h = then_ok _ _ (pairs_end j (get_or basis j []) l h)

  pub all_end : (j : ℕ) → length basis ≤ j → all_pairs_vanish k n cmp basis j (drop j basis) ≡ Ok tt
  all_end j h = ap (all_pairs_vanish k n cmp basis j) (drop_all j basis h)
