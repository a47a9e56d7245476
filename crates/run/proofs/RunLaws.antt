-- The laws of runs, and what a call promises. Assumes nothing.
use Rattle.std.proofs.Common.{◌≡◌, ℕ, suc, ◌*◌, ◌<◌, leb, ◌≢◌, List, [], ◌∷◌, ◌++◌, length, take, drop, Ok, Err, Result, sym, refl, ap, ◌∙◌, ap₂, subst₂, inl, inr, suc-mul, zero-mul, arith, length-append}
use lib.Seq.{take-append_seam, drop-append_seam}
use Rattle.field.specs.Fields.{Arithmetic, FieldLaws}
use Rattle.order.specs.Orders.{Compare, OrderLaws}
use Rattle.ideal.specs.Lists.{Each}
use Rattle.ideal.specs.Polynomials.{difference}
use Rattle.ideal.specs.Rings.{Raw, RawElement, ring, Polynomial}
use Rattle.ideal.specs.Dividing.{Leaves, Vanishing}
use Rattle.ideal.specs.Ideals.{Derived}
use Rattle.ideal.proofs.Verdicts as verdicts
use Rattle.polynomial.specs.Results.{◌>>=◌, ◌>>◌, check, because}
use Rattle.polynomial.specs.Tables.{read}
use Rattle.polynomial.proofs.Outcomes.{checked, bound, because_ok}
use Rattle.fault.specs.declared.fault.ArithmeticFault.{ArithmeticFault}
use Rattle.fault.specs.declared.fault.Place.TheVariants.{Question as Asked}
use Rattle.fault.specs.declared.fault.TableFault.TheVariants.{Flawed, NoRoom}
use Rattle.fault.specs.declared.fault.Work.TheVariants.{Question as Asking}
use Rattle.fault.specs.declared.fault.Fault.{Fault}
use Rattle.fault.specs.declared.fault.Fault.TheVariants.{State as NotNow, Table, Arithmetic as Limited}
use Rattle.combination.specs.Combinations.{stopped}
use Rattle.division.specs.Elements.{elements}
use Rattle.division.specs.Limits.{division}
use Rattle.division.proofs.Bounded.{err_ok, ok_injective}
use Rattle.division.proofs.Settling.{settles}
use Rattle.run.specs.declared.state.State.{State}
use Rattle.run.specs.declared.state.State.TheVariants.{Generators, Elements, Passed}
use Rattle.run.specs.declared.state.CallKind.TheVariants.{Finish as FinishKind, Question as QuestionKind}
use Rattle.run.specs.Calls.{flat, written, finish_call, question_call, changes, tells, hear}
use Rattle.run.specs.Finishing.{in_work_lem, generators_vanish, all_pairs_vanish}
use Rattle.run.specs.Hears.{CallLaw, RunLaw}
use Rattle.run.specs.Models.{Model, fresh, Call, Question, Done, Told, Refused, entered}
use Rattle.run.specs.Runs.{from, model_of, FinishAt, QuestionAt, RemainderAt}
use Rattle.run.specs.Standing.{Follows, Standing}
use Rattle.run.proofs.Finishing.{Stops, stops_generators, stops_all}
use Rattle.run.proofs.Holds.{stated, basis-held, derived, vanishing-complete, finish_is, standing, standing_hear, question_entered, table_read}
use Rattle.run.proofs.Reading.{read_held}

-- a remainder as it is shown
module _ (n : ℕ) where
  abbrev pub Sized : Raw → Type 0
  Sized = Each (λ t. length t.1 ≡ n)

  pub flat-length : (p : Raw) → Sized p → length (flat p) ≡ length p * suc n
  flat-length [] s = sym (zero-mul (suc n))
  flat-length (t ∷ p) (h, s) =
      let a = length-append t.1 (flat p) in
      let b = flat-length p s in
      let c = suc-mul (length p) (suc n) in
      omega arith

  flat_injective : (p q : Raw) → Sized p → Sized q → flat p ≡ flat q → p ≡ q
  flat_injective [] [] a b e = refl
  flat_injective [] (t ∷ q) a b e = let z : ◌≡◌ {A = ℕ} 0 1 = cc in absurd (omega arith)
  flat_injective (t ∷ p) [] a b e = let z : ◌≡◌ {A = ℕ} 0 1 = cc in absurd (omega arith)
  flat_injective (t ∷ p) (u ∷ q) (a, as') (b, bs) e =
      let c : t.0 ≡ u.0 = cc in
      let rest : t.1 ++ flat p ≡ u.1 ++ flat q = cc in
      let same : length t.1 ≡ length u.1 = a ∙ sym b in
      let m : t.1 ≡ u.1 = sym (take-append_seam t.1 (flat p)) ∙ ap₂ take same rest ∙ take-append_seam u.1 (flat q) in
      let later : flat p ≡ flat q = sym (drop-append_seam t.1 (flat p)) ∙ ap₂ drop same rest ∙ drop-append_seam u.1 (flat q) in
      let tail = flat_injective p q as' bs later in
      λ i. (c i, m i) ∷ tail i

pub sized : (k : Arithmetic) (n : ℕ) (p : Raw) → Each (λ t. (t.0 < k.size) × (length t.1 ≡ n)) p → Sized n p
sized k n [] h = tt
sized k n (t ∷ p) ((_, a), h) = (a, sized k n p h)

no_term : (q : Raw) → length q ≡ 0 → q ≡ []
no_term [] e = refl
no_term (t ∷ q) e = absurd (omega arith)

-- what an answer says of the outcome behind it
done_is : (m : Model) (x : Result Model Fault) → (changes m x).0 ≡ Done → (m' : Model) × (x ≡ Ok m')
done_is m (Ok m') e = (m', refl)
done_is m (Err f) e = let z : ◌≡◌ {A = ℕ} 0 1 = cc in absurd (omega arith)

told_is : (m : Model) (result : List ℕ) (x : Result Raw Fault) (number : ℕ) (after : List ℕ) → (tells m result x).0 ≡ Told number after
    → (q : Raw) × (x ≡ Ok q) × (number ≡ length q) × (after ≡ written q result)
told_is m result (Ok q) number after e = (q, refl, (let z : number ≡ length q = cc in z), (let z : after ≡ written q result = cc in z))
told_is m result (Err f) number after e = let z : ◌≡◌ {A = ℕ} 0 1 = cc in absurd (omega arith)

-- where all that is asked is done or stopped by a limit, only the state and a limit keep a finish from being done
goes : (m m' : Model) (s : State) (x y : Result (Unit {0}) Fault) → Stops x → Stops y
    → let a = (changes m (entered s FinishKind >>= (λ _. x >> (y >> Ok m')))).0 in a ≢ Refused NotNow → ((limit : ArithmeticFault) → a ≢ Refused (Limited limit)) → a ≡ Done
goes m m' Generators x y p q now free = absurd (now refl)
goes m m' Passed x y p q now free = absurd (now refl)
goes m m' Elements (Ok u) (Ok v) p q now free = refl
goes m m' Elements (Ok u) (Err e) p (inl h) now free = err_ok h
goes m m' Elements (Ok u) (Err e) p (inr (l, h)) now free = absurd (free l cc)
goes m m' Elements (Err e) y (inl h) q now free = err_ok h
goes m m' Elements (Err e) y (inr (l, h)) q now free = absurd (free l cc)

module _ {k : Arithmetic} (F : FieldLaws k) {cmp : Compare} (O : (n : ℕ) → OrderLaws n cmp) where
  pub finish_law : (past : List Call) → FinishAt k cmp past
  finish_law past now free =
      let m = model_of k cmp past in
      let n = m.variables in
      let s = standing F O past in
      let (there, back) = vanishing-complete F O m s in (
        (λ e. let (m', done) = done_is m (finish_call k cmp m) e in there (finish_is F O m m' s done).0),
        (λ complete. let (a, b) = back complete in
            goes m (stated m Passed) m.state
            (generators_vanish k n cmp m.basis 0 m.generators) (all_pairs_vanish k n cmp m.basis 0 m.basis)
            (stops_generators F (O n) m.basis 0 m.generators a) (stops_all F (O n) m.basis 0 m.basis (basis-held F O m s) b) now free),
      )

  -- what is known where a question is answered
  record Answered (m : Model) (table result : List ℕ) (number : ℕ) (after : List ℕ) : Type 0 where
    vanishing : Vanishing (ring k m.variables cmp) m.generators (elements m.basis)
    f : Raw
    is_asked : read k m.variables cmp 512 table ≡ Ok f
    good : Polynomial k m.variables cmp f
    q : Raw
    leaves : Leaves (ring k m.variables cmp) (elements m.basis) f q
    long : Sized m.variables q
    number_is : number ≡ length q
    after_is : after ≡ written q result

  answered : (m : Model) → Standing k cmp m → (table result : List ℕ) (number : ℕ) (after : List ℕ)
      → (hear k cmp m (Question table result)).0 ≡ Told number after → Answered m table result number after
  answered m s table result number after e =
      let n = m.variables in
      let o = ring k n cmp in
      let room : Raw → Result (Unit {0}) Fault = λ r. check (leb (length r * suc n) (length result)) (Table NoRoom) in
      let reading : Result Raw Fault = because Table (because (Flawed Asked) (read k n cmp 512 table)) in
      let dividing : Raw → Result Raw Fault = λ f. in_work_lem Asking (division o n (elements m.basis) f) in
      let (q, e₁, number_is, after_is) = told_is m result (question_call k cmp m table result) number after e in
      let (state, e₂, e₃) = bound (entered m.state QuestionKind) (λ _. reading >>= (λ f. dividing f >>= (λ r. room r >> Ok r))) q e₁ in
      let (f, e₄, e₅) = bound reading (λ f. dividing f >>= (λ r. room r >> Ok r)) q e₃ in
      let (r, e₆, e₇) = bound (dividing f) (λ r. room r >> Ok r) q e₅ in
      let (_, e₈) = checked (leb (length r * suc n) (length result)) (Table NoRoom) (Ok r) q e₇ in
      let is_asked = table_read Asked (read k n cmp 512 table) f e₄ in
      let held = (read_held k n cmp (O n) 512 table f is_asked).0 in
      let divided : division o n (elements m.basis) f ≡ Ok q = because_ok (stopped Asking) (division o n (elements m.basis) f) q
      (sym (because_ok Limited (because (stopped Asking) (division o n (elements m.basis) f)) q (sym (e₆ ∙ e₈)))) in
      let (leaves, held_q) = (settles F (O n) (elements m.basis) (derived F O m s).elements_polynomials f held).remainder q divided in
      record {
        vanishing = (vanishing-complete F O m s).1 (s.complete (question_entered m.state state e₂));
        f = f;
        is_asked = is_asked;
        good = held.0;
        q = q;
        leaves = leaves;
        long = sized k n q held_q.0.0;
        number_is = number_is;
        after_is = after_is;
      }

  pub question_law : (past : List Call) (table result : List ℕ) → QuestionAt k cmp past table result
  question_law past table result number after e =
      let m = model_of k cmp past in
      let s = standing F O past in
      let a = answered m s table result number after e in
      let (there, back) = verdicts.membership_decided F (O m.variables) m.generators (elements m.basis) (derived F O m s) a.vanishing a.f a.q a.good a.leaves in
      (a.f, a.is_asked, ((λ z. back (no_term a.q (sym a.number_is ∙ z))), (λ w. a.number_is ∙ ap length (there w))))

  shown_is : (m : Model) (table result : List ℕ) (number : ℕ) (after : List ℕ) (a : Answered m table result number after)
      → ◌≡◌ {A = ℕ × List ℕ} (number, take (number * suc m.variables) after) (length a.q, flat a.q)
  shown_is m table result number after a =
      let n = m.variables in
      let long : number * suc n ≡ length (flat a.q) = ap (λ x. x * suc n) a.number_is ∙ sym (flat-length n a.q a.long) in
      let same : take (number * suc n) after ≡ flat a.q = ap₂ take long a.after_is ∙ take-append_seam (flat a.q) (drop (length (flat a.q)) result) in
      λ i. (a.number_is i, same i)

  -- what is known of the second question, under the variables and generators of the first
  abbrev Second : List RawElement → Raw → Raw → ℕ → List Raw → Type 0
  Second others f q n generators = Derived k n cmp generators others × Vanishing (ring k n cmp) generators others × Polynomial k n cmp f × Leaves (ring k n cmp) others f q × Sized n q

  pub remainder_law : (past past' : List Call) (table result table' result' : List ℕ) → RemainderAt k cmp past table result past' table' result'
  remainder_law past past' table result table' result' number number' after after' e e' same same_generators f f' is is' =
      let m = model_of k cmp past in
      let m' = model_of k cmp past' in
      let n = m.variables in
      let s = standing F O past in
      let s' = standing F O past' in
      let a = answered m s table result number after e in
      let a' = answered m' s' table' result' number' after' e' in
      let In : Raw → Raw → Type 0 = λ f h. Follows k cmp m (difference (ring k n cmp) f h) in
      let at : a.f ≡ f = ok_injective (sym a.is_asked ∙ is) in
      let at' : a'.f ≡ f' = ok_injective (sym a'.is_asked ∙ is') in
      let x = shown_is m table result number after a in
      let x' = shown_is m' table' result' number' after' a' in
      let (derived', vanishing, good, leaves, long) = subst₂ (Second (elements m'.basis) a'.f a'.q) (sym same) (sym same_generators)
      (derived F O m' s', a'.vanishing, a'.good, a'.leaves, a'.long) in
      let (there, back) = verdicts.one_remainder_lem F (O n) m.generators (elements m.basis) (elements m'.basis) (derived F O m s) a.vanishing derived' vanishing
      a.f a'.f a.q a'.q a.good good a.leaves leaves in (
        (λ y. subst₂ In at at' (there (flat_injective n a.q a'.q a.long long (ap (λ v. v.1) (sym x ∙ y ∙ x'))))),
        (λ w. x ∙ ap (λ v. (length v, flat v)) (back (subst₂ In (sym at) (sym at') w)) ∙ sym x'),
      )

  pub laws : RunLaw k cmp
  laws run = record {
    finishes = λ past made. finish_law past;
    questions = λ past table result made. question_law past table result;
    remainders = λ past past' table result table' result' made made'. remainder_law past past' table result table' result';
  }

  -- one call more
  from_more : (m : Model) (calls : List Call) (c : Call) → from k cmp m (calls ++ (c ∷ [])) ≡ (hear k cmp (from k cmp m calls) c).1
  from_more m [] c = refl
  from_more m (d ∷ calls) c = from_more (hear k cmp m d).1 calls c

  pub call_law_lem : CallLaw k cmp
  call_law_lem m c stands = record {
    heard = refl;
    stands = standing_hear F O m c stands;
    runs = λ past e. record {
      leads = from_more (fresh 1) past c ∙ ap (λ x. (hear k cmp x c).1) e;
      answers = ap (λ x. (hear k cmp x c).0) e;
      laws = laws (past ++ (c ∷ []));
    };
  }
