-- What is held stands, whatever call is made. Assumes nothing.
use Rattle.std.proofs.Common.{◌≡◌, ℕ, ◌≤◌, true, false, ◌&&◌, ltb, leb, ◌↔◌, List, [], ◌∷◌, ◌++◌, length, Ok, Err, Result, sym, refl, subst, arith, length-append}
use Rattle.std.proofs.lemmas.Bool.{leb-true, ltb-true, and_parts}
use Rattle.field.specs.Fields.{Arithmetic, FieldLaws}
use Rattle.order.specs.Orders.{Compare, OrderLaws}
use Rattle.ideal.specs.Lists.{Each}
use Rattle.ideal.specs.Rings.{Raw, ring, Polynomial}
use Rattle.ideal.specs.Dividing.{Vanishing}
use Rattle.ideal.specs.Ideals.{Derived}
use Rattle.ideal.proofs.Lists.{each_push}
use Rattle.ideal.proofs.Verdicts as verdicts
use Rattle.polynomial.specs.Results.{◌>>=◌, ◌>>◌, check, because}
use Rattle.polynomial.specs.Tables.{read}
use Rattle.polynomial.specs.declared.flaw.Flaw.{Flaw}
use Rattle.polynomial.proofs.Outcomes.{checked, bound, because_ok}
use Rattle.fault.specs.declared.fault.Place.{Place}
use Rattle.fault.specs.declared.fault.Place.TheVariants.{Generator}
use Rattle.fault.specs.declared.fault.TableFault.TheVariants.{Flawed}
use Rattle.fault.specs.declared.fault.Fault.{Fault}
use Rattle.fault.specs.declared.fault.Fault.TheVariants.{Variables, Full, Table}
use Rattle.combination.specs.Checks.{has_term, check_element}
use Rattle.combination.proofs.Verdicts as combination
use Rattle.division.specs.Bounds.{Held}
use Rattle.division.specs.Elements.{elements}
use Rattle.division.proofs.Bounded.{err_ok, ok_injective}
use Rattle.division.proofs.Turning.{each-element}
use Rattle.run.specs.declared.state.State.{State}
use Rattle.run.specs.declared.state.State.TheVariants.{Generators, Elements, Passed}
use Rattle.run.specs.declared.state.CallKind.TheVariants.{Rule as RuleKind, Close as CloseKind, Offer as OfferKind, Finish as FinishKind, Question as QuestionKind}
use Rattle.run.specs.Calls.{open_call, rule_call, close_call, offer_call, finish_call, question_call, changes, tells, hear}
use Rattle.run.specs.Finishing.{is_zero, generators_vanish, all_pairs_vanish}
use Rattle.run.specs.Models.{Model, fresh, Call, Open, Rule, Close, Offer, Finish, Question, entered}
use Rattle.run.specs.Hears.{StandingLaw}
use Rattle.run.specs.Runs.{from}
use Rattle.run.specs.Standing.{Follows, Complete, Kept, Standing}
use Rattle.run.proofs.Finishing.{both_done, generators-zero, all_pairs_zero}
use Rattle.run.proofs.Reading.{read_held}

-- the state that allows a call, and the one after it
rule_entered : (s t : State) → entered s RuleKind ≡ Ok t → (s ≡ Generators) × (t ≡ Generators)
rule_entered Generators t e = (refl, sym (ok_injective e))
rule_entered Elements t e = err_ok e
rule_entered Passed t e = err_ok e

close_entered : (s t : State) → entered s CloseKind ≡ Ok t → t ≡ Elements
close_entered Generators t e = sym (ok_injective e)
close_entered Elements t e = err_ok e
close_entered Passed t e = err_ok e

offer_entered : (s t : State) → entered s OfferKind ≡ Ok t → t ≡ Elements
offer_entered Generators t e = err_ok e
offer_entered Elements t e = sym (ok_injective e)
offer_entered Passed t e = err_ok e

pub question_entered : (s t : State) → entered s QuestionKind ≡ Ok t → s ≡ Passed
question_entered Generators t e = err_ok e
question_entered Elements t e = err_ok e
question_entered Passed t e = refl

-- the states differ
elements_not_generators : {X : Type 0} (s : State) → s ≡ Elements → s ≡ Generators → X
elements_not_generators s a b = let z : ◌≡◌ {A = ℕ} 0 1 = cc in absurd (omega arith)

elements_not_passed : {X : Type 0} (s : State) → s ≡ Elements → s ≡ Passed → X
elements_not_passed s a b = let z : ◌≡◌ {A = ℕ} 0 1 = cc in absurd (omega arith)

generators_not_passed : {X : Type 0} (s : State) → s ≡ Generators → s ≡ Passed → X
generators_not_passed s a b = let z : ◌≡◌ {A = ℕ} 0 1 = cc in absurd (omega arith)

term_nonzero : (p : Raw) → has_term p ≡ true → is_zero p ≡ false
term_nonzero [] e = let z : ◌≡◌ {A = ℕ} 0 1 = cc in absurd (omega arith)
term_nonzero (t ∷ p) e = refl

each_map : {A : Type 0} (X Y : A → Type 0) → ((x : A) → X x → Y x) → (xs : List A) → Each X xs → Each Y xs
each_map X Y h [] e = tt
each_map X Y h (x ∷ xs) (p, e) = (h x p, each_map X Y h xs e)

longer : {A : Type 0} (xs : List A) (x : A) → ltb (length xs) 32 ≡ true → length (xs ++ (x ∷ [])) ≤ 32
longer xs x h = let a = length-append xs (x ∷ []) in let b = ltb-true (length xs) 32 h in omega arith

-- a table that is read, wherever it stands
pub table_read : (place : Place) (x : Result Raw Flaw) (p : Raw) → because Table (because (Flawed place) x) ≡ Ok p → x ≡ Ok p
table_read place x p e = because_ok (Flawed place) x p (sym (because_ok Table (because (Flawed place) x) p (sym e)))

-- the same, in another state
abbrev pub stated : Model → State → Model
stated m state = record { variables = m.variables; generators = m.generators; basis = m.basis; state = state }

module _ {k : Arithmetic} (F : FieldLaws k) {cmp : Compare} (O : (n : ℕ) → OrderLaws n cmp) where
  pub basis-held : (m : Model) → Standing k cmp m → Each (Held k m.variables cmp) m.basis
  basis-held m s = each_map (Kept k cmp m) (Held k m.variables cmp) (λ p h. h.0) m.basis s.elements_kept

  pub kept-polynomials : (m : Model) (ps : List Raw) → Each (Kept k cmp m) ps → Each (Polynomial k m.variables cmp) ps
  kept-polynomials m = each_map (Kept k cmp m) (Polynomial k m.variables cmp) (λ p h. h.0.0)

  pub derived : (m : Model) → Standing k cmp m → Derived k m.variables cmp m.generators (elements m.basis)
  derived m s = record {
    generators_polynomials = kept-polynomials m m.generators s.generators_kept;
    elements_polynomials = each-element (Polynomial k m.variables cmp) m.basis (kept-polynomials m m.basis s.elements_kept);
    elements_members = each-element (Follows k cmp m) m.basis s.elements_follow;
  }

  -- every generator and every S-polynomial divides to 0 exactly if the basis elements are complete
  pub vanishing-complete : (m : Model) → Standing k cmp m → Vanishing (ring k m.variables cmp) m.generators (elements m.basis) ↔ Complete k cmp m
  vanishing-complete m s = verdicts.completeness_both_ways_lem F (O m.variables) m.generators (elements m.basis) (derived m s)

  -- a finish that is done
  pub finish_is : (m m' : Model) → Standing k cmp m → finish_call k cmp m ≡ Ok m'
      → Vanishing (ring k m.variables cmp) m.generators (elements m.basis) × (stated m Passed ≡ m')
  finish_is m m' s e =
      let n = m.variables in
      let generators = generators_vanish k n cmp m.basis 0 m.generators in
      let pairs = all_pairs_vanish k n cmp m.basis 0 m.basis in
      let (_, _, e₁) = bound (entered m.state FinishKind) (λ _. generators >> (pairs >> Ok (stated m Passed))) m' e in
      let (a, e₂) = both_done generators (pairs >> Ok (stated m Passed)) m' e₁ in
      let (b, e₃) = both_done pairs (Ok (stated m Passed)) m' e₂ in
      ((generators-zero F (O n) m.basis 0 m.generators a, all_pairs_zero F (O n) m.basis 0 m.basis (basis-held m s) b), ok_injective e₃)

  fresh-stands : (n : ℕ) → 1 ≤ n → n ≤ 24 → Standing k cmp (fresh n)
  fresh-stands n a b = record {
    some_variable = a;
    few_variables = b;
    few_generators = omega arith;
    few_elements = omega arith;
    generators_kept = tt;
    elements_kept = tt;
    elements_nonzero = tt;
    elements_follow = tt;
    none_early = λ e. refl;
    complete = λ e. generators_not_passed Generators refl e;
  }

  -- what a checker never opened holds
  pub standing_fresh : Standing k cmp (fresh 1)
  standing_fresh = fresh-stands 1 (omega arith) (omega arith)

  standing_open : (n : ℕ) (m' : Model) → open_call n ≡ Ok m' → Standing k cmp m'
  standing_open n m' e =
      let (h, e₁) = checked (leb 1 n && leb n 24) Variables (Ok (fresh n)) m' e in
      let (a, b) = and_parts (leb 1 n) (leb n 24) h in
      subst (Standing k cmp) (ok_injective e₁) (fresh-stands n (leb-true 1 n a) (leb-true n 24 b))

  standing_rule : (m m' : Model) (table : List ℕ) → Standing k cmp m → rule_call k cmp m table ≡ Ok m' → Standing k cmp m'
  standing_rule m m' table s e =
      let n = m.variables in
      let place = Generator (length m.generators) in
      let reading : Result Raw Fault = because Table (because (Flawed place) (read k n cmp 32 table)) in
      let after : State → Raw → Model = λ state p. record { variables = m.variables; generators = m.generators ++ (p ∷ []); basis = m.basis; state = state } in
      let (state, e₁, e₂) = bound (entered m.state RuleKind) (λ state. check (ltb (length m.generators) 32) Full >> (reading >>= (λ p. Ok (after state p)))) m' e in
      let (few, e₃) = checked (ltb (length m.generators) 32) Full (reading >>= (λ p. Ok (after state p))) m' e₂ in
      let (p, e₄, e₅) = bound reading (λ p. Ok (after state p)) m' e₃ in
      let kept : Kept k cmp m p = read_held k n cmp (O n) 32 table p (table_read place (read k n cmp 32 table) p e₄) in
      let (before, is) = rule_entered m.state state e₁ in
      let none : m.basis ≡ [] = s.none_early before in
      let follow : Each (Follows k cmp (after state p)) m.basis = subst (Each (Follows k cmp (after state p))) (sym none) tt in
      subst (Standing k cmp) {x = after state p} (ok_injective e₅) (record {
        some_variable = s.some_variable;
        few_variables = s.few_variables;
        few_generators = longer m.generators p few;
        few_elements = s.few_elements;
        generators_kept = each_push (Kept k cmp m) m.generators p s.generators_kept kept;
        elements_kept = s.elements_kept;
        elements_nonzero = s.elements_nonzero;
        elements_follow = follow;
        none_early = λ h. none;
        complete = λ h. generators_not_passed state is h;
      })

  standing_stated : (m : Model) (state : State) → Standing k cmp m → (state ≡ Generators → m.basis ≡ []) → (state ≡ Passed → Complete k cmp m) → Standing k cmp (stated m state)
  standing_stated m state s early complete = record {
    some_variable = s.some_variable;
    few_variables = s.few_variables;
    few_generators = s.few_generators;
    few_elements = s.few_elements;
    generators_kept = s.generators_kept;
    elements_kept = s.elements_kept;
    elements_nonzero = s.elements_nonzero;
    elements_follow = s.elements_follow;
    none_early = early;
    complete = complete;
  }

  standing_close : (m m' : Model) → Standing k cmp m → close_call m ≡ Ok m' → Standing k cmp m'
  standing_close m m' s e =
      let (state, e₁, e₂) = bound (entered m.state CloseKind) (λ state. Ok (stated m state)) m' e in
      let is = close_entered m.state state e₁ in
      subst (Standing k cmp) (ok_injective e₂) (standing_stated m state s (elements_not_generators state is) (elements_not_passed state is))

  standing_offer : (m m' : Model) (table cofactor_table counts : List ℕ) → Standing k cmp m → offer_call k cmp m table cofactor_table counts ≡ Ok m' → Standing k cmp m'
  standing_offer m m' table cofactor_table counts s e =
      let n = m.variables in
      let i = length m.basis in
      let checking : Result Raw Fault = check_element k n cmp m.generators i table cofactor_table counts in
      let after : State → Raw → Model = λ state p. record { variables = m.variables; generators = m.generators; basis = m.basis ++ (p ∷ []); state = state } in
      let (state, e₁, e₂) = bound (entered m.state OfferKind) (λ state. check (ltb i 32) Full >> (checking >>= (λ p. Ok (after state p)))) m' e in
      let (few, e₃) = checked (ltb i 32) Full (checking >>= (λ p. Ok (after state p))) m' e₂ in
      let (p, e₄, e₅) = bound checking (λ p. Ok (after state p)) m' e₃ in
      let (some, cofactors, parts, sum) = combination.passed-element k F n cmp (O n) m.generators (kept-polynomials m m.generators s.generators_kept) i table cofactor_table counts p e₄ in
      let kept : Kept k cmp m p = read_held k n cmp (O n) 32 table p parts.element in
      let follows : Follows k cmp m p = (cofactors, parts.polynomials.1, parts.counted, sum) in
      let is = offer_entered m.state state e₁ in
      subst (Standing k cmp) {x = after state p} (ok_injective e₅) (record {
        some_variable = s.some_variable;
        few_variables = s.few_variables;
        few_generators = s.few_generators;
        few_elements = longer m.basis p few;
        generators_kept = s.generators_kept;
        elements_kept = each_push (Kept k cmp m) m.basis p s.elements_kept kept;
        elements_nonzero = each_push (λ g. is_zero g ≡ false) m.basis p s.elements_nonzero (term_nonzero p some);
        elements_follow = each_push (Follows k cmp m) m.basis p s.elements_follow follows;
        none_early = λ h. elements_not_generators state is h;
        complete = λ h. elements_not_passed state is h;
      })

  standing_finish : (m m' : Model) → Standing k cmp m → finish_call k cmp m ≡ Ok m' → Standing k cmp m'
  standing_finish m m' s e =
      let (vanishing, is) = finish_is m m' s e in
      subst (Standing k cmp) is (standing_stated m Passed s (λ h. generators_not_passed Passed h refl) (λ h. (vanishing-complete m s).0 vanishing))

  changed : (m : Model) → Standing k cmp m → (x : Result Model Fault) → ((m' : Model) → x ≡ Ok m' → Standing k cmp m') → Standing k cmp (changes m x).1
  changed m s (Ok m') h = h m' refl
  changed m s (Err e) h = s

  told : (m : Model) → Standing k cmp m → (result : List ℕ) (x : Result Raw Fault) → Standing k cmp (tells m result x).1
  told m s result (Ok q) = s
  told m s result (Err e) = s

  pub standing_hear : (m : Model) (c : Call) → Standing k cmp m → Standing k cmp (hear k cmp m c).1
  standing_hear m (Open n) s = changed m s (open_call n) (λ m' e. standing_open n m' e)
  standing_hear m (Rule table) s = changed m s (rule_call k cmp m table) (λ m' e. standing_rule m m' table s e)
  standing_hear m Close s = changed m s (close_call m) (λ m' e. standing_close m m' s e)
  standing_hear m (Offer table cofactor_table counts) s = changed m s (offer_call k cmp m table cofactor_table counts) (λ m' e. standing_offer m m' table cofactor_table counts s e)
  standing_hear m Finish s = changed m s (finish_call k cmp m) (λ m' e. standing_finish m m' s e)
  standing_hear m (Question table result) s = told m s result (question_call k cmp m table result)

  standing_from : (m : Model) (calls : List Call) → Standing k cmp m → Standing k cmp (from k cmp m calls)
  standing_from m [] s = s
  standing_from m (c ∷ calls) s = standing_from (hear k cmp m c).1 calls (standing_hear m c s)

  pub standing : StandingLaw k cmp
  standing run = standing_from (fresh 1) run standing_fresh
