-- One turn of a division, as the code takes it. Assumes nothing.
use Rattle.std.proofs.Common.{◌≡◌, ℕ, ◌+◌, ◌<◌, ◌≤◌, true, cond, ltb, List, [], ◌∷◌, ◌++◌, length, get_or, OnErr, Some, None, Ok, Err, Option, Result, sym, refl, ap, ◌∙◌, ap₂, arith, MatchOption}
use Rattle.std.proofs.lemmas.Bool.{lt-ltb, and_from}
use Rattle.field.specs.Fields.{Arithmetic, FieldLaws}
use Rattle.order.specs.Monomials.{small}
use Rattle.order.specs.Orders.{Compare, OrderLaws}
use Rattle.ideal.specs.Lists.{Each}
use Rattle.ideal.specs.Polynomials.{Operations, Term as Written, whole}
use Rattle.ideal.specs.Rings.{Raw, RawElement, ring, Polynomial}
use Rattle.ideal.proofs.Division.{found_some}
use Rattle.ideal.proofs.Lists.{each_at}
use Rattle.ideal.proofs.Steps as steps
use Rattle.polynomial.specs.Limits.{all_small}
use Rattle.polynomial.specs.Results.{answered, mapped_ok}
use Rattle.polynomial.specs.Views.{exponents_of, term_of, view}
use Rattle.polynomial.specs.declared.flaw.Limit.{Limit}
use Rattle.polynomial.specs.declared.term.Term.{Term}
use Rattle.polynomial.proofs.Comparing.{exponents_small}
use Rattle.polynomial.proofs.Viewing.{view-length, view-append}
use Rattle.division.specs.Elements.{elements}
use Rattle.division.specs.Divisors.{First}
use Rattle.division.specs.Limits.{cancelling}
use Rattle.division.specs.Turns.{cancelled, turned_by, turned}
use Rattle.division.proofs.Bounded.{ok_injective, step-short}

-- what terms show: exponents up to 255
pub view-small : (ts : List Term) → all_small (view ts) ≡ true
view-small [] = refl
view-small (t ∷ ts) = and_from (small (exponents_of t.monomial)) (all_small (view ts)) (exponents_small t.monomial) (view-small ts)

pub each-element : (P : Raw → Type 0) (ps : List Raw) → Each P ps → Each (λ g. P (whole g)) (elements ps)
each-element P [] e = tt
each-element P ([] ∷ ps) (x, e) = each-element P ps e
each-element P ((t ∷ p) ∷ ps) (x, e) = (x, each-element P ps e)

-- what is left where the leading term x is taken away
pub taken : (r : Option Term) (before after : List Term) (x : Term) → 0 < length before → x ≡ get_or before 0 x
    → MatchOption r ((before ≡ []) × (after ≡ [])) (λ t. before ≡ t ∷ after) → before ≡ x ∷ after
taken None before after x some first (e, _) = let l = ap length e in absurd (omega arith)
taken (Some t) before after x some first e = e ∙ ap (λ t. t ∷ after) (sym (first ∙ ap (λ b. get_or b 0 x) e))

pub pushed : (before after : List Term) (x : Term) → length before < 512 → after ≡ cond (ltb (length before) 512) (before ++ (x ∷ [])) before → after ≡ before ++ (x ∷ [])
pushed before after x few e = e ∙ ap (λ b. cond b (before ++ (x ∷ [])) before) (lt-ltb (length before) 512 few)

answered_mapped : {A B : Type 0} (f : A → B) (r : Result (Unit {0}) Limit) (x : A) → answered r (f x) ≡ mapped_ok f (answered r x)
answered_mapped f (Ok u) x = refl
answered_mapped f (Err e) x = refl

module _ (k : Arithmetic) (n : ℕ) (cmp : Compare) (ps : List Raw) where
  abbrev o : Operations ℕ (List ℕ)
  o = ring k n cmp

  -- x is the leading term
  module _ (rest work tail : List Term) (x : Term) (is : work ≡ x ∷ tail) where
    pub turned-kept : First ps (exponents_of x.monomial) None → (rest' : List Term) → rest' ≡ rest ++ (x ∷ [])
        → Ok (view rest', view tail) ≡ turned o (elements ps) (view rest) (view work)
    turned-kept none rest' e =
        ap (λ (r : Raw). Ok (r, view tail)) (ap view e ∙ view-append rest (x ∷ []))
        ∙ ap (λ z. turned_by o z (view rest) (term_of x) (view tail)) (sym (none k n cmp))
        ∙ ap (λ (w : List Term). turned o (elements ps) (view rest) (view w)) (sym is)

    -- g is used, which is p
    module _ (g : RawElement) (s : List ℕ) (found : First ps (exponents_of x.monomial) (Some (g, s))) (p : Raw) (p_is : p ≡ whole g) where
      pub turned-used : (r : Result (Unit {0}) Limit) (rest' : List Term) (work' : Raw) → rest' ≡ rest
          → answered r work' ≡ cancelled o (length rest) (term_of x) s p (view work)
          → answered r (view rest', work') ≡ turned o (elements ps) (view rest) (view work)
      turned-used r rest' work' same e =
          ap (λ (q : List Term). answered r (view q, work')) same
          ∙ answered_mapped (λ (h : Raw). (view rest, h)) r work'
          ∙ ap (mapped_ok (λ (h : Raw). (view rest, h)))
          (e ∙ ap₂ (λ b q. cancelled o b (term_of x) s q (view work)) (sym (view-length rest)) p_is
          ∙ ap (λ (w : List Term). cancelled o (length (view rest)) (term_of x) s (whole g) (view w)) is)
          ∙ ap (λ z. turned_by o z (view rest) (term_of x) (view tail)) (sym (found k n cmp))
          ∙ ap (λ (w : List Term). turned o (elements ps) (view rest) (view w)) (sym is)

-- the quotient has as many exponents as there are variables
pub quotient_sized : {k : Arithmetic} (F : FieldLaws k) {n : ℕ} {cmp : Compare} (O : OrderLaws n cmp) (ps : List Raw) → Each (Polynomial k n cmp) ps
    → (t : Written ℕ (List ℕ)) (f : Raw) → Polynomial k n cmp (t ∷ f) → (g : RawElement) (s : List ℕ) → First ps t.1 (Some (g, s)) → length s ≡ n
quotient_sized {k = k} F {n = n} {cmp = cmp} O ps oks t f ok g s found =
    let (among, q) = found_some (ring k n cmp) (elements ps) t.1 g s (found k n cmp) in
    steps.quotient-length F O t f g ok (each_at (λ g. Polynomial k n cmp (whole g)) (elements ps) (each-element (Polynomial k n cmp) ps oks) g among) s q

-- there is room after a leading term is cancelled, or refused to be
pub cancel-fits : (o : Operations ℕ (List ℕ)) (b : ℕ) (t : Written ℕ (List ℕ)) (s : List ℕ) (p : Raw) (work work' : List Term) → b + length work ≤ 512
    → (r : Result (Unit {0}) Limit) → answered r (view work') ≡ cancelled o b t s p (view work) → OnErr r (work' ≡ work) → b + length work' ≤ 512
cancel-fits o b t s [] work work' fits (Ok u) e kept =
    let l = ap length (ok_injective e) in let v = view-length work in let v' = view-length work' in omega arith
cancel-fits o b t s (x ∷ p) work work' fits (Ok u) e kept =
    let short = step-short o b (cancelling o t (x, p) s) (x ∷ p) (view work) (view work') (sym e) in let v = view-length work' in omega arith
cancel-fits o b t s p work work' fits (Err l) e kept = let same = ap length kept in omega arith
