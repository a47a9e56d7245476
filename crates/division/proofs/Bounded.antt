-- A step within the limits is the sum, and what is held stays held; so limited division leaves what division leaves.
use Rattle.std.proofs.Common.{◌≡◌, ℕ, zero, suc, ◌+◌, ◌-◌, ◌^◌, ◌≤◌, true, leb, List, [], ◌∷◌, length, Some, None, Ok, Err, Option, Result, sym, refl, ap, ◌∙◌, subst}
use Rattle.std.proofs.lemmas.Bool.{and_parts, and_from, leb-true}
use Rattle.field.specs.Fields.{Arithmetic, FieldLaws}
use Rattle.order.specs.Monomials.{small}
use Rattle.order.specs.Orders.{Compare, OrderLaws}
use Rattle.ideal.specs.Polynomials.{Operations, Term, All, whole, sum, multiple}
use Rattle.ideal.specs.Rings.{Raw, RawElement, ring, Polynomial}
use Rattle.ideal.specs.Algebra.{NonzeroTerm}
use Rattle.ideal.specs.Dividing as unlimited
use Rattle.ideal.specs.Dividing.{first_divisor, reduced, divide, Leaves}
use Rattle.ideal.proofs.Alls.{all-sum}
use Rattle.ideal.proofs.Carried as carried
use Rattle.ideal.proofs.Lists.{some_injective, none_some}
use Rattle.polynomial.specs.Limits.{all_small, tight, bounded, step}
use Rattle.polynomial.specs.declared.flaw.Limit.TheVariants.{Exponent, Terms}
use Rattle.polynomial.proofs.Outcomes.{checked, bound}
use Rattle.polynomial.proofs.Steps.{step_sum}
use Rattle.division.specs.Limits.{Outcome, keep, resume, cancelling, turn, divide_within, settled, division}
use Rattle.division.specs.Bounds.{Held}

pub err_ok : {A E X : Type 0} {e : E} {a : A} → ◌≡◌ {A = Result A E} (Err e) (Ok a) → X
err_ok h = cc

pub ok_injective : {A E : Type 0} {a b : A} → ◌≡◌ {A = Result A E} (Ok a) (Ok b) → a ≡ b
ok_injective h = cc

-- exponents up to 255 stay such
abbrev Small : List ℕ → Type 0
Small m = small m ≡ true

pub small-parts : (t : Term ℕ (List ℕ)) (p : Raw) → all_small (t ∷ p) ≡ true → Small t.1 × (all_small p ≡ true)
small-parts t p h = and_parts (small t.1) (all_small p) h

pub small-from : (t : Term ℕ (List ℕ)) (p : Raw) → Small t.1 → all_small p ≡ true → all_small (t ∷ p) ≡ true
small-from t p h a = and_from (small t.1) (all_small p) h a

each-small : (p : Raw) → all_small p ≡ true → All Small p
each-small [] h = tt
each-small (t ∷ p) h = let (a, b) = small-parts t p h in (a, each-small p b)

all_from : (p : Raw) → All Small p → all_small p ≡ true
all_from [] a = refl
all_from (t ∷ p) (h, a) = small-from t p h (all_from p a)

pub small-sum : (o : Operations ℕ (List ℕ)) (p q : Raw) → all_small p ≡ true → all_small q ≡ true → all_small (sum o p q) ≡ true
small-sum o p q a b = all_from (sum o p q) (all-sum o Small p q (each-small p a) (each-small q b))

-- what a step that is not refused says
module _ (o : Operations ℕ (List ℕ)) (b : ℕ) (t : Term ℕ (List ℕ)) (p f s : Raw) (e : step o b t p f ≡ Ok s) where
  pub step_small : all_small (multiple o t p) ≡ true
  step_small =
      let (m, d, _) = bound (tight (multiple o t p)) (λ m. bounded (512 - b) (sum o m f)) s e in
      (checked (all_small (multiple o t p)) Exponent (Ok (multiple o t p)) m d).0

  pub step-short : length s ≤ 512 - b
  step-short =
      let (m, d, z) = bound (tight (multiple o t p)) (λ m. bounded (512 - b) (sum o m f)) s e in
      let (l, is) = checked (leb (length (sum o m f)) (512 - b)) Terms (Ok (sum o m f)) s z in
      subst (λ v. length v ≤ 512 - b) (ok_injective is) (leb-true (length (sum o m f)) (512 - b) l)

  pub step-all_small : all_small f ≡ true → all_small s ≡ true
  step-all_small h = ap all_small (step_sum o b t p f s e) ∙ small-sum o (multiple o t p) f step_small h

module _ {k : Arithmetic} (F : FieldLaws k) {n : ℕ} {cmp : Compare} (O : OrderLaws n cmp) where
  pub step-held : (b : ℕ) (t : Term ℕ (List ℕ)) (p f s : Raw) → NonzeroTerm k n t → Polynomial k n cmp p → Held k n cmp f
      → step (ring k n cmp) b t p f ≡ Ok s → Held k n cmp s
  step-held b t p f s z a (c, h) e = (
    subst (Polynomial k n cmp) (sym (step_sum (ring k n cmp) b t p f s e)) (carried.step_closed F O t p f z a c),
    step-all_small (ring k n cmp) b t p f s e h,
  )

-- a remainder within the limits is a remainder
module _ (o : Operations ℕ (List ℕ)) (elements : List RawElement) where
  pub within_is : (i b : ℕ) (f q : Raw) → divide_within o i elements b f ≡ Some (Ok q) → divide o i elements f ≡ Some q
  within_is zero b f q e = none_some e
  within_is (suc i) b [] q e = ap Some (ok_injective (some_injective e))
  within_is (suc i) b (t ∷ f) q e = at (first_divisor o elements t.1) (within_is i) e
    where
      kept : (x : Option Outcome) → ((q : Raw) → x ≡ Some (Ok q) → divide o i elements f ≡ Some q)
          → keep t x ≡ Some (Ok q) → unlimited.after o t (divide o i elements f) ≡ Some q
      kept None ih e = none_some e
      kept (Some (Ok p)) ih e = ap (unlimited.after o t) (ih p refl) ∙ ap Some (ok_injective (some_injective e))
      kept (Some (Err x)) ih e = err_ok (some_injective e)

      used : (g : RawElement) (s : List ℕ) (x : Outcome) → ((p : Raw) → x ≡ Ok p → p ≡ reduced o t f g s)
          → ((p : Raw) → divide_within o i elements b p ≡ Some (Ok q) → divide o i elements p ≡ Some q)
          → resume (divide_within o i elements b) x ≡ Some (Ok q) → divide o i elements (reduced o t f g s) ≡ Some q
      used g s (Ok p) h ih e = subst (λ x. divide o i elements x ≡ Some q) (h p refl) (ih p e)
      used g s (Err x) h ih e = err_ok (some_injective e)

      at : (x : Option (RawElement × List ℕ)) → ((b : ℕ) (f q : Raw) → divide_within o i elements b f ≡ Some (Ok q) → divide o i elements f ≡ Some q)
          → turn o x (divide_within o i elements) b t f ≡ Some (Ok q) → unlimited.turn o x (divide o i elements) t f ≡ Some q
      at None ih e = kept (divide_within o i elements (suc b) f) (λ q e. ih (suc b) f q e) e
      at (Some (g, s)) ih e = used g s (step o b (cancelling o t g s) (whole g) (t ∷ f))
          (λ p e. step_sum o b (cancelling o t g s) (whole g) (t ∷ f) p e) (λ p e. ih b p q e) e

  pub division_is : (n : ℕ) (f q : Raw) → division o n elements f ≡ Ok q → Leaves o elements f q
  division_is n f q e = (256 ^ n + 2, within_is (256 ^ n + 2) 0 f q (at (divide_within o (256 ^ n + 2) elements 0 f) e))
    where
      at : (x : Option Outcome) → settled o x ≡ Ok q → x ≡ Some (Ok q)
      at None e = err_ok e
      at (Some x) e = ap Some e
