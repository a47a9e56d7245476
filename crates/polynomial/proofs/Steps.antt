-- Multiples and sums within limits, a term at a time. Assumes nothing.
use Rattle.std.proofs.Common.{◌≡◌, ℕ, zero, suc, ◌+◌, ◌-◌, ◌<◌, ◌≤◌, Bool, true, false, ◌&&◌, leb, List, [], ◌∷◌, ◌++◌, length, get_or, drop, Ok, Err, Result, sym, refl, ap, ◌∙◌, subst, append_assoc, arith, length-append}
use Rattle.std.proofs.lemmas.Bool.{le-leb, lt-leb}
use Rattle.field.specs.Fields.{Arithmetic, FieldLaws}
use Rattle.order.specs.Monomials.{small}
use Rattle.order.specs.Orders.{Compare, OrderLaws}
use Rattle.ideal.specs.Polynomials.{Operations, Term as Written, sum, multiple}
use Rattle.ideal.specs.Rings.{Raw, Polynomial}
use Rattle.ideal.specs.Algebra.{NonzeroTerm}
use Rattle.ideal.proofs.Carried as carried
use Rattle.polynomial.specs.Limits.{all_small, tight, bounded, step}
use Rattle.polynomial.specs.Results.{◌>>◌, check}
use Rattle.polynomial.specs.Views.{term_of, view}
use Rattle.polynomial.specs.declared.flaw.Limit.{Limit}
use Rattle.polynomial.specs.declared.flaw.Limit.TheVariants.{Exponent, Terms}
use Rattle.polynomial.specs.declared.term.Term.{Term}
use Rattle.polynomial.proofs.Outcomes.{checked, bound}
use Rattle.polynomial.proofs.Viewing.{view_at}

-- what comes behind what is written
abbrev pub behind : Raw → Result Raw Limit → Result Raw Limit
behind xs (Ok ys) = Ok (xs ++ ys)
behind xs (Err e) = Err e

pub behind-nil : (r : Result Raw Limit) → r ≡ behind [] r
behind-nil (Ok ts) = refl
behind-nil (Err e) = refl

behind_one : (xs : Raw) (t : Written ℕ (List ℕ)) (b : Bool) (p : Raw) → behind xs (check b Exponent >> Ok (t ∷ p)) ≡ behind (xs ++ (t ∷ [])) (check b Exponent >> Ok p)
behind_one xs t true p = ap Ok (sym (append_assoc xs (t ∷ []) p))
behind_one xs t false p = refl

module _ (o : Operations ℕ (List ℕ)) (s t : Written ℕ (List ℕ)) (p out : Raw) where
  pub multiple_on : small (o.multiply s.1 t.1) ≡ true
      → behind out (tight (multiple o s (t ∷ p))) ≡ behind (out ++ ((o.times s.0 t.0, o.multiply s.1 t.1) ∷ [])) (tight (multiple o s p))
  multiple_on e =
      let x : Written ℕ (List ℕ) = (o.times s.0 t.0, o.multiply s.1 t.1) in
      ap (λ b. behind out (check (b && all_small (multiple o s p)) Exponent >> Ok (x ∷ multiple o s p))) e ∙ behind_one out x (all_small (multiple o s p)) (multiple o s p)

-- a sum that is too long, and one that is not
pub too_long : (room : ℕ) (xs : Raw) (y : Written ℕ (List ℕ)) (ys : Raw) → room ≤ length xs → Err Terms ≡ bounded room (xs ++ (y ∷ ys))
too_long room xs y ys h =
    let l : room < length (xs ++ (y ∷ ys)) = omega (arith, length-append xs (y ∷ ys)) in
    sym (ap (λ b. check b Terms >> Ok (xs ++ (y ∷ ys))) (lt-leb (length (xs ++ (y ∷ ys))) room l))

pub fits : (room : ℕ) (xs : Raw) → length xs ≤ room → Ok xs ≡ bounded room xs
fits room xs h = sym (ap (λ b. check b Terms >> Ok xs) (le-leb (length xs) room h))

-- what is left of a polynomial is one
pub within_drop : {k : Arithmetic} (F : FieldLaws k) {n : ℕ} {cmp : Compare} (O : OrderLaws n cmp) (i : ℕ) (ts : List Term) → Polynomial k n cmp (view ts) → Polynomial k n cmp (view (drop i ts))
within_drop F O zero ts h = h
within_drop F O (suc i) [] h = h
within_drop F O (suc i) (t ∷ ts) h = within_drop F O i ts (carried.uncons F O (term_of t) (view ts) h).1

-- what is not refused is what it was
pub tight_is : (p v : Raw) → Ok v ≡ tight p → v ≡ p
tight_is p v e = let (b, is) = checked (all_small p) Exponent (Ok p) v (sym e) in cc

pub bounded_is : (room : ℕ) (p v : Raw) → Ok v ≡ bounded room p → v ≡ p
bounded_is room p v e = let (b, is) = checked (leb (length p) room) Terms (Ok p) v (sym e) in cc

-- a step that is not refused is the sum
pub step_sum : (o : Operations ℕ (List ℕ)) (b : ℕ) (t : Written ℕ (List ℕ)) (p f s : Raw) → step o b t p f ≡ Ok s → s ≡ sum o (multiple o t p) f
step_sum o b t p f s e =
    let (m, d, e1) = bound (tight (multiple o t p)) (λ m. bounded (512 - b) (sum o m f)) s e in
    bounded_is (512 - b) (sum o m f) s (sym e1) ∙ ap (λ m. sum o m f) (tight_is (multiple o t p) m (sym d))

-- a term of a polynomial can multiply one
pub factor_at : {k : Arithmetic} (F : FieldLaws k) {n : ℕ} {cmp : Compare} (O : OrderLaws n cmp) (i : ℕ) (ts : List Term) (x : Term) → i < length ts → x ≡ get_or ts i x → Polynomial k n cmp (view ts) → NonzeroTerm k n (term_of x)
factor_at {k = k} F {n = n} {cmp = cmp} O i ts x h e ok = (carried.uncons F O (term_of x) (view (drop (i + 1) ts)) (subst (Polynomial k n cmp) (view_at i ts x h e) (within_drop F O i ts ok))).0
