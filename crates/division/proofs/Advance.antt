-- Turns of the code on a limited division: what holds before each, that a turn keeps it at a smaller height, and what it comes to.
use Rattle.std.proofs.Common.{◌≡◌, ℕ, ◌+◌, ◌<◌, ◌≤◌, List, [], ◌∷◌, length, Some, None, Ok, Err, Option, Result, sym, refl, ap, subst, arith, length-append}
use Rattle.field.specs.Fields.{Arithmetic, FieldLaws}
use Rattle.order.specs.Orders.{Compare, OrderLaws}
use Rattle.ideal.specs.Lists.{Each}
use Rattle.ideal.specs.Polynomials.{Operations, whole}
use Rattle.ideal.specs.Rings.{Raw, RawElement, ring, Polynomial}
use Rattle.ideal.specs.Dividing.{first_divisor}
use Rattle.polynomial.specs.Limits.{step}
use Rattle.polynomial.specs.Results.{mapped_ok}
use Rattle.polynomial.specs.declared.flaw.Limit.{Limit}
use Rattle.division.specs.Limits.{cancelling}
use Rattle.division.specs.Bounds.{Held, Settles}
use Rattle.division.specs.Ranks.{height}
use Rattle.division.specs.Turns.{turned_by, turned}
use Rattle.division.proofs.Bounded.{err_ok, ok_injective, step-short}
use Rattle.division.proofs.Turns.{kept-held, used-held, Onward, kept-onward, used-onward, used-refused}

-- an answer that was changed, and a refusal that was not
mapped_answer : {E A B : Type 0} (f : A → B) (x : Result A E) (b : B) → Ok b ≡ mapped_ok f x → (a : A) × (x ≡ Ok a) × (b ≡ f a)
mapped_answer f (Ok a) b e = (a, refl, ok_injective e)
mapped_answer f (Err l) b e = err_ok (sym e)

mapped_refusal : {E A B : Type 0} (f : A → B) (x : Result A E) (l : E) → Err l ≡ mapped_ok f x → x ≡ Err l
mapped_refusal f (Ok a) l e = err_ok e
mapped_refusal f (Err m) l e = let z : m ≡ l = cc in ap Err z

module _ {k : Arithmetic} (F : FieldLaws k) {n : ℕ} {cmp : Compare} (O : OrderLaws n cmp)
    (elements : List RawElement) (oks : Each (λ g. Polynomial k n cmp (whole g)) elements) where
  abbrev r : Operations ℕ (List ℕ)
  r = ring k n cmp

  -- a turn can be taken: `rest` is the remainder so far, and `work` is left
  pub record Ready (rest work : Raw) : Type 0 where
    pub held : Held k n cmp work
    pub fits : length rest + length work ≤ 512

  -- what a turn that is done leaves: it is ready for the next, and at a smaller height if there was something to divide
  abbrev Next : Raw → Raw × Raw → Type 0
  Next work after = Ready after.0 after.1 × (0 < length work → height cmp n after.1 < height cmp n work)

  pub turn_ready : (rest work : Raw) → Ready rest work → (after : Raw × Raw) → Ok after ≡ turned r elements rest work → Next work after
  turn_ready rest [] d after e = subst (Next []) (sym (ok_injective e)) (d, λ some. absurd (omega arith))
  turn_ready rest (t ∷ tail) d after e = at (first_divisor r elements t.1) refl e
    where
      at : (x : Option (RawElement × List ℕ)) → first_divisor r elements t.1 ≡ x → Ok after ≡ turned_by r x rest t tail → Next (t ∷ tail) after
      at None none e =
          let (held, falls) = kept-held F O t tail d.held in
          let fits = d.fits in
          let more = length-append rest (t ∷ []) in
          subst (Next (t ∷ tail)) (sym (ok_injective e)) (record { held = held; fits = omega arith }, λ some. falls)
      at (Some (g, s)) found e =
          let (h, is, same) = mapped_answer (λ (h : Raw). (rest, h)) (step r (length rest) (cancelling r t g s) (whole g) (t ∷ tail)) after e in
          let (held, falls) = used-held F O elements oks (length rest) t tail g s h d.held found is in
          let short = step-short r (length rest) (cancelling r t g s) (whole g) (t ∷ tail) h is in
          let fits = d.fits in
          subst (Next (t ∷ tail)) (sym same) (record { held = held; fits = omega arith }, λ some. falls)

-- f is being divided: what it comes to is what is left comes to, behind the remainder so far
module _ (o : Operations ℕ (List ℕ)) (elements : List RawElement) (f : Raw) where
  pub turn-onward : (rest work : Raw) → Onward o elements f rest work → (after : Raw × Raw) → Ok after ≡ turned o elements rest work
      → Onward o elements f after.0 after.1
  turn-onward rest [] go after e = subst (λ (a : Raw × Raw). Onward o elements f a.0 a.1) (sym (ok_injective e)) go
  turn-onward rest (t ∷ tail) go after e = at (first_divisor o elements t.1) refl e
    where
      at : (x : Option (RawElement × List ℕ)) → first_divisor o elements t.1 ≡ x → Ok after ≡ turned_by o x rest t tail → Onward o elements f after.0 after.1
      at None none e = subst (λ (a : Raw × Raw). Onward o elements f a.0 a.1) (sym (ok_injective e)) (kept-onward o elements f rest t tail go none)
      at (Some (g, s)) found e =
          let (h, is, same) = mapped_answer (λ (h : Raw). (rest, h)) (step o (length rest) (cancelling o t g s) (whole g) (t ∷ tail)) after e in
          subst (λ (a : Raw × Raw). Onward o elements f a.0 a.1) (sym same) (used-onward o elements f rest t tail go g s found h is)

  pub turn_stops : (rest work : Raw) → Onward o elements f rest work → (l : Limit) → Err l ≡ turned o elements rest work → Settles o elements f (Err l)
  turn_stops rest [] go l e = err_ok e
  turn_stops rest (t ∷ tail) go l e = at (first_divisor o elements t.1) refl e
    where
      at : (x : Option (RawElement × List ℕ)) → first_divisor o elements t.1 ≡ x → Err l ≡ turned_by o x rest t tail → Settles o elements f (Err l)
      at None none e = err_ok e
      at (Some (g, s)) found e = used-refused o elements f rest t tail go g s found l
          (mapped_refusal (λ (h : Raw). (rest, h)) (step o (length rest) (cancelling o t g s) (whole g) (t ∷ tail)) l e)
