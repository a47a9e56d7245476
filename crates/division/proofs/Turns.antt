-- One turn of a limited division: what is left to divide stays held and has a smaller height, and what the rest comes to
-- is what the division comes to.
use Rattle.std.proofs.Common.{◌≡◌, ℕ, suc, ◌+◌, ◌^◌, ◌<◌, List, [], ◌∷◌, ◌++◌, length, Some, None, Ok, Err, sym, refl, ap, ◌∙◌, subst, append_assoc, append-nil, arith, length-append}
use Rattle.field.specs.Fields.{Arithmetic, FieldLaws}
use Rattle.order.specs.Orders.{Compare, OrderLaws}
use Rattle.ideal.specs.Lists.{Each}
use Rattle.ideal.specs.Polynomials.{Operations, Term, whole, All, Lower}
use Rattle.ideal.specs.Rings.{Raw, RawElement, ring, Polynomial}
use Rattle.ideal.specs.Dividing.{first_divisor}
use Rattle.ideal.proofs.Lists.{each_at}
use Rattle.ideal.proofs.Division.{found_some}
use Rattle.ideal.proofs.Carried as carried
use Rattle.ideal.proofs.Steps as steps
use Rattle.polynomial.specs.Limits.{step}
use Rattle.polynomial.specs.declared.flaw.Limit.{Limit}
use Rattle.polynomial.proofs.Steps.{behind, behind-nil, step_sum}
use Rattle.division.specs.Limits.{Outcome, keep, resume, cancelling, turn, divide_within}
use Rattle.division.specs.Bounds.{Held, Settles}
use Rattle.division.specs.Ranks.{height}
use Rattle.division.proofs.Ranks.{rank_falls, rank_below}
use Rattle.division.proofs.Bounded.{small-parts, step-held}

-- what is held, and its height
module _ {k : Arithmetic} (F : FieldLaws k) {n : ℕ} {cmp : Compare} (O : OrderLaws n cmp) where
  abbrev r : Operations ℕ (List ℕ)
  r = ring k n cmp

  pub height-below : (f : Raw) → Held k n cmp f → height cmp n f < 256 ^ n + 2
  height-below [] h = omega arith
  height-below (t ∷ f) (ok, s) = let a = rank_below O t.1 ok.0.0.1 (small-parts t f s).0 in omega arith

  pub height-falls : (t : Term ℕ (List ℕ)) (f p : Raw) → length t.1 ≡ n → Held k n cmp p → All (Lower r t.1) p
      → height cmp n p < height cmp n (t ∷ f)
  height-falls t f [] l h a = omega arith
  height-falls t f (u ∷ p) l (ok, s) (a, _) = let x = rank_falls O u.1 t.1 ok.0.0.1 (small-parts u p s).0 l a in omega arith

  -- the leading term is moved away
  pub kept-held : (t : Term ℕ (List ℕ)) (f : Raw) → Held k n cmp (t ∷ f) → Held k n cmp f × (height cmp n f < height cmp n (t ∷ f))
  kept-held t f (ok, s) =
      let held : Held k n cmp f = ((carried.uncons F O t f ok).1, (small-parts t f s).1) in
      (held, height-falls t f f ok.0.0.1 held ok.1.1)

  -- the leading term is cancelled, by an element that divides it
  module _ (elements : List RawElement) (oks : Each (λ g. Polynomial k n cmp (whole g)) elements) where
    pub used-held : (b : ℕ) (t : Term ℕ (List ℕ)) (f : Raw) (g : RawElement) (s : List ℕ) (h : Raw) → Held k n cmp (t ∷ f)
        → first_divisor r elements t.1 ≡ Some (g, s) → step r b (cancelling r t g s) (whole g) (t ∷ f) ≡ Ok h
        → Held k n cmp h × (height cmp n h < height cmp n (t ∷ f))
    used-held b t f g s h held d e =
        let (among, q) = found_some r elements t.1 g s d in
        let ok = each_at (λ g. Polynomial k n cmp (whole g)) elements oks g among in
        let held' = step-held F O b (cancelling r t g s) (whole g) (t ∷ f) h (steps.cancelling-term F O t f g held.0 ok s q) ok held e in
        let lower = subst (All (Lower r t.1)) (sym (step_sum r b (cancelling r t g s) (whole g) (t ∷ f) h e))
        (steps.reduced_lower F O t f g held.0 ok s q) in
        (held', height-falls t f h held.0.0.0.1 held' lower)

-- what the rest comes to
module _ (o : Operations ℕ (List ℕ)) (elements : List RawElement) where
  -- with b terms in the remainder, the division of f comes to x
  abbrev pub Comes : ℕ → Raw → Outcome → Type 0
  Comes b f x = (i : ℕ) × (divide_within o i elements b f ≡ Some x)

  -- f is being divided: `rest` is the remainder so far and `work` is left. What `work` comes to, behind `rest`, is what f comes to
  abbrev pub Onward : Raw → Raw → Raw → Type 0
  Onward f rest work = (x : Outcome) → Comes (length rest) work x → Settles o elements f (behind rest x)

module _ (o : Operations ℕ (List ℕ)) (elements : List RawElement) (f : Raw) where
  pub begun : Onward o elements f [] f
  begun x c = subst (Settles o elements f) (behind-nil x) c

  pub ended : (rest : Raw) → Onward o elements f rest [] → Settles o elements f (Ok rest)
  ended rest go = subst (Settles o elements f) (ap Ok (append-nil rest)) (go (Ok []) (1, refl))

  keep-behind : (t : Term ℕ (List ℕ)) (x : Outcome) → keep t (Some x) ≡ Some (behind (t ∷ []) x)
  keep-behind t (Ok q) = refl
  keep-behind t (Err e) = refl

  behind-behind : (rest : Raw) (t : Term ℕ (List ℕ)) (x : Outcome) → behind rest (behind (t ∷ []) x) ≡ behind (rest ++ (t ∷ [])) x
  behind-behind rest t (Ok q) = ap Ok (sym (append_assoc rest (t ∷ []) q))
  behind-behind rest t (Err e) = refl

  module _ (rest : Raw) (t : Term ℕ (List ℕ)) (work : Raw) (go : Onward o elements f rest (t ∷ work)) where
    pub kept-onward : first_divisor o elements t.1 ≡ None → Onward o elements f (rest ++ (t ∷ [])) work
    kept-onward d x (i, e) =
        let l : length (rest ++ (t ∷ [])) ≡ suc (length rest) = omega (arith, length-append rest (t ∷ [])) in
        let e' : divide_within o i elements (suc (length rest)) work ≡ Some x = ap (λ b. divide_within o i elements b work) (sym l) ∙ e in
        subst (Settles o elements f) (behind-behind rest t x) (go (behind (t ∷ []) x) (
          suc i,
          ap (λ y. turn o y (divide_within o i elements) (length rest) t work) d ∙ ap (keep t) e' ∙ keep-behind t x,
        ))

    module _ (g : RawElement) (s : List ℕ) (d : first_divisor o elements t.1 ≡ Some (g, s)) where
      pub used-onward : (h : Raw) → step o (length rest) (cancelling o t g s) (whole g) (t ∷ work) ≡ Ok h → Onward o elements f rest h
      used-onward h z x (i, e) = go x (
        suc i,
        ap (λ y. turn o y (divide_within o i elements) (length rest) t work) d ∙ ap (resume (divide_within o i elements (length rest))) z ∙ e,
      )

      pub used-refused : (l : Limit) → step o (length rest) (cancelling o t g s) (whole g) (t ∷ work) ≡ Err l → Settles o elements f (Err l)
      used-refused l z = go (Err l) (
        1,
        ap (λ y. turn o y (divide_within o 0 elements) (length rest) t work) d ∙ ap (resume (divide_within o 0 elements (length rest))) z,
      )
