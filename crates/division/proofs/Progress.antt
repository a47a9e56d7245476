-- A limited division on its way: what holds before each turn, that a turn keeps it at a smaller height, and what it comes to.
use Rattle.std.proofs.Common.{◌≡◌, ℕ, ◌+◌, ◌<◌, ◌≤◌, List, [], ◌∷◌, ◌++◌, length, Some, None, Ok, Err, sym, subst, arith, length-append}
use Rattle.field.specs.Fields.{Arithmetic, FieldLaws}
use Rattle.order.specs.Orders.{Compare, OrderLaws}
use Rattle.ideal.specs.Lists.{Each}
use Rattle.ideal.specs.Polynomials.{Operations, Term, whole}
use Rattle.ideal.specs.Rings.{Raw, RawElement, ring}
use Rattle.ideal.specs.Dividing.{first_divisor}
use Rattle.polynomial.specs.Limits.{step}
use Rattle.polynomial.specs.declared.flaw.Limit.{Limit}
use Rattle.division.specs.Limits.{cancelling, division}
use Rattle.division.specs.Bounds.{Held}
use Rattle.division.specs.Ranks.{height}
use Rattle.division.proofs.Bounded.{step-short}
use Rattle.division.proofs.Turns.{kept-held, used-held, Onward, begun, ended, kept-onward, used-onward, used-refused}
use Rattle.division.proofs.Settling.{each_polynomial, settle_one}

-- f is being divided: `rest` is the remainder so far, and `work` is left
pub record Dividing (k : Arithmetic) (n : ℕ) (cmp : Compare) (elements : List RawElement) (f rest work : Raw) : Type 0 where
  pub held : Held k n cmp work
  pub fits : length rest + length work ≤ 512
  pub onward : Onward (ring k n cmp) elements f rest work

module _ {k : Arithmetic} (F : FieldLaws k) {n : ℕ} {cmp : Compare} (O : OrderLaws n cmp)
    (elements : List RawElement) (helds : Each (λ g. Held k n cmp (whole g)) elements) (f : Raw) (dividend : Held k n cmp f) where
  abbrev r : Operations ℕ (List ℕ)
  r = ring k n cmp

  abbrev On : Raw → Raw → Type 0
  On rest work = Dividing k n cmp elements f rest work

  pub dividing_begun : length f ≤ 512 → On [] f
  dividing_begun l = record { held = dividend; fits = omega arith; onward = begun r elements f }

  pub dividing_ended : (rest : Raw) → On rest [] → Ok rest ≡ division r n elements f
  dividing_ended rest d = settle_one F O elements helds f dividend (Ok rest) (ended r elements f rest d.onward)

  -- t is the leading term of what is left
  module _ (rest work : Raw) (t : Term ℕ (List ℕ)) (tail : Raw) (is : work ≡ t ∷ tail) (d : On rest work) where
    here : On rest (t ∷ tail)
    here = subst (On rest) is d

    pub dividing_kept : first_divisor r elements t.1 ≡ None → On (rest ++ (t ∷ [])) tail × (height cmp n tail < height cmp n work)
    dividing_kept none =
        let (held, falls) = kept-held F O t tail here.held in
        let fits = here.fits in
        let more = length-append rest (t ∷ []) in (
          record { held = held; fits = omega arith; onward = kept-onward r elements f rest t tail here.onward none },
          subst (λ w. height cmp n tail < height cmp n w) (sym is) falls,
        )

    module _ (g : RawElement) (s : List ℕ) (found : first_divisor r elements t.1 ≡ Some (g, s)) where
      pub dividing_used : (h : Raw) → step r (length rest) (cancelling r t g s) (whole g) work ≡ Ok h
          → On rest h × (height cmp n h < height cmp n work)
      dividing_used h e =
          let e' = subst (λ w. step r (length rest) (cancelling r t g s) (whole g) w ≡ Ok h) is e in
          let (held, falls) = used-held F O elements (each_polynomial F O elements helds) (length rest) t tail g s h here.held found e' in
          let short = step-short r (length rest) (cancelling r t g s) (whole g) (t ∷ tail) h e' in
          let fits = here.fits in (
            record { held = held; fits = omega arith; onward = used-onward r elements f rest t tail here.onward g s found h e' },
            subst (λ w. height cmp n h < height cmp n w) (sym is) falls,
          )

      pub dividing_refused : (l : Limit) → step r (length rest) (cancelling r t g s) (whole g) work ≡ Err l → Err l ≡ division r n elements f
      dividing_refused l e = settle_one F O elements helds f dividend (Err l)
          (used-refused r elements f rest t tail here.onward g s found l (subst (λ w. step r (length rest) (cancelling r t g s) (whole g) w ≡ Err l) is e))
