-- Limited division ends within the turns it is given, with one outcome; a limited S-polynomial is the S-polynomial.
use Rattle.std.proofs.Common.{◌≡◌, ℕ, zero, suc, ◌+◌, ◌^◌, ◌<◌, ◌≤◌, true, List, [], ◌∷◌, length, Some, None, Ok, Err, Option, sym, refl, ap, ◌∙◌, subst, arith}
use Rattle.field.specs.Fields.{Arithmetic, FieldLaws}
use Rattle.order.specs.Orders.{Compare, OrderLaws}
use Rattle.ideal.specs.Lists.{Each}
use Rattle.ideal.specs.Polynomials.{Operations, Term, whole, leading_coefficient, leading_monomial, sum, multiple}
use Rattle.ideal.specs.Rings.{Raw, RawElement, ring, Polynomial}
use Rattle.ideal.specs.Divisibility.{to_lcm}
use Rattle.ideal.specs.Dividing.{first_divisor, s_polynomial}
use Rattle.ideal.proofs.Lists.{some_injective, none_some}
use Rattle.ideal.proofs.Steps as steps
use Rattle.ideal.proofs.Verdicts as verdicts
use Rattle.polynomial.specs.Limits.{all_small, step}
use Rattle.polynomial.proofs.Outcomes.{bound}
use Rattle.polynomial.proofs.Steps.{step_sum}
use Rattle.division.specs.Limits.{Outcome, keep, resume, cancelling, turn, divide_within, settled, division, limited_s_polynomial}
use Rattle.division.specs.Bounds.{Held, Settles, Settled, DivisionLaw, PairLaw}
use Rattle.division.specs.Ranks.{height}
use Rattle.division.proofs.Bounded.{small-parts, small-from, step-short, step-held, division_is}
use Rattle.division.proofs.Turns.{height-below, kept-held, used-held}

-- whatever the number of turns, one outcome
kept_one : (t : Term ℕ (List ℕ)) (u v : Option Outcome) → ((x y : Outcome) → u ≡ Some x → v ≡ Some y → x ≡ y)
    → (x y : Outcome) → keep t u ≡ Some x → keep t v ≡ Some y → x ≡ y
kept_one t None v h x y e d = none_some e
kept_one t (Some u) None h x y e d = none_some d
kept_one t (Some u) (Some v) h x y e d = some_injective (sym e ∙ ap (λ w. keep t (Some w)) (h u v refl refl) ∙ d)

module _ (o : Operations ℕ (List ℕ)) (elements : List RawElement) where
  -- the outcomes in i and in j turns are one
  abbrev Agree : ℕ → ℕ → ℕ → Raw → Type 0
  Agree i j b f = (x y : Outcome) → divide_within o i elements b f ≡ Some x → divide_within o j elements b f ≡ Some y → x ≡ y

  pub one_outcome : (i j b : ℕ) (f : Raw) → Agree i j b f
  one_outcome zero j b f x y e d = none_some e
  one_outcome (suc i) zero b f x y e d = none_some d
  one_outcome (suc i) (suc j) b [] x y e d = some_injective (sym e ∙ d)
  one_outcome (suc i) (suc j) b (t ∷ f) x y e d = at (first_divisor o elements t.1) (one_outcome i j) e d
    where
      on : (z : Outcome) → ((f : Raw) → Agree i j b f)
          → resume (divide_within o i elements b) z ≡ Some x → resume (divide_within o j elements b) z ≡ Some y → x ≡ y
      on (Ok f) ih e d = ih f x y e d
      on (Err l) ih e d = some_injective (sym e ∙ d)

      at : (z : Option (RawElement × List ℕ)) → ((b : ℕ) (f : Raw) → Agree i j b f)
          → turn o z (divide_within o i elements) b t f ≡ Some x → turn o z (divide_within o j elements) b t f ≡ Some y → x ≡ y
      at None ih e d = kept_one t (divide_within o i elements (suc b) f) (divide_within o j elements (suc b) f) (ih (suc b) f) x y e d
      at (Some (g, s)) ih e d = on (step o b (cancelling o t g s) (whole g) (t ∷ f)) (ih b) e d

-- what is said of a remainder of a dividend f, with b terms kept
abbrev Fine : ℕ → Raw → Outcome → Type 0
Fine b f (Ok q) = (all_small q ≡ true) × (b + length f ≤ 512 → b + length q ≤ 512)
Fine b f (Err l) = Unit {0}

-- an outcome, which is fine
abbrev Out : ℕ → Raw → Option Outcome → Type 0
Out b f u = (x : Outcome) × (u ≡ Some x) × Fine b f x

module _ {k : Arithmetic} (F : FieldLaws k) {n : ℕ} {cmp : Compare} (O : OrderLaws n cmp) where
  abbrev r : Operations ℕ (List ℕ)
  r = ring k n cmp

  -- the S-polynomial of g and h, in two steps
  module _ (g h : RawElement) (a : Held k n cmp (whole g)) (b : Held k n cmp (whole h)) where
    abbrev first_factor : Term ℕ (List ℕ)
    first_factor = (k.inverse (leading_coefficient g), to_lcm (leading_monomial g) (leading_monomial h))

    abbrev second_factor : Term ℕ (List ℕ)
    second_factor = (k.opposite (k.inverse (leading_coefficient h)), to_lcm (leading_monomial h) (leading_monomial g))

    pub first_held : (f : Raw) → step r 0 first_factor (whole g) [] ≡ Ok f → Held k n cmp f
    first_held f e = step-held F O 0 first_factor (whole g) [] f (steps.first_term F O g h a.0 b.0) a.0 ((tt, tt), refl) e

    pub second-held : (f s : Raw) → Held k n cmp f → step r 0 second_factor (whole h) f ≡ Ok s → Held k n cmp s
    second-held f s held e = step-held F O 0 second_factor (whole h) f s (steps.second-term F O g h a.0 b.0) b.0 held e

    limited_pair : (s : Raw) → limited_s_polynomial r g h ≡ Ok s → (s ≡ s_polynomial r g h) × Held k n cmp s × (length s ≤ 512)
    limited_pair s e =
        let (f, e₁, e₂) = bound (step r 0 first_factor (whole g) []) (λ f. step r 0 second_factor (whole h) f) s e in (
          step_sum r 0 second_factor (whole h) f s e₂ ∙ ap (sum r (multiple r second_factor (whole h))) (step_sum r 0 first_factor (whole g) [] f e₁)
              ∙ steps.s_polynomial_stepwise F O g h a.0 b.0,
          second-held f s (first_held f e₁) e₂,
          step-short r 0 second_factor (whole h) f s e₂,
        )

  pub pair_law : PairLaw k n cmp
  pair_law g h a b s e = limited_pair g h a b s e

  module _ (elements : List RawElement) (oks : Each (λ g. Polynomial k n cmp (whole g)) elements) where
    kept : (b : ℕ) (t : Term ℕ (List ℕ)) (f : Raw) (u : Option Outcome) → all_small (t ∷ f) ≡ true → Out (suc b) f u → Out b (t ∷ f) (keep t u)
    kept b t f u h (Ok q, e, (z, l)) =
        (Ok (t ∷ q), ap (keep t) e, (small-from t q (small-parts t f h).0 z, λ m. let w = l (omega arith) in omega arith))
    kept b t f u h (Err l, e, z) = (Err l, ap (keep t) e, tt)

    -- the same outcome, of another dividend
    moved : (b : ℕ) (f h : Raw) (u : Option Outcome) → (b + length f ≤ 512 → b + length h ≤ 512) → Out b h u → Out b f u
    moved b f h u m (Ok q, e, (z, l)) = (Ok q, e, (z, λ w. l (m w)))
    moved b f h u m (Err l, e, z) = (Err l, e, tt)

    within : (i b : ℕ) (f : Raw) → Held k n cmp f → height cmp n f < i → Out b f (divide_within r i elements b f)
    within zero b f h l = absurd (omega arith)
    within (suc i) b [] h l = (Ok [], refl, (refl, λ w. w))
    within (suc i) b (t ∷ f) held l = at (first_divisor r elements t.1) refl (within i)
      where
        used : (g : RawElement) (s : List ℕ) → first_divisor r elements t.1 ≡ Some (g, s)
            → (x : Outcome) → step r b (cancelling r t g s) (whole g) (t ∷ f) ≡ x
            → ((f : Raw) → Held k n cmp f → height cmp n f < i → Out b f (divide_within r i elements b f))
            → Out b (t ∷ f) (resume (divide_within r i elements b) x)
        used g s d (Err y) e ih = (Err y, refl, tt)
        used g s d (Ok h) e ih =
            let (held', falls) = used-held F O elements oks b t f g s h held d e in
            let short = step-short r b (cancelling r t g s) (whole g) (t ∷ f) h e in
            moved b (t ∷ f) h (divide_within r i elements b h) (λ w. omega arith) (ih h held' (omega arith))

        at : (x : Option (RawElement × List ℕ)) → first_divisor r elements t.1 ≡ x
            → ((b : ℕ) (f : Raw) → Held k n cmp f → height cmp n f < i → Out b f (divide_within r i elements b f))
            → Out b (t ∷ f) (turn r x (divide_within r i elements) b t f)
        at None d ih = let (held', falls) = kept-held F O t f held in
            kept b t f (divide_within r i elements (suc b) f) held.1 (ih (suc b) f held' (omega arith))
        at (Some (g, s)) d ih = used g s d (step r b (cancelling r t g s) (whole g) (t ∷ f)) refl (ih b)

    pub settles : (f : Raw) → Held k n cmp f → Settled k n cmp elements f
    settles f held =
        let (x, e, fine) = within (256 ^ n + 2) 0 f held (height-below F O f held) in
        let is : division r n elements f ≡ x = ap (settled r) e in record {
          ends = (256 ^ n + 2, e ∙ ap Some (sym is));
          one = λ y (j, d). one_outcome r elements j (256 ^ n + 2) 0 f y x d e ∙ sym is;
          remainder = λ q z. let l = division_is r elements n f q z in
              (l, ((verdicts.division_theorem_lem F O elements oks f q held.0 l).remainder, (subst (Fine 0 f) (sym is ∙ z) fine).0));
          short = λ q z m. let w = (subst (Fine 0 f) (sym is ∙ z) fine).1 (omega arith) in omega arith;
        }

  pub each_polynomial : (elements : List RawElement) → Each (λ g. Held k n cmp (whole g)) elements → Each (λ g. Polynomial k n cmp (whole g)) elements
  each_polynomial [] h = tt
  each_polynomial (g ∷ elements) (a, h) = (a.0, each_polynomial elements h)

  pub division_law : DivisionLaw k n cmp
  division_law elements held f h = settles elements (each_polynomial elements held) f h

  -- what a division of the code comes to is `division`
  pub settle_one : (elements : List RawElement) → Each (λ g. Held k n cmp (whole g)) elements → (f : Raw) → Held k n cmp f
      → (x : Outcome) → Settles r elements f x → x ≡ division r n elements f
  settle_one elements held f h = (division_law elements held f h).one
