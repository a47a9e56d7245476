-- The multiples of some elements: what a division takes away, and Buchberger's criterion.
use Rattle.std.proofs.Common.{◌≡◌, Bool, true, false, ◌⊎◌, List, [], ◌∷◌, Some, Ordering, Less, Equal, Greater, sym, refl, ap, ◌∙◌, subst, ap₂, inl, inr}
use mathlib.Core.Path.{fun_ext}
use Rattle.ideal.specs.Lists.{Among}
use Rattle.ideal.specs.Polynomials.{Operations, Term, Poly, Element, whole, leading_coefficient, leading_monomial, All, Lower, Falling, multiple}
use Rattle.ideal.specs.Dividing.{first_divisor, reduced, s_polynomial}
use Rattle.ideal.proofs.Lists.{some_injective}
use Rattle.ideal.proofs.Calculus as calculus
use Rattle.ideal.proofs.Calculus.{Laws}
use Rattle.ideal.proofs.Alls.{all_map, all-sum}
use Rattle.ideal.proofs.Value as value
use Rattle.ideal.proofs.Value.{val, pick, indicator}
use Rattle.ideal.proofs.Cancelling as cancelling
use Rattle.ideal.proofs.Ideal as ideal
use Rattle.ideal.proofs.Ideal.{V, nil, join, act}
use Rattle.ideal.proofs.Division as division
use Rattle.ideal.proofs.Division.{Division, ended, kept, used}
use Rattle.ideal.proofs.Standard as core
use Rattle.ideal.proofs.Standard.{Frame, Under, Standard}

module _ {K M : Type 0} {o : Operations K M} (L : Laws o) (G : List (Element K M)) (good : (g : Element K M) → Among g G → Falling o (whole g)) where
  open o use {zero, one, plus as ◌+◌, negate, times as ◌*◌, inverse, is_zero, unit, multiply as ◌▹◌, quotient, to_lcm, compare}

  infixl 60 ◌+◌
  infixl 70 ◌*◌
  infixl 70 ◌▹◌
  -- an element and a monomial that it is multiplied by; the multiple's leading coefficient is made 1
  abbrev pub J : Type 0
  J = (g : Element K M) × Among g G × M

  abbrev pub frame : Frame K M (V K M) J
  frame = record {
    zero = zero;
    plus = ◌+◌;
    nil = nil o;
    join = join o;
    monomial = λ j. j.2 ▹ leading_monomial j.0;
    times = λ c j. act o (c * inverse (leading_coefficient j.0)) j.2 (val o (whole j.0));
    compare = compare;
  }

  open frame use {monomial, times, join as ◌⊕◌}

  infixr 60 ◌⊕◌
  -- a multiple at a function that is 0 below its leading monomial
  leads : (c : K) (j : J) (φ : M → K) → ((m : M) → Lower o (monomial j) m → φ m ≡ zero) → times c j φ ≡ c * φ (monomial j)
  leads c j φ h = L.times_plus _ _ _ ∙ ap₂ ◌+◌ first rest ∙ calculus.plus-right L _
    where
      l : K
      l = leading_coefficient j.0

      first : (c * inverse l) * (l * φ (monomial j)) ≡ c * φ (monomial j)
      first = L.times_assoc _ _ _
          ∙ ap (λ x. c * x) (sym (L.times_assoc _ _ _) ∙ ap (λ x. x * φ (monomial j)) (calculus.inverse-times L l (good j.0 j.1).0)
          ∙ L.times_one _)

      rest : (c * inverse l) * val o j.0.1 (λ m. φ (j.2 ▹ m)) ≡ zero
      rest = ap (λ x. (c * inverse l) * x) (value.val-zero L j.0.1 (λ m. φ (j.2 ▹ m))
          (all_map (λ m y. h _ (L.compare_translate j.2 _ _ ∙ y)) j.0.1 (good j.0 j.1).1)) ∙ calculus.times_zero L _

  -- one turn of a division
  step : (t : Term K M) (f : Poly K M) (g : Element K M) (a : Among g G) (s : M) → val o (t ∷ f) ≡ times t.0 (g, a, s) ⊕ val o (reduced o t f g s)
  step t f g a s = fun_ext (λ φ.
      let w = q * val o (whole g) (λ m. φ (s ▹ m)) in
      sym (ap (λ x. w + x) (value.val-sum L (multiple o (negate q, s) (whole g)) (t ∷ f) φ
      ∙ ap (λ x. x + val o (t ∷ f) φ) (value.val-multiple L (negate q, s) (whole g) φ ∙ calculus.negate-times L _ _))
      ∙ sym (L.plus_assoc _ _ _) ∙ ap (λ x. x + val o (t ∷ f) φ) (L.plus_negate w) ∙ L.plus_zero _))
    where
      q : K
      q = t.0 * inverse (leading_coefficient g)

  pub at_divisor : (t : Term K M) (g : Element K M) (s : M) → first_divisor o G t.1 ≡ Some (g, s) → Among g G × (s ▹ leading_monomial g ≡ t.1)
  at_divisor t g s h = let (a, e) = division.found_some o G t.1 g s h in (a, L.quotient_some _ _ _ e)

  -- for bounds that hold of all lower monomials
  module _ (P : M → Type 0) (down : (a b : M) → Lower o b a → P b → P a) where
    all-reduced : (t : Term K M) (f : Poly K M) (g : Element K M) (a : Among g G) (s : M) → s ▹ leading_monomial g ≡ t.1
        → P t.1 → All P f → All P (reduced o t f g s)
    all-reduced t f g a s h p b = all-sum o P (multiple o (_, s) (whole g)) (t ∷ f)
        (subst P (sym h) p, all_map (λ m y. down _ _ y p) (multiple o (_, s) g.1) (cancelling.rest_lower L g (good g a) _ s t.1 h)) (p, b)

    -- a division takes away multiples under the bound
    pub represent : {f r : Poly K M} → Division o G f r → All P f → (w : V K M) × Under frame P w × (val o f ≡ w ⊕ val o r) × All P r
    represent ended a = (nil o, Under.none refl, fun_ext (λ φ. sym (L.plus_zero zero)), tt)
    represent (kept {t = t} h d) (p, a) = let (w, u, z, b) = represent d a in
        (w, u, fun_ext (λ φ. ap (λ x. t.0 * φ t.1 + x φ) z ∙ calculus.left_comm L _ _ _), (p, b))
    represent (used {t = t} {f = f} g s h d) (p, a) =
        let (am, eq) = at_divisor t g s h in
        let (w, u, z, b) = represent d (all-reduced t f g am s eq p a) in (
          times t.0 (g, am, s) ⊕ w,
          Under.more t.0 (g, am, s) w (subst P (sym eq) p) u refl,
          step t f g am s ∙ ap (λ x. times t.0 (g, am, s) ⊕ x) z ∙ fun_ext (λ φ. sym (L.plus_assoc _ _ _)),
          b,
        )

    -- a value under the bound is 0 at a function that is 0 there
    zero_at : (φ : M → K) → ((m : M) → P m → φ m ≡ zero) → {f : V K M} → Under frame P f → f φ ≡ zero
    zero_at φ h (Under.none z) = ap (λ x. x φ) z
    zero_at φ h (Under.more c j v p u z) = ap (λ x. x φ) z
        ∙ ap₂ ◌+◌ (leads c j φ (λ m y. h m (down _ _ y p)) ∙ ap (λ x. c * x) (h _ p) ∙ calculus.times_zero L c) (zero_at φ h u) ∙ L.plus_zero _

  under_act : {P Q : M → Type 0} (c : K) (u : M) → ((m : M) → P m → Q (u ▹ m)) → {f : V K M} → Under frame P f → Under frame Q (act o c u f)
  under_act c u h (Under.none z) = Under.none (ap (act o c u) z ∙ fun_ext (λ φ. calculus.times_zero L c))
  under_act {Q = Q} c u h (Under.more d (g, a, m) v p w z) = Under.more (c * d) (g, a, u ▹ m) (act o c u v)
      (subst Q (sym (L.multiply_assoc _ _ _)) (h _ p)) (under_act c u h w)
      (ap (act o c u) z ∙ fun_ext (λ φ. L.times_plus _ _ _ ∙ ap (λ x. x φ + act o c u v φ)
      (ideal.act-act L c (d * inverse (leading_coefficient g)) u m (val o (whole g))
      ∙ ap (λ x. act o x (u ▹ m) (val o (whole g))) (sym (L.times_assoc _ _ _)))))

  -- two multiples that lead at one monomial, of elements whose S-polynomial divides to 0
  by_pair : (c : K) (j k : J) → Division o G (s_polynomial o j.0 k.0) [] → monomial j ≡ monomial k
      → (w : V K M) × Under frame (Lower o (monomial k)) w × (times c j ≡ times c k ⊕ w)
  by_pair c j k d h =
      let (u, p, q) = L.lcm_least a b j.2 k.2 h in
      let (w, low, z, _) = represent (Lower o (to_lcm a b ▹ a)) (λ x y s t. L.compare_trans _ _ _ s t) d
      (cancelling.s_polynomial_lower L j.0 k.0 (good _ j.1) (good _ k.1)) in
      let lcm : u ▹ (to_lcm a b ▹ a) ≡ monomial k = sym (L.multiply_assoc _ _ _) ∙ ap (λ x. x ▹ a) (sym p) ∙ h in (
        act o c u w,
        under_act c u (λ m y. ap (compare (u ▹ m)) (sym lcm) ∙ L.compare_translate u _ _ ∙ y) low,
        fun_ext (difference u p q w (λ ψ. ap (λ x. x ψ) z)),
      )
    where
      a : M
      a = leading_monomial j.0

      b : M
      b = leading_monomial k.0

      -- an element, its leading coefficient made 1, at a function
      monic : Element K M → (M → K) → K
      monic g ψ = inverse (leading_coefficient g) * val o (whole g) ψ

      moved : (u x : M) (j : J) → j.2 ≡ u ▹ x → (φ : M → K) → times c j φ ≡ c * monic j.0 (λ m. φ (u ▹ (x ▹ m)))
      moved u x j h φ = L.times_assoc _ _ _ ∙ ap (λ ψ. c * monic j.0 ψ) (fun_ext (λ m. ap φ (ap (λ y. y ▹ m) h ∙ L.multiply_assoc _ _ _)))

      at_pair : (ψ : M → K) → val o (s_polynomial o j.0 k.0) ψ
          ≡ monic j.0 (λ m. ψ (to_lcm a b ▹ m)) + negate (monic k.0 (λ m. ψ (to_lcm b a ▹ m)))
      at_pair ψ = value.val-sum L (multiple o (_, to_lcm a b) (whole j.0)) (multiple o (_, to_lcm b a) (whole k.0)) ψ
          ∙ ap₂ ◌+◌ (value.val-multiple L (_, to_lcm a b) (whole j.0) ψ) (value.val-multiple L (_, to_lcm b a) (whole k.0) ψ
          ∙ calculus.negate-times L _ _)

      difference : (u : M) → j.2 ≡ u ▹ to_lcm a b → k.2 ≡ u ▹ to_lcm b a → (w : V K M)
          → ((ψ : M → K) → val o (s_polynomial o j.0 k.0) ψ ≡ w ψ + zero)
          → (φ : M → K) → times c j φ ≡ times c k φ + act o c u w φ
      difference u p q w z φ = moved u (to_lcm a b) j p φ ∙ calculus.regroup L c _ _
          ∙ ap₂ ◌+◌ (sym (moved u (to_lcm b a) k q φ)) (ap (λ x. c * x) (sym (at_pair (λ m. φ (u ▹ m))) ∙ z (λ m. φ (u ▹ m))
          ∙ calculus.plus-right L _))

  module _ (pairs : (g h : Element K M) → Among g G → Among h G
      → (g ≡ h) ⊎ (Division o G (s_polynomial o g h) [] ⊎ Division o G (s_polynomial o h g) [])) where
    exchange : (c : K) (j k : J) → monomial j ≡ monomial k → (w : V K M) × Under frame (Lower o (monomial k)) w × (times c j ≡ times c k ⊕ w)
    exchange c j k h = at (pairs j.0 k.0 j.1 k.1)
      where
        at : (j.0 ≡ k.0) ⊎ (Division o G (s_polynomial o j.0 k.0) [] ⊎ Division o G (s_polynomial o k.0 j.0) [])
            → (w : V K M) × Under frame (Lower o (monomial k)) w × (times c j ≡ times c k ⊕ w)
        at (inl z) =
            let m : j.2 ≡ k.2 = some_injective (sym (L.quotient_multiply j.2 (leading_monomial j.0))
            ∙ ap₂ quotient h (ap (λ x. leading_monomial x) z) ∙ L.quotient_multiply k.2 (leading_monomial k.0)) in (
              nil o,
              Under.none refl,
              ap₂ (λ (g : Element K M) m. act o (c * inverse (leading_coefficient g)) m (val o (whole g))) z m
                  ∙ fun_ext (λ φ. sym (calculus.plus-right L _)),
            )
        at (inr (inl d)) = by_pair c j k d h
        at (inr (inr d)) = let (w, low, z) = by_pair c k j d (sym h) in (
          act o (negate one) unit w,
          under_act (negate one) unit (λ m y. ap₂ compare (L.multiply_unit m) (sym h) ∙ y) low,
          fun_ext (λ φ. sym (calculus.undo L (w φ) (times c j φ)) ∙ ap (λ x. x + negate (w φ)) (L.plus_comm _ _ ∙ ap (λ x. x φ) (sym z))
              ∙ ap (λ x. times c k φ + x φ) (sym (ideal.act_minus L w))),
        )

    zero? : (c : K) → Dec (c ≡ zero)
    zero? c = at (is_zero c) refl
      where
        at : (b : Bool) → is_zero c ≡ b → Dec (c ≡ zero)
        at true h = yes (L.is_zero_true c h)
        at false h = no (L.is_zero_false c h)

    laws : core.Laws frame
    laws = record {
      join_assoc = λ u v w. fun_ext (λ φ. L.plus_assoc _ _ _);
      join_comm = λ u v. fun_ext (λ φ. L.plus_comm _ _);
      join_nil = λ v. fun_ext (λ φ. L.plus_zero _);
      times_plus = λ c d j. fun_ext (λ φ. L.times_assoc _ _ _ ∙ calculus.plus_times L _ _ _
          ∙ sym (ap₂ ◌+◌ (L.times_assoc _ _ _) (L.times_assoc _ _ _)));
      times_zero = λ j. fun_ext (λ φ. L.times_assoc _ _ _ ∙ calculus.zero-times L _);
      zero? = zero?;
      compare_same = L.compare_same;
      compare_greater = L.compare_greater;
      compare_trans = L.compare_trans;
      exchange = exchange;
    }

    -- the leading monomial of a value of the ideal is a multiple of an element's
    pub criterion : (t : Term K M) (f : Poly K M) → Falling o (t ∷ f) → Under frame (λ _. Unit {0}) (val o (t ∷ f)) → (j : J) × (monomial j ≡ t.1)
    criterion t f (n, a, _) u = by (core.standard frame laws L.compare_ends (val o (t ∷ f)) u)
      where
        -- a value under d is 0 at d
        gone : (d : M) {v : V K M} → Under frame (Lower o d) v → v (indicator o d) ≡ zero
        gone d = zero_at (Lower o d) (λ a b p q. L.compare_trans _ _ _ p q) (indicator o d) (λ m y. ap (pick o) y)

        by : Standard frame (λ _. Unit {0}) (val o (t ∷ f)) → (j : J) × (monomial j ≡ t.1)
        by (inl z) = absurd (n (sym (value.leading_value L t f a) ∙ ap (λ x. x (indicator o t.1)) z))
        by (inr (c, j, v, m, _, low, z)) = at (compare t.1 (monomial j)) refl
          where
            d : M
            d = monomial j

            top : times c j (indicator o d) ≡ c
            top = leads c j (indicator o d) (λ m y. ap (pick o) y) ∙ ap (λ x. c * pick o x) (L.compare_self d) ∙ calculus.times-right L c

            at : (s : Ordering) → compare t.1 d ≡ s → (j : J) × (monomial j ≡ t.1)
            at Less h = absurd (m (sym (ap (λ x. x (indicator o d)) z ∙ ap₂ ◌+◌ top (gone d low) ∙ calculus.plus-right L c)
                ∙ value.val-zero L (t ∷ f) (indicator o d) (ap (pick o) h, all_map (λ m y. ap (pick o) (L.compare_trans _ _ _ y h)) f a)))
            at Equal h = (j, sym (L.compare_same _ _ h))
            at Greater h = let q = L.compare_greater _ _ h in
                absurd (n (sym (value.leading_value L t f a) ∙ gone t.1
                (Under.more c j v q (core.under_map frame (λ m y. L.compare_trans _ _ _ y q) low) z)))
