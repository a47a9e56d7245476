-- Leading terms that cancel: what a turn of a division leaves, and an S-polynomial, fall and are lower.
use Rattle.std.proofs.Common.{◌≡◌, Bool, true, false, ◌∷◌, sym, refl, ap, ◌∙◌, subst, ap₂}
use Rattle.ideal.specs.Polynomials.{Operations, Term, Poly, Element, whole, leading_coefficient, leading_monomial, All, Lower, Falling, unless_zero, place, insert, sum, multiple}
use Rattle.ideal.specs.Dividing.{reduced, s_polynomial}
use Rattle.ideal.proofs.Calculus as calculus
use Rattle.ideal.proofs.Calculus.{Laws}
use Rattle.ideal.proofs.Alls.{all-sum, all-multiple}
use Rattle.ideal.proofs.Value as value
use Rattle.ideal.proofs.Heads.{sum_later}

module _ {K M : Type 0} {o : Operations K M} (L : Laws o) where
  open o use {zero, one, plus as ◌+◌, negate, times as ◌*◌, inverse, is_zero, multiply as ◌▹◌, to_lcm, compare}

  infixl 60 ◌+◌
  infixl 70 ◌*◌
  infixl 70 ◌▹◌
  zero_is : (a : K) → a ≡ zero → is_zero a ≡ true
  zero_is a z = at (is_zero a) refl
    where
      at : (b : Bool) → is_zero a ≡ b → b ≡ true
      at true h = refl
      at false h = absurd (L.is_zero_false a h z)

  -- two leading terms at d that cancel
  cancelled : (d : M) (s t : Term K M) (p q : Poly K M) → s.1 ≡ d → t.1 ≡ d → s.0 + t.0 ≡ zero
      → All (Lower o d) p → All (Lower o d) q → All (Lower o d) (sum o (s ∷ p) (t ∷ q))
  cancelled d s t p q a b z x y = subst (All (Lower o d)) (sym gone) (all-sum o (Lower o d) p q x y)
    where
      gone : sum o (s ∷ p) (t ∷ q) ≡ sum o p q
      gone = ap (insert o s) (sum_later o p q t (subst (λ m. All (Lower o m) p) (sym b) x))
          ∙ ap (λ e. place o e s t (sum o p q) (insert o s (sum o p q))) (ap₂ compare a b ∙ L.compare_self d)
          ∙ ap (λ e. unless_zero o e (s.0 + t.0) t.1 (sum o p q)) (zero_is _ z)

  -- the rest of a multiple is lower than its leading monomial d
  pub rest_lower : (g : Element K M) → Falling o (whole g) → (c : K) (s d : M) → s ▹ leading_monomial g ≡ d
      → All (Lower o d) (multiple o (c, s) g.1)
  rest_lower g h c s d e = all-multiple o (Lower o (leading_monomial g)) (Lower o d) (c, s)
      (λ m y. ap (compare (s ▹ m)) (sym e) ∙ L.compare_translate s _ _ ∙ y) g.1 h.1

  pub reduced_lower : (t : Term K M) (f : Poly K M) (g : Element K M) (s : M) → Falling o (t ∷ f) → Falling o (whole g)
      → s ▹ leading_monomial g ≡ t.1 → All (Lower o t.1) (reduced o t f g s)
  reduced_lower t f g s (n, a, _) h e =
      cancelled t.1 (c * leading_coefficient g, s ▹ leading_monomial g) t (multiple o (c, s) g.1) f e refl
      (ap (λ x. x + t.0) (calculus.negate-times L _ _ ∙ ap negate quotient) ∙ L.plus_comm _ _ ∙ L.plus_negate _)
      (rest_lower g h c s t.1 e) a
    where
      c : K
      c = negate (t.0 * inverse (leading_coefficient g))

      quotient : t.0 * inverse (leading_coefficient g) * leading_coefficient g ≡ t.0
      quotient = L.times_assoc _ _ _ ∙ ap (λ x. t.0 * x) (calculus.inverse-times L _ h.0) ∙ calculus.times-right L _

  pub falling_reduced : (t : Term K M) (f : Poly K M) (g : Element K M) (s : M) → Falling o (t ∷ f) → Falling o (whole g)
      → Falling o (reduced o t f g s)
  falling_reduced t f g s p h =
      let n = calculus.negate_nonzero L _ (calculus.times_nonzero L _ _ p.0 (calculus.inverse_nonzero L _ h.0)) in
      value.falling_sum L (multiple o (_, s) (whole g)) (t ∷ f) (value.falling_multiple L (_, s) (whole g) n h) p

  module _ (g h : Element K M) (p : Falling o (whole g)) (q : Falling o (whole h)) where
    abbrev a : M
    a = leading_monomial g

    abbrev b : M
    b = leading_monomial h

    pub s_polynomial_lower : All (Lower o (to_lcm a b ▹ a)) (s_polynomial o g h)
    s_polynomial_lower =
        cancelled (to_lcm a b ▹ a) (inverse (leading_coefficient g) * leading_coefficient g, to_lcm a b ▹ a)
        (negate (inverse (leading_coefficient h)) * leading_coefficient h, to_lcm b a ▹ b)
        (multiple o (inverse (leading_coefficient g), to_lcm a b) g.1) (multiple o (negate (inverse (leading_coefficient h)), to_lcm b a) h.1)
        refl (sym (L.lcm_meets a b))
        (ap₂ ◌+◌ (calculus.inverse-times L _ p.0) (calculus.negate-times L _ _ ∙ ap negate (calculus.inverse-times L _ q.0))
        ∙ L.plus_negate one)
        (rest_lower g p _ (to_lcm a b) _ refl) (rest_lower h q _ (to_lcm b a) _ (sym (L.lcm_meets a b)))

    pub falling_s_polynomial : Falling o (s_polynomial o g h)
    falling_s_polynomial = value.falling_sum L (multiple o (_, to_lcm a b) (whole g)) (multiple o (_, to_lcm b a) (whole h))
        (value.falling_multiple L (_, to_lcm a b) (whole g) (calculus.inverse_nonzero L _ p.0) p)
        (value.falling_multiple L (_, to_lcm b a) (whole h) (calculus.negate_nonzero L _ (calculus.inverse_nonzero L _ q.0)) q)
