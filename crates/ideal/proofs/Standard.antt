-- The core of Buchberger's criterion, with no polynomial in it: a sum of multiples is led by one of them.
use Rattle.std.proofs.Common.{◌≡◌, ◌≢◌, ◌⊎◌, Ordering, Less, Equal, Greater, sym, refl, ap, ◌∙◌, subst, ap₂, inl, inr}
use mathlib.Core.WellFounded.{Acc}

-- K coefficients, M monomials, V values, J multiples: `times c j` is c times the multiple j, which leads at `monomial j`
pub record Frame (K M V J : Type 0) : Type 0 where
  pub zero : K
  pub plus : K → K → K
  pub nil : V
  pub join : V → V → V
  pub monomial : J → M
  pub times : K → J → V
  pub compare : M → M → Ordering

module _ {K M V J : Type 0} (F : Frame K M V J) where
  open F use {zero, plus, nil, join as ◌⊕◌, monomial, times, compare}

  infixr 60 ◌⊕◌
  abbrev pub Lower : M → M → Type 0
  Lower d m = compare m d ≡ Less

  -- a sum of multiples that lead at monomials with P
  pub data Under (P : M → Type 0) : V → Type 0 where
    none : {f : V} → f ≡ nil → Under P f
    more : {f : V} (c : K) (j : J) (v : V) → P (monomial j) → Under P v → f ≡ times c j ⊕ v → Under P f

  -- two multiples that lead at one monomial differ by something lower
  pub record Laws : Type 0 where
    pub join_assoc : (u v w : V) → (u ⊕ v) ⊕ w ≡ u ⊕ (v ⊕ w)
    pub join_comm : (u v : V) → u ⊕ v ≡ v ⊕ u
    pub join_nil : (v : V) → nil ⊕ v ≡ v
    pub times_plus : (c d : K) (j : J) → times (plus c d) j ≡ times c j ⊕ times d j
    pub times_zero : (j : J) → times zero j ≡ nil
    pub zero? : (c : K) → Dec (c ≡ zero)
    pub compare_same : (a b : M) → compare a b ≡ Equal → a ≡ b
    pub compare_greater : (a b : M) → compare a b ≡ Greater → compare b a ≡ Less
    pub compare_trans : (a b c : M) → compare a b ≡ Less → compare b c ≡ Less → compare a c ≡ Less
    pub exchange : (c : K) (j k : J) → monomial j ≡ monomial k → (w : V) × Under (Lower (monomial k)) w × (times c j ≡ times c k ⊕ w)

  -- f is 0, or has one multiple on top of lower ones
  abbrev pub Standard : (M → Type 0) → V → Type 0
  Standard P f = (f ≡ nil) ⊎ ((c : K) × (j : J) × (v : V) × (c ≢ zero) × P (monomial j) × Under (Lower (monomial j)) v × (f ≡ times c j ⊕ v))

  pub under_map : {P Q : M → Type 0} {f : V} → ((m : M) → P m → Q m) → Under P f → Under Q f
  under_map h (none z) = none z
  under_map h (more c j v p u z) = more c j v (h _ p) (under_map h u) z

  module _ (L : Laws) where
    under_join : {P : M → Type 0} {f g : V} → Under P f → Under P g → Under P (f ⊕ g)
    under_join {g = g} (none z) w = subst (Under _) (sym (ap (λ x. x ⊕ g) z ∙ L.join_nil g)) w
    under_join {g = g} (more c j v p u z) w = more c j (v ⊕ g) p (under_join u w) (ap (λ x. x ⊕ g) z ∙ L.join_assoc _ _ _)

    left_comm : (u v w : V) → u ⊕ (v ⊕ w) ≡ v ⊕ (u ⊕ w)
    left_comm u v w = sym (L.join_assoc u v w) ∙ ap (λ x. x ⊕ w) (L.join_comm u v) ∙ L.join_assoc v u w

    -- two multiples that lead at one monomial, on top of w
    merged : (c d : K) (j l : J) (v w x : V) → v ≡ times d l ⊕ w → times c j ≡ times c l ⊕ x → times c j ⊕ v ≡ times (plus c d) l ⊕ (x ⊕ w)
    merged c d j l v w x p q = ap₂ ◌⊕◌ q p ∙ L.join_assoc _ _ _ ∙ ap (λ y. times c l ⊕ y) (left_comm x (times d l) w) ∙ sym (L.join_assoc _ _ _)
        ∙ ap (λ y. y ⊕ (x ⊕ w)) (sym (L.times_plus c d l))

    module _ (P : M → Type 0) (down : (a b : M) → Lower b a → P b → P a)
        (ih : (j : J) (g : V) → P (monomial j) → Under (Lower (monomial j)) g → Standard (Lower (monomial j)) g) where
      weaker : (d : M) (f : V) → P d → Standard (Lower d) f → Standard P f
      weaker d f p (inl z) = inl z
      weaker d f p (inr (c, j, v, n, q, u, z)) = inr (c, j, v, n, down _ _ q p, u, z)

      -- a multiple on top of a standard value
      add_one : (c : K) (j : J) (v : V) → P (monomial j) → Standard P v → Standard P (times c j ⊕ v)
      add_one c j v p s = elim (L.zero? c) [
        | yes k ↦ subst (Standard P) (sym (ap (λ x. times x j ⊕ v) k ∙ ap (λ x. x ⊕ v) (L.times_zero j) ∙ L.join_nil v)) s
        | no k ↦ with_c k s
      ]
        where
          with_c : c ≢ zero → Standard P v → Standard P (times c j ⊕ v)
          with_c k (inl z) = inr (c, j, v, k, p, none z, refl)
          with_c k (inr (d, l, w, n, q, u, z)) = at (compare (monomial j) (monomial l)) refl
            where
              at : (s : Ordering) → compare (monomial j) (monomial l) ≡ s → Standard P (times c j ⊕ v)
              at Less h = inr (d, l, times c j ⊕ w, n, q, more c j w h u refl, ap (λ x. times c j ⊕ x) z ∙ left_comm _ _ _)
              at Equal h = let (x, ux, ex) = L.exchange c j l (L.compare_same _ _ h) in
                  let e = merged c d j l v w x z ex in
                  elim (L.zero? (plus c d)) [
                    | no t ↦ inr (plus c d, l, x ⊕ w, t, q, under_join ux u, e)
                    | yes t ↦ subst (Standard P) (sym (e ∙ ap (λ y. times y l ⊕ (x ⊕ w)) t ∙ ap (λ y. y ⊕ (x ⊕ w)) (L.times_zero l) ∙ L.join_nil _))
                        (weaker (monomial l) (x ⊕ w) q (ih l (x ⊕ w) q (under_join ux u)))
                  ]
              at Greater h = let low = L.compare_greater _ _ h in
                  inr (c, j, v, k, p, more d l w low (under_map (λ m y. L.compare_trans _ _ _ y low) u) z, refl)

      every : {f : V} → Under P f → Standard P f
      every (none z) = inl z
      every (more c j v p u z) = subst (Standard P) (sym z) (add_one c j v p (every u))

    below : (d : M) → Acc (λ a b. compare a b ≡ Less) d → (f : V) → Under (Lower d) f → Standard (Lower d) f
    below d (Acc.intro d' h) f u = every (Lower d) (λ a b p q. L.compare_trans a b d p q) (λ j g p. below (monomial j) (h (monomial j) p) g) u

    pub standard : ((d : M) → Acc (λ a b. compare a b ≡ Less) d) → (f : V) → Under (λ _. Unit {0}) f → Standard (λ _. Unit {0}) f
    standard ends f u = every (λ _. Unit {0}) (λ a b p q. tt) (λ j g p. below (monomial j) (ends (monomial j)) g) u
