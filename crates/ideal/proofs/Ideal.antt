-- The ideal of some polynomials: the sums of their multiples, as values, and that cofactors make each of them.
use Rattle.std.proofs.Common.{◌≡◌, suc, Bool, true, false, ◌≢◌, List, [], ◌∷◌, length, sym, refl, ap, ◌∙◌, subst, ap₂, inl, inr, arith}
use mathlib.Core.Path.{fun_ext}
use Rattle.ideal.specs.Lists.{Among, Each, Together}
use Rattle.ideal.specs.Polynomials.{Operations, Term, Poly, All, Falling, insert, sum, multiple, product, combination, difference}
use Rattle.ideal.proofs.Calculus as calculus
use Rattle.ideal.proofs.Calculus.{Laws}
use Rattle.ideal.proofs.Alls.{all_insert}
use Rattle.ideal.proofs.Value as value
use Rattle.ideal.proofs.Value.{val}

-- a linear form
abbrev pub V : Type 0 → Type 0 → Type 0
V K M = (M → K) → K

module _ {K M : Type 0} (o : Operations K M) where
  abbrev pub nil : V K M
  nil φ = o.zero

  abbrev pub join : V K M → V K M → V K M
  join f g φ = o.plus (f φ) (g φ)

  -- c·u times f
  abbrev pub act : K → M → V K M → V K M
  act c u f φ = o.times c (f (λ m. φ (o.multiply u m)))

-- a sum of multiples c·m·p with S m p
pub data Span {K M : Type 0} (o : Operations K M) (S : M → Poly K M → Type 0) : V K M → Type 0 where
  none : {f : V K M} → f ≡ nil o → Span o S f
  more : {f : V K M} (c : K) (m : M) (p : Poly K M) (v : V K M) → S m p → Span o S v → f ≡ join o (act o c m (val o p)) v → Span o S f

-- the ideal of the polynomials with N
abbrev pub Ideal : {K M : Type 0} → Operations K M → (Poly K M → Type 0) → V K M → Type 0
Ideal o N = Span o (λ m p. N p)

-- cofactors of the generators that make v, with S of their monomials
pub record Cofactors {K M : Type 0} (o : Operations K M) (S : M → Poly K M → Type 0) (generators : List (Poly K M)) (v : V K M) : Type 0 where
  pub list : List (Poly K M)
  pub fall : Each (Falling o) list
  pub one_each : length list ≡ length generators
  pub allowed : Together (λ a p. All (λ m. S m p) a) list generators
  pub value : v ≡ val o (combination o list generators)

module _ {K M : Type 0} {o : Operations K M} (L : Laws o) where
  open o use {zero, one, plus as ◌+◌, negate, times as ◌*◌, is_zero, unit, multiply as ◌▹◌}

  infixl 60 ◌+◌
  infixl 70 ◌*◌
  infixl 70 ◌▹◌
  -- values
  pub sum-value : (p q : Poly K M) → val o (sum o p q) ≡ join o (val o p) (val o q)
  sum-value p q = fun_ext (value.val-sum L p q)

  pub multiple-value : (s : Term K M) (p : Poly K M) → val o (multiple o s p) ≡ act o s.0 s.1 (val o p)
  multiple-value s p = fun_ext (value.val-multiple L s p)

  pub act-act : (c d : K) (u m : M) (f : V K M) → act o c u (act o d m f) ≡ act o (c * d) (u ▹ m) f
  act-act c d u m f = fun_ext (λ φ. sym (L.times_assoc _ _ _) ∙ ap (λ ψ. c * d * f ψ) (fun_ext (λ r. ap φ (sym (L.multiply_assoc u m r)))))

  pub act-unit : (c : K) (f : V K M) → act o c unit f ≡ (λ φ. c * f φ)
  act-unit c f = fun_ext (λ φ. ap (λ ψ. c * f ψ) (fun_ext (λ m. ap φ (L.multiply_unit m))))

  pub act_minus : (f : V K M) → act o (negate one) unit f ≡ (λ φ. negate (f φ))
  act_minus f = act-unit (negate one) f ∙ fun_ext (λ φ. calculus.negate_one L (f φ))

  pub difference-value : (p q : Poly K M) → val o (difference o p q) ≡ (λ φ. val o p φ + negate (val o q φ))
  difference-value p q = sum-value p (multiple o (negate one, unit) q)
      ∙ ap (join o (val o p)) (multiple-value (negate one, unit) q ∙ act_minus (val o q))

  -- the spans
  pub span_map : {S T : M → Poly K M → Type 0} → ((m : M) (p : Poly K M) → S m p → T m p) → {f : V K M} → Span o S f → Span o T f
  span_map h (Span.none z) = Span.none z
  span_map h (Span.more c m p v a u z) = Span.more c m p v (h m p a) (span_map h u) z

  pub span_join : {S : M → Poly K M → Type 0} {f g : V K M} → Span o S f → Span o S g → Span o S (join o f g)
  span_join {S} {g = g} (Span.none z) w = subst (Span o S) (sym (ap (λ x. join o x g) z ∙ fun_ext (λ φ. L.plus_zero _))) w
  span_join {g = g} (Span.more c m p v a u z) w =
      Span.more c m p (join o v g) a (span_join u w) (ap (λ x. join o x g) z ∙ fun_ext (λ φ. L.plus_assoc _ _ _))

  pub ideal_act : {N : Poly K M → Type 0} (c : K) (u : M) {f : V K M} → Ideal o N f → Ideal o N (act o c u f)
  ideal_act c u (Span.none z) = Span.none (ap (act o c u) z ∙ fun_ext (λ φ. calculus.times_zero L c))
  ideal_act c u (Span.more d m p v a w z) = Span.more (c * d) (u ▹ m) p (act o c u v) a (ideal_act c u w)
      (ap (act o c u) z ∙ fun_ext (λ φ. L.times_plus _ _ _ ∙ ap (λ x. x φ + act o c u v φ) (act-act c d u m (val o p))))

  pub ideal_less : {N : Poly K M → Type 0} {f g : V K M} → Ideal o N f → Ideal o N g → Ideal o N (λ φ. f φ + negate (g φ))
  ideal_less {N} {f} {g} a b = subst (λ x. Ideal o N (join o f x)) (act_minus g) (span_join a (ideal_act (negate one) unit b))

  -- polynomials of the ideal
  module _ {N : Poly K M → Type 0} where
    pub ideal_sum : (p q : Poly K M) → Ideal o N (val o p) → Ideal o N (val o q) → Ideal o N (val o (sum o p q))
    ideal_sum p q a b = subst (Ideal o N) (sym (sum-value p q)) (span_join a b)

    pub ideal_multiple : (s : Term K M) (p : Poly K M) → Ideal o N (val o p) → Ideal o N (val o (multiple o s p))
    ideal_multiple s p a = subst (Ideal o N) (sym (multiple-value s p)) (ideal_act s.0 s.1 a)

    pub ideal_product : (a p : Poly K M) → Ideal o N (val o p) → Ideal o N (val o (product o a p))
    ideal_product [] p h = Span.none refl
    ideal_product (s ∷ a) p h = ideal_sum (multiple o s p) (product o a p) (ideal_multiple s p h) (ideal_product a p h)

    pub ideal_combination : (cofactors generators : List (Poly K M)) → ((p : Poly K M) → Among p generators → Ideal o N (val o p))
        → Ideal o N (val o (combination o cofactors generators))
    ideal_combination [] generators h = Span.none refl
    ideal_combination (a ∷ cofactors) [] h = Span.none refl
    ideal_combination (a ∷ cofactors) (p ∷ generators) h = ideal_sum (product o a p) (combination o cofactors generators)
        (ideal_product a p (h p (inl refl))) (ideal_combination cofactors generators (λ q b. h q (inr b)))

    pub ideal_member : (p : Poly K M) → N p → Ideal o N (val o p)
    ideal_member p a = Span.more one unit p (nil o) a (Span.none refl)
        (fun_ext (λ φ. sym (calculus.plus-right L _ ∙ ap (λ x. x φ) (act-unit one (val o p)) ∙ L.times_one _)))

  -- an ideal lies in another if its generators do
  pub ideal_into : {N Q : Poly K M → Type 0} → ((p : Poly K M) → N p → Ideal o Q (val o p)) → {f : V K M} → Ideal o N f → Ideal o Q f
  ideal_into h (Span.none z) = Span.none z
  ideal_into {Q = Q} h (Span.more c m p v a u z) = subst (Ideal o Q) (sym z) (span_join (ideal_act c m (h p a)) (ideal_into h u))

  -- cofactors
  product_value : (a p : Poly K M) (φ : M → K) → val o (product o a p) φ ≡ val o a (λ m. val o p (λ r. φ (m ▹ r)))
  product_value [] p φ = refl
  product_value (t ∷ a) p φ = value.val-sum L (multiple o t p) (product o a p) φ ∙ ap₂ ◌+◌ (value.val-multiple L t p φ) (product_value a p φ)

  combination-value : (a p : Poly K M) (cofactors generators : List (Poly K M)) (φ : M → K)
      → val o (combination o (a ∷ cofactors) (p ∷ generators)) φ
      ≡ val o a (λ m. val o p (λ r. φ (m ▹ r))) + val o (combination o cofactors generators) φ
  combination-value a p cofactors generators φ =
      value.val-sum L (product o a p) (combination o cofactors generators) φ
      ∙ ap (λ x. x + val o (combination o cofactors generators) φ) (product_value a p φ)

  module _ (S : M → Poly K M → Type 0) where
    no_cofactors : (generators : List (Poly K M)) → Cofactors o S generators (nil o)
    no_cofactors [] = record { list = []; fall = tt; one_each = refl; allowed = tt; value = refl }
    no_cofactors (p ∷ generators) = let c = no_cofactors generators in
        record { list = [] ∷ c.list; fall = (tt, c.fall); one_each = ap suc c.one_each; allowed = (tt, c.allowed); value = c.value }

    -- one term more in the cofactor of p
    one_more : (p : Poly K M) (generators : List (Poly K M)) → Among p generators → (t : Term K M) → t.0 ≢ zero → S t.1 p
        → (cofactors : List (Poly K M)) → Each (Falling o) cofactors → length cofactors ≡ length generators
        → Together (λ a p. All (λ m. S m p) a) cofactors generators
        → Cofactors o S generators (join o (act o t.0 t.1 (val o p)) (val o (combination o cofactors generators)))
    one_more p [] x t n s cofactors f e h = absurd x
    one_more p (q ∷ generators) x t n s [] f e h = absurd (omega arith)
    one_more p (q ∷ generators) (inl z) t n s (a ∷ cofactors) (f, fs) e (h, hs) = record {
      list = insert o t a ∷ cofactors;
      fall = (value.falling_insert L t a n f, fs);
      one_each = e;
      allowed = (all_insert o (λ m. S m q) t a (subst (S t.1) z s) h, hs);
      value = fun_ext (λ φ. ap₂ (λ x y. t.0 * val o x (λ r. φ (t.1 ▹ r)) + y) z (combination-value a q cofactors generators φ)
          ∙ sym (L.plus_assoc _ _ _)
          ∙ sym (combination-value (insert o t a) q cofactors generators φ
          ∙ ap (λ x. x + val o (combination o cofactors generators) φ) (value.val-insert L t a _)));
    }
    one_more p (q ∷ generators) (inr x) t n s (a ∷ cofactors) (f, fs) e (h, hs) =
        let c = one_more p generators x t n s cofactors fs (omega arith) hs in record {
          list = a ∷ c.list;
          fall = (f, c.fall);
          one_each = ap suc c.one_each;
          allowed = (h, c.allowed);
          value = fun_ext (λ φ. ap (λ x. t.0 * val o p (λ r. φ (t.1 ▹ r)) + x) (combination-value a q cofactors generators φ)
              ∙ calculus.left_comm L _ _ _
              ∙ ap (λ x. val o a (λ m. val o q (λ r. φ (m ▹ r))) + x φ) c.value ∙ sym (combination-value a q c.list generators φ));
        }

    pub gathered : (generators : List (Poly K M)) → ((m : M) (p : Poly K M) → S m p → Among p generators) → {f : V K M} → Span o S f
        → Cofactors o S generators f
    gathered generators h (Span.none z) = subst (Cofactors o S generators) (sym z) (no_cofactors generators)
    gathered generators h {f} (Span.more c m p v a u z) = at (is_zero c) refl (gathered generators h u)
      where
        at : (b : Bool) → is_zero c ≡ b → Cofactors o S generators v → Cofactors o S generators f
        at true y x = subst (Cofactors o S generators) (sym (z ∙ fun_ext (λ φ. ap (λ d. d * val o p (λ r. φ (m ▹ r)) + v φ) (L.is_zero_true c y)
            ∙ ap (λ d. d + v φ) (calculus.zero-times L _) ∙ L.plus_zero _))) x
        at false y x = subst (Cofactors o S generators) (sym (z ∙ ap (join o (act o c m (val o p))) x.value))
            (one_more p generators (h m p a) (c, m) (L.is_zero_false c y) a x.list x.fall x.one_each x.allowed)
