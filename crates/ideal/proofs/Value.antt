-- What a polynomial stands for, a linear form on the functions from monomials to coefficients, and that this and the coefficients determine it.
use Rattle.std.proofs.Common.{◌≡◌, Bool, true, false, ◌≢◌, [], ◌∷◌, Ordering, Less, Equal, Greater, sym, refl, ap, ◌∙◌, subst, ap₂}
use Rattle.ideal.specs.Polynomials.{Operations, Term, Poly, All, Lower, Falling, here, coefficient, unless_zero, place, insert, sum, multiple}
use Rattle.ideal.proofs.Calculus as calculus
use Rattle.ideal.proofs.Calculus.{Laws}
use Rattle.ideal.proofs.Alls.{all_map, all_insert, all-multiple}

module _ {K M : Type 0} (o : Operations K M) where
  -- the value at a function
  abbrev pub val : Poly K M → (M → K) → K
  val [] φ = o.zero
  val (t ∷ p) φ = o.plus (o.times t.0 (φ t.1)) (val p φ)

  abbrev pub pick : Ordering → K
  pick Less = o.zero
  pick Equal = o.one
  pick Greater = o.zero

  -- one at the monomial d, and 0 elsewhere
  abbrev pub indicator : M → M → K
  indicator d m = pick (o.compare m d)

module _ {K M : Type 0} {o : Operations K M} (L : Laws o) where
  open o use {zero, plus as ◌+◌, times as ◌*◌, is_zero, multiply as ◌▹◌, compare}

  infixl 60 ◌+◌
  infixl 70 ◌*◌
  infixl 70 ◌▹◌
  -- the value of what is computed
  val-unless_zero : (b : Bool) (c : K) (m : M) (q : Poly K M) (φ : M → K) → is_zero c ≡ b → val o (unless_zero o b c m q) φ ≡ c * φ m + val o q φ
  val-unless_zero true c m q φ h =
      sym (ap (λ x. x * φ m + val o q φ) (L.is_zero_true c h) ∙ ap (λ x. x + val o q φ) (calculus.zero-times L _) ∙ L.plus_zero _)
  val-unless_zero false c m q φ h = refl

  pub val-insert : (s : Term K M) (q : Poly K M) (φ : M → K) → val o (insert o s q) φ ≡ s.0 * φ s.1 + val o q φ
  val-insert s [] φ = refl
  val-insert s (t ∷ q) φ = at (compare s.1 t.1) refl (val-insert s q φ)
    where
      at : (d : Ordering) → compare s.1 t.1 ≡ d → val o (insert o s q) φ ≡ s.0 * φ s.1 + val o q φ
          → val o (place o d s t q (insert o s q)) φ ≡ s.0 * φ s.1 + val o (t ∷ q) φ
      at Less h e = ap (λ x. t.0 * φ t.1 + x) e ∙ calculus.left_comm L _ _ _
      at Equal h e =
          val-unless_zero (is_zero (s.0 + t.0)) _ t.1 q φ refl ∙ ap (λ x. x + val o q φ) (calculus.plus_times L _ _ _) ∙ L.plus_assoc _ _ _
          ∙ ap (λ x. s.0 * φ x + val o (t ∷ q) φ) (sym (L.compare_same _ _ h))
      at Greater h e = refl

  pub val-sum : (p q : Poly K M) (φ : M → K) → val o (sum o p q) φ ≡ val o p φ + val o q φ
  val-sum [] q φ = sym (L.plus_zero _)
  val-sum (s ∷ p) q φ = val-insert s (sum o p q) φ ∙ ap (λ x. s.0 * φ s.1 + x) (val-sum p q φ) ∙ sym (L.plus_assoc _ _ _)

  pub val-multiple : (s : Term K M) (p : Poly K M) (φ : M → K) → val o (multiple o s p) φ ≡ s.0 * val o p (λ m. φ (s.1 ▹ m))
  val-multiple s [] φ = sym (calculus.times_zero L s.0)
  val-multiple s (t ∷ p) φ = ap₂ ◌+◌ (L.times_assoc _ _ _) (val-multiple s p φ) ∙ sym (L.times_plus _ _ _)

  pub val-zero : (p : Poly K M) (φ : M → K) → All (λ m. φ m ≡ zero) p → val o p φ ≡ zero
  val-zero [] φ a = refl
  val-zero (t ∷ p) φ (h, a) = ap₂ ◌+◌ (ap (λ x. t.0 * x) h ∙ calculus.times_zero L _) (val-zero p φ a) ∙ L.plus_zero _

  -- what is computed falls
  falling_unless_zero : (b : Bool) (c : K) (m : M) (q : Poly K M)
      → is_zero c ≡ b → All (Lower o m) q → Falling o q → Falling o (unless_zero o b c m q)
  falling_unless_zero true c m q h a f = f
  falling_unless_zero false c m q h a f = (L.is_zero_false c h, a, f)

  pub falling_insert : (s : Term K M) (q : Poly K M) → s.0 ≢ zero → Falling o q → Falling o (insert o s q)
  falling_insert s [] n f = (n, tt, tt)
  falling_insert s (t ∷ q) n (k, a, f) = at (compare s.1 t.1) refl (falling_insert s q n f)
    where
      at : (d : Ordering) → compare s.1 t.1 ≡ d → Falling o (insert o s q) → Falling o (place o d s t q (insert o s q))
      at Less h r = (k, all_insert o (Lower o t.1) s q h a, r)
      at Equal h r = falling_unless_zero (is_zero (s.0 + t.0)) _ t.1 q refl a f
      at Greater h r = let low = L.compare_greater _ _ h in (n, (low, all_map (λ m y. L.compare_trans _ _ _ y low) q a), (k, a, f))

  pub falling_sum : (p q : Poly K M) → Falling o p → Falling o q → Falling o (sum o p q)
  falling_sum [] q f g = g
  falling_sum (s ∷ p) q (n, a, f) g = falling_insert s (sum o p q) n (falling_sum p q f g)

  pub falling_multiple : (s : Term K M) (p : Poly K M) → s.0 ≢ zero → Falling o p → Falling o (multiple o s p)
  falling_multiple s [] n f = tt
  falling_multiple s (t ∷ p) n (k, a, f) = (
    calculus.times_nonzero L _ _ n k,
    all-multiple o (Lower o t.1) (Lower o (s.1 ▹ t.1)) s (λ m h. L.compare_translate s.1 _ _ ∙ h) p a,
    falling_multiple s p n f,
  )

  -- a polynomial is determined by its value
  pub leading_value : (t : Term K M) (p : Poly K M) → All (Lower o t.1) p → val o (t ∷ p) (indicator o t.1) ≡ t.0
  leading_value t p a =
      ap₂ ◌+◌ (ap (λ x. t.0 * pick o x) (L.compare_self _) ∙ calculus.times-right L _)
      (val-zero p (indicator o t.1) (all_map (λ m y. ap (pick o) y) p a)) ∙ calculus.plus-right L _

  pub canonical : (p q : Poly K M) → Falling o p → Falling o q → ((d : M) → val o p (indicator o d) ≡ val o q (indicator o d)) → p ≡ q
  canonical [] [] f g h = refl
  canonical [] (t ∷ q) f (n, a, g) h = absurd (n (sym (leading_value t q a) ∙ sym (h _)))
  canonical (s ∷ p) [] (n, a, f) g h = absurd (n (sym (leading_value s p a) ∙ h _))
  canonical (s ∷ p) (t ∷ q) (n, a, f) (m, b, g) h = at (compare s.1 t.1) refl (canonical p q f g)
    where
      -- a polynomial that leads below d has the value 0 at d
      below : (d : M) (x : Term K M) (l : Poly K M) → Lower o d x.1 → All (Lower o x.1) l → val o (x ∷ l) (indicator o d) ≡ zero
      below d x l y b = val-zero (x ∷ l) (indicator o d) (ap (pick o) y, all_map (λ r z. ap (pick o) (L.compare_trans _ _ _ z y)) l b)

      at : (d : Ordering) → compare s.1 t.1 ≡ d → (((d : M) → val o p (indicator o d) ≡ val o q (indicator o d)) → p ≡ q) → s ∷ p ≡ t ∷ q
      at Less y ih = absurd (m (sym (leading_value t q b) ∙ sym (h _) ∙ below t.1 s p y a))
      at Equal y ih = λ i. (c i, r i) ∷ ih
          (λ d. calculus.cancel L _ _ _ (h d ∙ ap₂ (λ x z. x * indicator o d z + val o q (indicator o d)) (sym c) (sym r))) i
        where
          r : s.1 ≡ t.1
          r = L.compare_same _ _ y

          c : s.0 ≡ t.0
          c = sym (leading_value s p a) ∙ h _ ∙ ap (λ x. val o (t ∷ q) (indicator o x)) r ∙ leading_value t q b
      at Greater y ih = absurd (n (sym (leading_value s p a) ∙ h _ ∙ below s.1 t q (L.compare_greater _ _ y) b))

  pub known : (p q : Poly K M) → Falling o p → Falling o q → ((φ : M → K) → val o p φ ≡ val o q φ) → p ≡ q
  known p q f g h = canonical p q f g (λ d. h (indicator o d))

  -- the coefficients
  pub coefficient-val : (p : Poly K M) → Falling o p → (m : M) → coefficient o p m ≡ val o p (indicator o m)
  coefficient-val [] f m = refl
  coefficient-val (t ∷ p) (n, a, f) m = at (compare t.1 m) refl (coefficient-val p f m)
    where
      later : coefficient o p m ≡ val o p (indicator o m) → coefficient o p m ≡ t.0 * zero + val o p (indicator o m)
      later e = e ∙ sym (ap (λ x. x + val o p (indicator o m)) (calculus.times_zero L _) ∙ L.plus_zero _)

      at : (d : Ordering) → compare t.1 m ≡ d → coefficient o p m ≡ val o p (indicator o m)
          → here o d t.0 (coefficient o p m) ≡ t.0 * pick o d + val o p (indicator o m)
      at Less h e = later e
      at Equal h e =
          sym (ap₂ ◌+◌ (calculus.times-right L _)
          (val-zero p (indicator o m) (all_map (λ r y. ap (pick o) (subst (λ x. compare r x ≡ Less) (L.compare_same _ _ h) y)) p a)) ∙ calculus.plus-right L _)
      at Greater h e = later e

  pub coefficient-sum : (p q : Poly K M) → Falling o p → Falling o q → (m : M) → coefficient o (sum o p q) m ≡ coefficient o p m + coefficient o q m
  coefficient-sum p q f g m =
      coefficient-val (sum o p q) (falling_sum p q f g) m ∙ val-sum p q (indicator o m)
      ∙ sym (ap₂ ◌+◌ (coefficient-val p f m) (coefficient-val q g m))

  pub coefficient_same : (p q : Poly K M) → Falling o p → Falling o q → ((m : M) → coefficient o p m ≡ coefficient o q m) → p ≡ q
  coefficient_same p q f g h = canonical p q f g (λ m. sym (coefficient-val p f m) ∙ h m ∙ coefficient-val q g m)

  -- a multiple has p's coefficients, times one, at the multiples of one monomial
  pub coefficient-multiple : (s : Term K M) (p : Poly K M) (m : M) → coefficient o (multiple o s p) (s.1 ▹ m) ≡ s.0 * coefficient o p m
  coefficient-multiple s [] m = sym (calculus.times_zero L _)
  coefficient-multiple s (t ∷ p) m =
      ap (λ d. here o d (s.0 * t.0) (coefficient o (multiple o s p) (s.1 ▹ m))) (L.compare_translate s.1 t.1 m)
      ∙ at (compare t.1 m) (coefficient-multiple s p m)
    where
      at : (d : Ordering) → coefficient o (multiple o s p) (s.1 ▹ m) ≡ s.0 * coefficient o p m
          → here o d (s.0 * t.0) (coefficient o (multiple o s p) (s.1 ▹ m)) ≡ s.0 * here o d t.0 (coefficient o p m)
      at Less e = e
      at Equal e = refl
      at Greater e = e

  -- and 0 at every other monomial
  pub coefficient-elsewhere : (s : Term K M) (p : Poly K M) (d : M) → ((m : M) → d ≢ s.1 ▹ m) → coefficient o (multiple o s p) d ≡ zero
  coefficient-elsewhere s [] d h = refl
  coefficient-elsewhere s (t ∷ p) d h = at (compare (s.1 ▹ t.1) d) refl (coefficient-elsewhere s p d h)
    where
      at : (x : Ordering) → compare (s.1 ▹ t.1) d ≡ x → coefficient o (multiple o s p) d ≡ zero
          → here o x (s.0 * t.0) (coefficient o (multiple o s p) d) ≡ zero
      at Less y e = e
      at Equal y e = absurd (h t.1 (sym (L.compare_same _ _ y)))
      at Greater y e = e

  -- adding one polynomial after another is adding their sum
  pub sum-after : (p q f : Poly K M) → Falling o p → Falling o q → Falling o f → sum o q (sum o p f) ≡ sum o (sum o p q) f
  sum-after p q f x y z = known _ _ (falling_sum q (sum o p f) y (falling_sum p f x z)) (falling_sum (sum o p q) f (falling_sum p q x y) z)
      (λ φ. val-sum q (sum o p f) φ ∙ ap (λ v. val o q φ + v) (val-sum p f φ) ∙ calculus.left_comm L _ _ _
      ∙ sym (val-sum (sum o p q) f φ ∙ ap (λ v. v + val o f φ) (val-sum p q φ) ∙ L.plus_assoc _ _ _))
