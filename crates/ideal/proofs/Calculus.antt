-- The laws that the theory is proved from, and what follows for coefficients at once.
use Rattle.std.proofs.Common.{◌≡◌, true, false, ◌≢◌, Some, Less, Equal, Greater, sym, ap, ◌∙◌, ap₂}
use mathlib.Core.WellFounded.{Acc}
use Rattle.ideal.specs.Polynomials.{Operations}

pub record Laws {K M : Type 0} (o : Operations K M) : Type 0 where
  pub plus_comm : (a b : K) → o.plus a b ≡ o.plus b a
  pub plus_assoc : (a b c : K) → o.plus (o.plus a b) c ≡ o.plus a (o.plus b c)
  pub plus_zero : (a : K) → o.plus o.zero a ≡ a
  pub plus_negate : (a : K) → o.plus a (o.negate a) ≡ o.zero
  pub times_comm : (a b : K) → o.times a b ≡ o.times b a
  pub times_assoc : (a b c : K) → o.times (o.times a b) c ≡ o.times a (o.times b c)
  pub times_one : (a : K) → o.times o.one a ≡ a
  pub times_plus : (a b c : K) → o.times a (o.plus b c) ≡ o.plus (o.times a b) (o.times a c)
  pub times_inverse : (a : K) → a ≢ o.zero → o.times a (o.inverse a) ≡ o.one
  pub one_nonzero : o.one ≢ o.zero
  pub is_zero_true : (a : K) → o.is_zero a ≡ true → a ≡ o.zero
  pub is_zero_false : (a : K) → o.is_zero a ≡ false → a ≢ o.zero
  pub multiply_comm : (a b : M) → o.multiply a b ≡ o.multiply b a
  pub multiply_assoc : (a b c : M) → o.multiply (o.multiply a b) c ≡ o.multiply a (o.multiply b c)
  pub multiply_unit : (a : M) → o.multiply o.unit a ≡ a
  pub quotient_some : (b a s : M) → o.quotient b a ≡ Some s → o.multiply s a ≡ b
  pub quotient_multiply : (s a : M) → o.quotient (o.multiply s a) a ≡ Some s
  pub lcm_meets : (a b : M) → o.multiply (o.to_lcm a b) a ≡ o.multiply (o.to_lcm b a) b
  pub lcm_least : (a b s t : M) → o.multiply s a ≡ o.multiply t b
      → (u : M) × (s ≡ o.multiply u (o.to_lcm a b)) × (t ≡ o.multiply u (o.to_lcm b a))
  pub compare_self : (a : M) → o.compare a a ≡ Equal
  pub compare_same : (a b : M) → o.compare a b ≡ Equal → a ≡ b
  pub compare_greater : (a b : M) → o.compare a b ≡ Greater → o.compare b a ≡ Less
  pub compare_less : (a b : M) → o.compare a b ≡ Less → o.compare b a ≡ Greater
  pub compare_trans : (a b c : M) → o.compare a b ≡ Less → o.compare b c ≡ Less → o.compare a c ≡ Less
  pub compare_translate : (m a b : M) → o.compare (o.multiply m a) (o.multiply m b) ≡ o.compare a b
  pub compare_unit : (a : M) → a ≢ o.unit → o.compare o.unit a ≡ Less
  pub compare_ends : (a : M) → Acc (λ x y. o.compare x y ≡ Less) a

module _ {K M : Type 0} {o : Operations K M} (L : Laws o) where
  open o use {zero, one, plus as ◌+◌, negate, times as ◌*◌, inverse}

  infixl 60 ◌+◌
  infixl 70 ◌*◌
  pub plus-right : (a : K) → a + zero ≡ a
  plus-right a = L.plus_comm _ _ ∙ L.plus_zero a

  pub left_comm : (a b c : K) → a + (b + c) ≡ b + (a + c)
  left_comm a b c = sym (L.plus_assoc a b c) ∙ ap (λ x. x + c) (L.plus_comm a b) ∙ L.plus_assoc b a c

  pub cancel : (a b c : K) → a + b ≡ a + c → b ≡ c
  cancel a b c e = back b ∙ ap (λ x. negate a + x) e ∙ sym (back c)
    where
      back : (x : K) → x ≡ negate a + (a + x)
      back x = sym (L.plus_zero x) ∙ ap (λ y. y + x) (sym (L.plus_negate a) ∙ L.plus_comm _ _) ∙ L.plus_assoc _ _ _

  pub times_zero : (a : K) → a * zero ≡ zero
  times_zero a = cancel (a * zero) _ _ (sym (L.times_plus a zero zero) ∙ ap (λ x. a * x) (L.plus_zero zero) ∙ sym (plus-right _))

  pub zero-times : (a : K) → zero * a ≡ zero
  zero-times a = L.times_comm _ _ ∙ times_zero a

  pub times-right : (a : K) → a * o.one ≡ a
  times-right a = L.times_comm _ _ ∙ L.times_one a

  pub plus_times : (a b c : K) → (a + b) * c ≡ a * c + b * c
  plus_times a b c = L.times_comm _ _ ∙ L.times_plus c a b ∙ ap₂ ◌+◌ (L.times_comm _ _) (L.times_comm _ _)

  pub negate-times : (a b : K) → negate a * b ≡ negate (a * b)
  negate-times a b = cancel (a * b) _ _ (sym (plus_times a (negate a) b) ∙ ap (λ x. x * b) (L.plus_negate a) ∙ zero-times b
      ∙ sym (L.plus_negate (a * b)))

  pub negate_one : (a : K) → negate one * a ≡ negate a
  negate_one a = negate-times one a ∙ ap negate (L.times_one a)

  pub inverse-times : (a : K) → a ≢ zero → inverse a * a ≡ one
  inverse-times a n = L.times_comm _ _ ∙ L.times_inverse a n

  -- differences
  pub undo : (a b : K) → (a + b) + negate a ≡ b
  undo a b = L.plus_comm _ _ ∙ sym (L.plus_assoc _ _ _) ∙ ap (λ x. x + b) (L.plus_comm _ _ ∙ L.plus_negate a) ∙ L.plus_zero b

  pub equal : (a b : K) → a + negate b ≡ zero → a ≡ b
  equal a b h = cancel (negate b) a b (L.plus_comm _ _ ∙ h ∙ sym (L.plus_negate b) ∙ L.plus_comm _ _)

  negate-plus : (a b : K) → negate (a + b) ≡ negate a + negate b
  negate-plus a b = cancel (a + b) _ _ (L.plus_negate _ ∙ sym (ap (λ x. a + b + x) (L.plus_comm _ _) ∙ L.plus_assoc a b _
      ∙ ap (λ x. a + x) (sym (L.plus_assoc b _ _) ∙ ap (λ x. x + negate a) (L.plus_negate b) ∙ L.plus_zero _) ∙ L.plus_negate a))

  pub apart : (a b c d : K) → (a + b) + negate (c + d) ≡ (a + negate c) + (b + negate d)
  apart a b c d = ap (λ x. a + b + x) (negate-plus c d) ∙ L.plus_assoc _ _ _ ∙ ap (λ x. a + x) (left_comm _ _ _) ∙ sym (L.plus_assoc _ _ _)

  pub regroup : (c a b : K) → c * a ≡ c * b + c * (a + negate b)
  regroup c a b = ap (λ x. c * x) (sym (undo b a) ∙ L.plus_assoc _ _ _) ∙ L.times_plus _ _ _

  -- no two coefficients but 0 have the product 0
  pub times_nonzero : (a b : K) → a ≢ zero → b ≢ zero → a * b ≢ zero
  times_nonzero a b p q z =
      p (sym (times-right a) ∙ ap (λ x. a * x) (sym (L.times_inverse b q)) ∙ sym (L.times_assoc a b _) ∙ ap (λ x. x * inverse b) z ∙ zero-times _)

  pub negate_nonzero : (a : K) → a ≢ zero → negate a ≢ zero
  negate_nonzero a p z = p (sym (plus-right a) ∙ ap (λ x. a + x) (sym z) ∙ L.plus_negate a)

  pub inverse_nonzero : (a : K) → a ≢ zero → inverse a ≢ zero
  inverse_nonzero a p z = L.one_nonzero (sym (L.times_inverse a p) ∙ ap (λ x. a * x) z ∙ times_zero a)
