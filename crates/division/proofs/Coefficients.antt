-- What the field answers on codes. Assumes nothing.
use Rattle.std.proofs.Common.{◌≡◌, ℕ, zero, suc, ◌<◌, Bool, true, false, cond, ◌&&◌, ltb, ◌≢◌, Some, None, Option, sym, refl, ap, ◌∙◌, arith}
use Rattle.std.proofs.lemmas.Bool.{lt-ltb, ltb-true, and_parts, and_from, and_right}
use Rattle.field.specs.Fields.{Arithmetic, FieldLaws, unary, binary, inverted}
use Rattle.division.specs.Coefficients.{opposite_inverse, opposite_quotient}

-- an answer under a test
answer : {A : Type 0} (t : Bool) (x y : A) → Some y ≡ cond t (Some x) None → (t ≡ true) × (y ≡ x)
answer true x y e = (refl, cc)
answer false x y e = cc

no_answer : {A : Type 0} (t : Bool) (x : A) → None ≡ cond t (Some x) None → t ≡ false
no_answer true x e = cc
no_answer false x e = refl

under : {A : Type 0} (t : Bool) (x : A) → t ≡ true → cond t (Some x) None ≡ Some x
under t x e = ap (λ t. cond t (Some x) None) e

module _ {k : Arithmetic} (F : FieldLaws k) where
  -- a and b are codes, b is not 0
  pub is_code : (a : ℕ) → a < k.size → ltb a k.size ≡ true
  is_code a h = lt-ltb a k.size h

  pub nonzero : (b : ℕ) → b < k.size → b ≢ 0 → (ltb 0 b && ltb b k.size) ≡ true
  nonzero b h z = and_from (ltb 0 b) (ltb b k.size) (lt-ltb 0 b (positive b z)) (is_code b h)
    where
      positive : (b : ℕ) → b ≢ 0 → 0 < b
      positive zero z = absurd (z refl)
      positive (suc b) z = omega arith

  pub inverse_at : (b : ℕ) → b < k.size → b ≢ 0 → inverted k.size k.inverse b ≡ Some (k.inverse b)
  inverse_at b h z = under (ltb 0 b && ltb b k.size) (k.inverse b) (nonzero b h z)

  pub opposite_inverse_at : (b : ℕ) → b < k.size → b ≢ 0 → inverted k.size (opposite_inverse k) b ≡ Some (k.opposite (k.inverse b))
  opposite_inverse_at b h z = under (ltb 0 b && ltb b k.size) (opposite_inverse k b) (nonzero b h z)

  pub opposite_quotient_at : (a b : ℕ) → a < k.size → b < k.size → b ≢ 0 → opposite_quotient k a b ≡ Some (k.opposite (k.product a (k.inverse b)))
  opposite_quotient_at a b l h z = under ((ltb 0 b && ltb b k.size) && ltb a k.size) (k.opposite (k.product a (k.inverse b)))
      (and_from (ltb 0 b && ltb b k.size) (ltb a k.size) (nonzero b h z) (is_code a l))

  -- i is what the field answers for the inverse of b
  module _ (b i : ℕ) (e : Some i ≡ inverted k.size k.inverse b) where
    fits : (ltb 0 b && ltb b k.size) ≡ true
    fits = (answer (ltb 0 b && ltb b k.size) (k.inverse b) i e).0

    is : i ≡ k.inverse b
    is = (answer (ltb 0 b && ltb b k.size) (k.inverse b) i e).1

    code : ltb i k.size ≡ true
    code = ap (λ i. ltb i k.size) is ∙ is_code (k.inverse b) (F.inverse_code (b, ltb-true b k.size (and_parts (ltb 0 b) (ltb b k.size) fits).1))

    pub opposite_inverse_is : (r : Option ℕ) → r ≡ unary k.size k.opposite i → r ≡ inverted k.size (opposite_inverse k) b
    opposite_inverse_is r d = d ∙ under (ltb i k.size) (k.opposite i) code ∙ ap (λ i. Some (k.opposite i)) is
        ∙ sym (under (ltb 0 b && ltb b k.size) (opposite_inverse k b) fits)

    -- no answer for the product: a is no code
    pub no_quotient : (a : ℕ) → None ≡ binary k.size k.product a i → None ≡ opposite_quotient k a b
    no_quotient a d = sym (ap (λ t. cond t (Some (k.opposite (k.product a (k.inverse b)))) None) test)
      where
        left : (s t : Bool) → t ≡ true → (s && t) ≡ false → s ≡ false
        left true t e d = sym e ∙ d
        left false t e d = refl

        test : ((ltb 0 b && ltb b k.size) && ltb a k.size) ≡ false
        test = and_right (ltb 0 b && ltb b k.size) (ltb a k.size)
            (left (ltb a k.size) (ltb i k.size) code (no_answer (ltb a k.size && ltb i k.size) (k.product a i) d))

    pub quotient_is : (a m : ℕ) (r : Option ℕ) → Some m ≡ binary k.size k.product a i → r ≡ unary k.size k.opposite m → r ≡ opposite_quotient k a b
    quotient_is a m r p d =
        let (codes, m_is) = answer (ltb a k.size && ltb i k.size) (k.product a i) m p in
        let a_code = (and_parts (ltb a k.size) (ltb i k.size) codes).0 in
        let m_code : ltb m k.size ≡ true = ap (λ m. ltb m k.size) m_is
        ∙ is_code (k.product a i) (F.product_code (a, ltb-true a k.size a_code) (i, ltb-true i k.size code)) in
        d ∙ under (ltb m k.size) (k.opposite m) m_code ∙ ap (λ m. Some (k.opposite m)) m_is ∙ ap (λ i. Some (k.opposite (k.product a i))) is
        ∙ sym (under ((ltb 0 b && ltb b k.size) && ltb a k.size) (k.opposite (k.product a (k.inverse b)))
        (and_from (ltb 0 b && ltb b k.size) (ltb a k.size) fits a_code))
