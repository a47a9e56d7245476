-- In any field the inverse of a code is the one code that multiplies to 1, so a search for it finds it.
use Rattle.std.proofs.Common.{◌≡◌, ℕ, ◌<◌, ◌≤◌, ltb, ◌&&◌, ◌≢◌, Some, None, Option, MatchOption, sym, refl, ap, ◌∙◌, arith}
use Rattle.std.proofs.lemmas.Bool.{lt-ltb, ltb-true, and_parts, cond_both}
use Rattle.std.proofs.lemmas.Option.{cond_some}
use Rattle.field.specs.Fields.{Arithmetic, Code, FieldLaws, binary, inverted}

abbrev pub GivesOne : Arithmetic → ℕ → ℕ → Type 0
GivesOne k a b = binary k.size k.product a b ≡ Some 1

module _ (k : Arithmetic) (laws : FieldLaws k) where
  -- x + x is x for 0 alone
  times_zero : (a : Code k) → k.product a.0 0 ≡ 0
  times_zero a =
      let none : Code k = (0, omega (arith, laws.two)) in
      let x : Code k = (k.product a.0 0, laws.product_code a none) in
      let o : Code k = (k.opposite x.0, laws.opposite_code x) in
      let twice : x.0 ≡ k.sum x.0 x.0 = ap (k.product a.0) (sym (laws.sum_zero none)) ∙ laws.product_sum a none none in
      sym (laws.sum_zero x) ∙ laws.sum_comm none x ∙ ap (k.sum x.0) (sym (laws.sum_opposite x)) ∙ sym (laws.sum_assoc x x o)
      ∙ ap (λ y. k.sum y o.0) (sym twice) ∙ laws.sum_opposite x

  second_not_zero : (a : Code k) (b : ℕ) → k.product a.0 b ≡ 1 → b ≢ 0
  second_not_zero a b e z =
      let one : k.product a.0 0 ≡ 1 = ap (k.product a.0) (sym z) ∙ e in
      omega (arith, times_zero a)

  pub inverse_only : (a : Code k) → a.0 ≢ 0 → (b : Code k) → k.product a.0 b.0 ≡ 1 → b.0 ≡ k.inverse a.0
  inverse_only a n b e =
      let i : Code k = (k.inverse a.0, laws.inverse_code a) in
      sym (laws.product_one b) ∙ laws.product_comm (1, laws.two) b
      ∙ ap (λ x. k.product b.0 x) (sym (laws.product_inverse a n))
      ∙ sym (laws.product_assoc b a i) ∙ ap (λ x. k.product x i.0) (laws.product_comm b a ∙ e) ∙ laws.product_one i

  -- r is the first number from `low` on that gives 1, and no inverse is below it
  pub sought : (a low : ℕ) (r : Option ℕ) → low ≤ 1
      → MatchOption r ((b : ℕ) → low ≤ b → b < k.size → GivesOne k a b → ⊥) (λ b. (low ≤ b) × (b < k.size) × GivesOne k a b × ((c : ℕ) → low ≤ c → c < b → GivesOne k a c → ⊥))
      → r ≡ inverted k.size k.inverse a
  sought a low (Some b) l h =
      let (codes, e) = cond_some (ltb a k.size && ltb b k.size) (k.product a b) 1 h.2 in
      let small = (and_parts (ltb a k.size) (ltb b k.size) codes).0 in
      let x : Code k = (a, ltb-true a k.size small) in
      let y : Code k = (b, h.1) in
      let n = second_not_zero y a (laws.product_comm y x ∙ e) in
      rw (lt-ltb 0 a (omega arith), small) (ap Some (inverse_only x n y e))
  sought a low None l h =
      cond_both (ltb 0 a && ltb a k.size) (Some (k.inverse a)) None (λ r. None ≡ r) (λ t.
      let (n, small) = and_parts (ltb 0 a) (ltb a k.size) t in
      let x : Code k = (a, ltb-true a k.size small) in
      let above = ltb-true 0 a n in
      let e = laws.product_inverse x (omega arith) in
      let i = laws.inverse_code x in
      let m = second_not_zero x (k.inverse a) e in
      absurd (h (k.inverse a) (omega arith) i (rw (small, lt-ltb (k.inverse a) k.size i) (ap Some e)))
      ) (λ _. refl)
