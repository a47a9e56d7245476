-- Finite fields, by meaning and laws. Assumes nothing.
--   Arithmetic               a size q, and what is computed on the codes 0 to q - 1
--   Code k                   a number below the size
--   FieldLaws k              the laws of a field, of 2 to 32 codes
--   unary, binary, inverted  what a field's function answers: nothing outside the codes, and nothing for the inverse of 0
use Rattle.std.specs.Prelude.{◌≡◌, ℕ, ◌<◌, ◌≤◌, cond, ◌&&◌, ◌≢◌, Some, None, Option, nat_lt}

pub record Arithmetic : Type 0 where
  pub size : ℕ
  pub sum : ℕ → ℕ → ℕ
  pub opposite : ℕ → ℕ
  pub product : ℕ → ℕ → ℕ
  pub inverse : ℕ → ℕ

abbrev pub Code : Arithmetic → Type 0
Code k = (c : ℕ) × (c < k.size)

pub record FieldLaws (k : Arithmetic) : Type 0 where
  pub two : 2 ≤ k.size
  pub few : k.size ≤ 32
  pub sum_code : (a b : Code k) → k.sum a.0 b.0 < k.size
  pub opposite_code : (a : Code k) → k.opposite a.0 < k.size
  pub product_code : (a b : Code k) → k.product a.0 b.0 < k.size
  pub inverse_code : (a : Code k) → k.inverse a.0 < k.size
  pub sum_comm : (a b : Code k) → k.sum a.0 b.0 ≡ k.sum b.0 a.0
  pub sum_assoc : (a b c : Code k) → k.sum (k.sum a.0 b.0) c.0 ≡ k.sum a.0 (k.sum b.0 c.0)
  pub sum_zero : (a : Code k) → k.sum 0 a.0 ≡ a.0
  pub sum_opposite : (a : Code k) → k.sum a.0 (k.opposite a.0) ≡ 0
  pub product_comm : (a b : Code k) → k.product a.0 b.0 ≡ k.product b.0 a.0
  pub product_assoc : (a b c : Code k) → k.product (k.product a.0 b.0) c.0 ≡ k.product a.0 (k.product b.0 c.0)
  pub product_one : (a : Code k) → k.product 1 a.0 ≡ a.0
  pub product_sum : (a b c : Code k) → k.product a.0 (k.sum b.0 c.0) ≡ k.sum (k.product a.0 b.0) (k.product a.0 c.0)
  pub product_inverse : (a : Code k) → a.0 ≢ 0 → k.product a.0 (k.inverse a.0) ≡ 1

abbrev pub unary : ℕ → (ℕ → ℕ) → ℕ → Option ℕ
unary q f a = cond (nat_lt a q) (Some (f a)) None

abbrev pub binary : ℕ → (ℕ → ℕ → ℕ) → ℕ → ℕ → Option ℕ
binary q f a b = cond (nat_lt a q && nat_lt b q) (Some (f a b)) None

abbrev pub inverted : ℕ → (ℕ → ℕ) → ℕ → Option ℕ
inverted q f a = cond (nat_lt 0 a && nat_lt a q) (Some (f a)) None
