-- The binary fields, by meaning: a code's bits are the coefficients of a polynomial in t over the residues of 2,
-- lowest first. Assumes nothing.
--   binary_sizes      the listed sizes, which are also the codes of t², t³ and t⁴
--   is_binary_size q  whether q is listed
--   times_t q a       t · a, reduced by t²+t+1, t³+t+1 or t⁴+t+1, whose code is q + 3
--   times q n a b     a · b, for b of n bits: a for the lowest bit, and t · a times the bits above it
--   binaries q        sums are exclusive or, each code is its own opposite, and products are reduced
use Rattle.std.specs.Prelude.{ℕ, zero, suc, ◌+◌, ◌*◌, ◌/◌, ◌%◌, Bool, cond, List, [], ◌∷◌, ◌==◌, bit_xor, nat_lt}
use Rattle.field.specs.Fields.{Arithmetic}
use Rattle.field.specs.Searches.{among, inverse_below}

abbrev pub binary_sizes : List ℕ
binary_sizes = 4 ∷ 8 ∷ 16 ∷ []

abbrev pub is_binary_size : ℕ → Bool
is_binary_size q = among binary_sizes q

abbrev pub times_t : ℕ → ℕ → ℕ
times_t q a = cond (nat_lt (2 * a) q) (2 * a) (bit_xor (2 * a) (q + 3))

abbrev pub times : ℕ → ℕ → ℕ → ℕ → ℕ
times q zero a b = 0
times q (suc n) a b = bit_xor (cond (b % 2 == 1) a 0) (times q n (times_t q a) (b / 2))

-- no code has more than 4 bits
abbrev pub binaries : ℕ → Arithmetic
binaries q = record {
  size = q;
  sum = bit_xor;
  opposite = λ a. a;
  product = times q 4;
  inverse = inverse_below q (times q 4);
}
