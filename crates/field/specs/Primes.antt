-- The prime fields, by meaning. Assumes nothing.
--   prime_sizes      the listed sizes
--   is_prime_size q  whether q is listed
--   residues q       sums and products are remainders on division by q
use Rattle.std.specs.Prelude.{ℕ, ◌+◌, ◌-◌, ◌*◌, ◌%◌, Bool, List, [], ◌∷◌}
use Rattle.field.specs.Fields.{Arithmetic}
use Rattle.field.specs.Searches.{among, inverse_below}

abbrev pub prime_sizes : List ℕ
prime_sizes = 2 ∷ 3 ∷ 5 ∷ 7 ∷ 11 ∷ 13 ∷ 17 ∷ 19 ∷ 23 ∷ 29 ∷ 31 ∷ []

abbrev pub is_prime_size : ℕ → Bool
is_prime_size q = among prime_sizes q

abbrev pub residues : ℕ → Arithmetic
residues q = record {
  size = q;
  sum = λ a b. (a + b) % q;
  opposite = λ a. (q - a) % q;
  product = λ a b. (a * b) % q;
  inverse = inverse_below q (λ a b. (a * b) % q);
}
