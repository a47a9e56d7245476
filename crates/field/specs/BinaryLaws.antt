-- The binary fields of the listed sizes are fields: every law is tested on all their codes.
use Rattle.std.specs.Prelude.{◌≡◌, ℕ, ◌<◌, true, refl}
use Rattle.field.specs.Fields.{Code, FieldLaws}
use Rattle.field.specs.Binaries.{binary_sizes, is_binary_size, times_t, binaries}
use Rattle.field.specs.Claims.{equal, at_most, below, unless_zero, one, two, three, tested}

module _ (q : ℕ) (l : is_binary_size q ≡ true) where
  pub binary-laws : FieldLaws (binaries q)
  binary-laws =
      let law = tested binary_sizes binaries q l in
      record {
        two = law (λ k. at_most 2 k.size) refl;
        few = law (λ k. at_most k.size 32) refl;
        sum_code = law (two (λ k a b. below (k.sum a b) k.size)) refl;
        opposite_code = law (one (λ k a. below (k.opposite a) k.size)) refl;
        product_code = law (two (λ k a b. below (k.product a b) k.size)) refl;
        inverse_code = law (one (λ k a. below (k.inverse a) k.size)) refl;
        sum_comm = law (two (λ k a b. equal (k.sum a b) (k.sum b a))) refl;
        sum_assoc = law (three (λ k a b c. equal (k.sum (k.sum a b) c) (k.sum a (k.sum b c)))) refl;
        sum_zero = law (one (λ k a. equal (k.sum 0 a) a)) refl;
        sum_opposite = law (one (λ k a. equal (k.sum a (k.opposite a)) 0)) refl;
        product_comm = law (two (λ k a b. equal (k.product a b) (k.product b a))) refl;
        product_assoc = law (three (λ k a b c. equal (k.product (k.product a b) c) (k.product a (k.product b c)))) refl;
        product_one = law (one (λ k a. equal (k.product 1 a) a)) refl;
        product_sum = law (three (λ k a b c. equal (k.product a (k.sum b c)) (k.sum (k.product a b) (k.product a c)))) refl;
        product_inverse = law (one (λ k a. unless_zero a (equal (k.product a (k.inverse a)) 1))) refl;
      }

  pub times_t_code : (a : Code (binaries q)) → times_t q a.0 < q
  times_t_code = tested binary_sizes binaries q l (one (λ k a. below (times_t k.size a) k.size)) refl
