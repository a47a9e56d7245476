-- The residues modulo a listed prime are a field: every law but those of the inverse holds of any modulus.
use Rattle.std.specs.Prelude.{◌≡◌, ℕ, ◌+◌, ◌-◌, ◌*◌, ◌%◌, ◌<◌, true, refl}
use Rattle.std.proofs.Common.{sym, ap, ◌∙◌, mod-lt, mod-eq_of_lt, add_comm, add_assoc, zero-add, one-mul, mul_comm, mul_assoc, mul-add, arith}
use Rattle.std.proofs.lemmas.Nat.{mul-mod_first, mul-mod_second}
use Rattle.std.proofs.Math.Nat.{mod-add-mod, add-mod-mod, add-mod, mod_self}
use Rattle.field.specs.Fields.{FieldLaws}
use Rattle.field.specs.Primes.{prime_sizes, is_prime_size, residues}
use Rattle.field.specs.Claims.{equal, at_most, below, unless_zero, one, tested}

module _ (q : ℕ) (l : is_prime_size q ≡ true) where
  pub prime_laws : FieldLaws (residues q)
  prime_laws =
      let law = tested prime_sizes residues q l in
      let two≤ = law (λ k. at_most 2 k.size) refl in
      let pos : 0 < q = omega arith in
      record {
        two = two≤;
        few = law (λ k. at_most k.size 32) refl;
        sum_code = λ a b. mod-lt (a.0 + b.0) pos;
        opposite_code = λ a. mod-lt (q - a.0) pos;
        product_code = λ a b. mod-lt (a.0 * b.0) pos;
        inverse_code = law (one (λ k a. below (k.inverse a) k.size)) refl;
        sum_comm = λ a b. ap (λ n. n % q) (add_comm a.0 b.0);
        sum_assoc = λ a b c.
            mod-add-mod (a.0 + b.0) q c.0 ∙ ap (λ n. n % q) (add_assoc a.0 b.0 c.0) ∙ sym (add-mod-mod a.0 (b.0 + c.0) q);
        sum_zero = λ a. ap (λ n. n % q) (zero-add a.0) ∙ mod-eq_of_lt a.1;
        sum_opposite = λ a.
            let h = a.1 in
            let e : a.0 + (q - a.0) ≡ q = omega arith in
            add-mod-mod a.0 (q - a.0) q ∙ ap (λ n. n % q) e ∙ mod_self q;
        product_comm = λ a b. ap (λ n. n % q) (mul_comm a.0 b.0);
        product_assoc = λ a b c.
            mul-mod_first (a.0 * b.0) c.0 q ∙ ap (λ n. n % q) (mul_assoc a.0 b.0 c.0) ∙ sym (mul-mod_second a.0 (b.0 * c.0) q);
        product_one = λ a. ap (λ n. n % q) (one-mul a.0) ∙ mod-eq_of_lt a.1;
        product_sum = λ a b c.
            mul-mod_second a.0 (b.0 + c.0) q ∙ ap (λ n. n % q) (mul-add a.0 b.0 c.0) ∙ add-mod (a.0 * b.0) (a.0 * c.0) q;
        product_inverse = law (one (λ k a. unless_zero a (equal (k.product a (k.inverse a)) 1))) refl;
      }
