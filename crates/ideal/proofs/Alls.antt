-- What holds of every monomial of some polynomials holds of every monomial of what is computed from them.
use Rattle.std.proofs.Common.{Bool, true, false, [], ◌∷◌, Ordering, Less, Equal, Greater}
use Rattle.ideal.specs.Polynomials.{Operations, Term, Poly, All, unless_zero, place, insert, sum, multiple}

pub all_map : {K M : Type 0} {P Q : M → Type 0} → ((m : M) → P m → Q m) → (p : Poly K M) → All P p → All Q p
all_map h [] a = tt
all_map h (t ∷ p) (x, a) = (h _ x, all_map h p a)

module _ {K M : Type 0} (o : Operations K M) where
  all-unless_zero : (P : M → Type 0) (b : Bool) (c : K) (m : M) (q : Poly K M) → P m → All P q → All P (unless_zero o b c m q)
  all-unless_zero P true c m q h a = a
  all-unless_zero P false c m q h a = (h, a)

  pub all_insert : (P : M → Type 0) (s : Term K M) (q : Poly K M) → P s.1 → All P q → All P (insert o s q)
  all_insert P s [] h a = (h, tt)
  all_insert P s (t ∷ q) h (x, a) = at (o.compare s.1 t.1) (all_insert P s q h a)
    where
      at : (d : Ordering) → All P (insert o s q) → All P (place o d s t q (insert o s q))
      at Less r = (x, r)
      at Equal r = all-unless_zero P (o.is_zero (o.plus s.0 t.0)) _ t.1 q x a
      at Greater r = (h, (x, a))

  pub all-sum : (P : M → Type 0) (p q : Poly K M) → All P p → All P q → All P (sum o p q)
  all-sum P [] q a b = b
  all-sum P (s ∷ p) q (h, a) b = all_insert P s (sum o p q) h (all-sum P p q a b)

  pub all-multiple : (P Q : M → Type 0) (s : Term K M) → ((m : M) → P m → Q (o.multiply s.1 m))
      → (p : Poly K M) → All P p → All Q (multiple o s p)
  all-multiple P Q s h [] a = tt
  all-multiple P Q s h (t ∷ p) (x, a) = (h _ x, all-multiple P Q s h p a)
