-- The places that were written hold the sums, which are low; the others are still 0.
use Rattle.std.proofs.Common.{◌≡◌, ℕ, ◌+◌, ◌-◌, ◌<◌, ◌≤◌, length, get_or, drop, replicate}
use Rattle.polynomial.proofs.monomial.Monomial.product.Given as goal

abbrev pub invariant-loop-i : goal.invariant-loop-i
invariant-loop-i l =
    (length l.exponents ≡ 24)
    × ((k : ℕ) → k < l.i → (get_or l.exponents k 0 ≡ get_or l.self.exponents k 0 + get_or l.other.exponents k 0) × (get_or l.exponents k 0 ≤ 255))
    × (drop l.i l.exponents ≡ replicate (24 - l.i) 0)
