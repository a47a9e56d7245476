-- The places that were written hold what `f` makes; the others are still 0.
use Rattle.std.proofs.Common.{◌≡◌, ℕ, ◌-◌, ◌<◌, length, drop, replicate, slice_index}
use Rattle.polynomial.proofs.monomial.Monomial.combine.Given as goal

abbrev pub invariant-loop-i : goal.invariant-loop-i
invariant-loop-i g l =
    (length l.exponents ≡ 24)
    × ((k : ℕ) → k < l.i → goal.F-post g l.f (slice_index l.self.exponents k) (slice_index l.other.exponents k) (slice_index l.exponents k))
    × (drop l.i l.exponents ≡ replicate (24 - l.i) 0)
