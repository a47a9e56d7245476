-- What is written, and behind it the sum of what is left.
use Rattle.std.proofs.Common.{◌≡◌, ◌+◌, ◌≤◌, ◌++◌, length, vec_items, vec_len}
use Rattle.ideal.specs.Polynomials.{sum}
use Rattle.polynomial.specs.Rings.{over, Within}
use Rattle.polynomial.specs.Views.{view}
use Rattle.polynomial.proofs.ring.Ring.sum.Given as goal

abbrev pub invariant-loop-p : goal.invariant-loop-p
invariant-loop-p g l =
    let o = over l.self in
    record {
      p_within : Within l.self (view l.p);
      q_within : Within l.self (view l.q);
      few : vec_len l.out.terms ≤ l.room;
      so_far : sum o (view l.fn.p) (view l.fn.q) ≡ view (vec_items l.out.terms) ++ sum o (view l.p) (view l.q);
    }

abbrev pub decreases-loop-p : goal.decreases-loop-p
decreases-loop-p g l = length l.p + length l.q
