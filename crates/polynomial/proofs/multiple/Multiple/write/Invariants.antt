use Rattle.std.proofs.Common.{◌≡◌, ◌≤◌, length, drop, vec_items, vec_len}
use Rattle.ideal.specs.Polynomials.{multiple}
use Rattle.polynomial.specs.Limits.{tight}
use Rattle.polynomial.specs.Rings.{over}
use Rattle.polynomial.specs.Views.{term_of, view}
use Rattle.polynomial.proofs.Steps.{behind}
use Rattle.polynomial.proofs.multiple.Multiple.write.Given as goal

abbrev pub invariant-loop-term : goal.invariant-loop-term
invariant-loop-term g l =
    let o = over l.self.ring.now in
    (l.term-index ≤ length l.self.polynomial.now) × (vec_len l.out.terms ≡ l.term-index)
    × (tight (multiple o (term_of l.self.factor) (view l.self.polynomial.now)) ≡ behind (view (vec_items l.out.terms)) (tight (multiple o (term_of l.self.factor) (view (drop l.term-index l.self.polynomial.now)))))
