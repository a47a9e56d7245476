-- The terms that are left, added to the sum so far, give what all give.
use Rattle.std.proofs.Common.{◌≡◌, drop, vec_items}
use Rattle.polynomial.specs.Rings.{over, Within}
use Rattle.polynomial.specs.Views.{view}
use Rattle.combination.specs.Combinations.{add_terms}
use Rattle.combination.proofs.combination.add_terms.Given as goal

abbrev pub invariant-loop-term : goal.invariant-loop-term
invariant-loop-term g l =
    let o = over l.ring in
    Within l.ring (view (vec_items l.sum.sum.terms))
    × (add_terms o l.number 0 (view l.cofactor) (view l.generator) (view (vec_items l.initial.sum.sum.terms))
    ≡ add_terms o l.number l.term (view (drop l.term l.cofactor)) (view l.generator) (view (vec_items l.sum.sum.terms)))
