-- The pairs before divide to 0, and nothing that is held has changed.
use Rattle.std.proofs.Common.{◌≡◌, drop}
use Rattle.polynomial.specs.Kept.{polynomials}
use Rattle.run.specs.Finishing.{all_pairs_vanish}
use Rattle.calls.specs.Shown.{Same}
use Rattle.calls.proofs.Vanishing.{Left}
use Rattle.calls.proofs.held.Checker.divide_pairs.Given as goal

abbrev pub invariant-loop-j : goal.invariant-loop-j
invariant-loop-j g l =
    let before = l.initial.self in
    let all = all_pairs_vanish (g.F.Field.arithmetic before.check.ring.field) before.check.ring.variables (g.O.MonomialOrder.comparison before.check.ring.order) (polynomials before.basis) in
    Same before l.self × (all 0 (polynomials before.basis) ≡ all l.j (drop l.j (polynomials before.basis)))

-- entered with the pairs of `j` all to come
abbrev pub invariant-loop-l : goal.invariant-loop-l
invariant-loop-l g l =
    let before = l.initial.self in
    let k = g.F.Field.arithmetic before.check.ring.field in
    let cmp = g.O.MonomialOrder.comparison before.check.ring.order in
    let basis = polynomials before.basis in
    Same before l.self × (all_pairs_vanish k before.check.ring.variables cmp basis l.j (drop l.j basis) ≡ Left k before.check.ring.variables cmp basis l.j l.l)
