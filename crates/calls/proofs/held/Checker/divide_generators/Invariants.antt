-- The generators before `number` divide to 0, and nothing that is held has changed.
use Rattle.std.proofs.Common.{◌≡◌, drop}
use Rattle.polynomial.specs.Kept.{polynomials}
use Rattle.run.specs.Finishing.{generators_vanish}
use Rattle.calls.specs.Shown.{Same}
use Rattle.calls.proofs.held.Checker.divide_generators.Given as goal

abbrev pub invariant-loop-number : goal.invariant-loop-number
invariant-loop-number g l =
    let before = l.initial.self in
    let all = generators_vanish (g.F.Field.arithmetic before.check.ring.field) before.check.ring.variables (g.O.MonomialOrder.comparison before.check.ring.order) (polynomials before.basis) in
    Same before l.self × (all 0 (polynomials before.check.generators) ≡ all l.number (drop l.number (polynomials before.check.generators)))
