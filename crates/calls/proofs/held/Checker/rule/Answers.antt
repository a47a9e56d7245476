-- The call is the definition's, so what it leaves is reached, and it keeps the laws of runs.
use Rattle.std.proofs.Common.{rules, refl}
use Rattle.run.specs.Models.{Rule}
use Rattle.calls.specs.Shown.{said}
use Rattle.calls.proofs.Reaching.{reached_on, promised, unmoved}
use Rattle.calls.proofs.held.Checker.rule.Goals as goal

pub invariant_of-self : goal.invariant_of-self
invariant_of-self g c =
    let before = c.args.self.now in
    record { reached = unmoved before.check before.basis before.state c.enter.new.state (search rules) before.reached }

pub returns-in_err-enter : goal.returns-in_err-enter
returns-in_err-enter g c =
    promised g.met.F.Field.lawful g.met.O.MonomialOrder.lawful c.args.self.now _ (Rule c.args.table.now) (said c.from_residual.result) (search rules) refl refl

pub invariant_of-self-2 : goal.invariant_of-self-2
invariant_of-self-2 g c =
    let before = c.args.self.now in
    record {
      reached = reached_on g.met.F.Field.lawful g.met.O.MonomialOrder.lawful before.check c.add_generator.new.self before.basis before.basis before.state c.enter.new.state
          (Rule c.args.table.now) (said c.add_generator.result) (search rules) (search rules) (search rules) before.reached;
    }

pub returns : goal.returns
returns g c =
    promised g.met.F.Field.lawful g.met.O.MonomialOrder.lawful c.args.self.now _ (Rule c.args.table.now) (said c.add_generator.result) (search rules) (search rules) (search rules)
