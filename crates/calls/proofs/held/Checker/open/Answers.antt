-- The call is the definition's, so what it leaves is reached, and it keeps the laws of runs.
use Rattle.std.proofs.Common.{rules}
use Rattle.fault.specs.declared.fault.Fault.TheVariants.{Variables}
use Rattle.run.specs.Models.{Open, Refused}
use Rattle.calls.specs.Shown.{said}
use Rattle.calls.proofs.Reaching.{reached_on, promised}
use Rattle.calls.proofs.held.Checker.open.Goals as goal

pub invariant_of-self : goal.invariant_of-self
invariant_of-self g c =
    let before = c.args.self.now in
    record {
      reached = reached_on g.met.F.Field.lawful g.met.O.MonomialOrder.lawful before.check c.begin.new.self before.basis before.basis before.state before.state
          (Open c.args.variables) (Refused Variables) (search rules) (search rules) (search rules) before.reached;
    }

pub returns-in_err-begin : goal.returns-in_err-begin
returns-in_err-begin g c =
    promised g.met.F.Field.lawful g.met.O.MonomialOrder.lawful c.args.self.now _ (Open c.args.variables) (said c.from_residual.result) (search rules) (search rules) (search rules)

pub invariant_of-self-2 : goal.invariant_of-self-2
invariant_of-self-2 g c =
    let before = c.args.self.now in
    record {
      reached = reached_on g.met.F.Field.lawful g.met.O.MonomialOrder.lawful before.check c.begin.new.self before.basis c.clear.new.self before.state c.enter.new.state
          (Open c.args.variables) (said c.enter.result) (search rules) (search rules) (search rules) before.reached;
    }

pub returns : goal.returns
returns g c =
    promised g.met.F.Field.lawful g.met.O.MonomialOrder.lawful c.args.self.now _ (Open c.args.variables) (said c.enter.result) (search rules) (search rules) (search rules)
