-- The call is the definition's, so what it leaves is reached, and it keeps the laws of runs.
use Rattle.std.proofs.Common.{rules, refl}
use Rattle.run.specs.Models.{Close}
use Rattle.calls.specs.Shown.{said}
use Rattle.calls.proofs.Reaching.{reached_on, promised}
use Rattle.calls.proofs.held.Checker.close.Goals as goal

pub invariant_of-self : goal.invariant_of-self
invariant_of-self g c =
    let before = c.args.self.now in
    record {
      reached = reached_on g.met.F.Field.lawful g.met.O.MonomialOrder.lawful before.check before.check before.basis before.basis before.state c.enter.new.state
          Close (said c.enter.result) (search rules) refl refl before.reached;
    }

pub returns : goal.returns
returns g c = promised g.met.F.Field.lawful g.met.O.MonomialOrder.lawful c.args.self.now _ Close (said c.enter.result) (search rules) refl refl
