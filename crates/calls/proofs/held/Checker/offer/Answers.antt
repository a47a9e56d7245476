-- The call is the definition's, so what it leaves is reached, and it keeps the laws of runs.
use Rattle.std.proofs.Common.{rules, refl}
use Rattle.fault.specs.declared.fault.Fault.TheVariants.{Full}
use Rattle.run.specs.Models.{Offer, Done, Refused}
use Rattle.calls.specs.Shown.{said}
use Rattle.calls.proofs.Holding.{offer_state}
use Rattle.calls.proofs.Reaching.{reached_on, promised, unmoved}
use Rattle.calls.proofs.held.Checker.offer.Goals as goal

pub invariant_of-self : goal.invariant_of-self
invariant_of-self g c =
    let before = c.args.self.now in
    record { reached = unmoved before.check before.basis before.state c.enter.new.state (search rules) before.reached }

pub returns-in_err-enter : goal.returns-in_err-enter
returns-in_err-enter g c =
    let offered = c.args.offered.now in
    promised g.met.F.Field.lawful g.met.O.MonomialOrder.lawful c.args.self.now _ (Offer offered.table.now offered.cofactors.now offered.counts.now) (said c.from_residual.result) (search rules) refl refl

pub invariant_of-self-then-number-ge-MOST_POLYNOMIALS : goal.invariant_of-self-then-number-ge-MOST_POLYNOMIALS
invariant_of-self-then-number-ge-MOST_POLYNOMIALS g c =
    let before = c.args.self.now in
    record { reached = unmoved before.check before.basis before.state c.enter.new.state (offer_state before.state c.enter.new.state (search rules)) before.reached }

pub returns-then-number-ge-MOST_POLYNOMIALS : goal.returns-then-number-ge-MOST_POLYNOMIALS
returns-then-number-ge-MOST_POLYNOMIALS g c =
    let offered = c.args.offered.now in
    promised g.met.F.Field.lawful g.met.O.MonomialOrder.lawful c.args.self.now _ (Offer offered.table.now offered.cofactors.now offered.counts.now) (Refused Full) (search rules) refl refl

pub invariant_of-self-in-Break-branch-2 : goal.invariant_of-self-in-Break-branch-2
invariant_of-self-in-Break-branch-2 g c =
    let before = c.args.self.now in
    let offered = c.args.offered.now in
    record {
      reached = reached_on g.met.F.Field.lawful g.met.O.MonomialOrder.lawful before.check c.check_element.new.self before.basis before.basis before.state c.enter.new.state
          (Offer offered.table.now offered.cofactors.now offered.counts.now) (Refused c.in_err-check_element.field-0.0) (search rules) (search rules) (search rules) before.reached;
    }

pub returns-in_err-check_element : goal.returns-in_err-check_element
returns-in_err-check_element g c =
    let offered = c.args.offered.now in
    promised g.met.F.Field.lawful g.met.O.MonomialOrder.lawful c.args.self.now _ (Offer offered.table.now offered.cofactors.now offered.counts.now) (said c.from_residual-in_err-check_element.result) (search rules) (search rules) (search rules)

pub invariant_of-self-2 : goal.invariant_of-self-2
invariant_of-self-2 g c =
    let before = c.args.self.now in
    let offered = c.args.offered.now in
    record {
      reached = reached_on g.met.F.Field.lawful g.met.O.MonomialOrder.lawful before.check c.check_element.new.self before.basis c.push.new.self before.state c.enter.new.state
          (Offer offered.table.now offered.cofactors.now offered.counts.now) Done (search rules) (search rules) (search rules) before.reached;
    }

pub returns : goal.returns
returns g c =
    let offered = c.args.offered.now in
    promised g.met.F.Field.lawful g.met.O.MonomialOrder.lawful c.args.self.now _ (Offer offered.table.now offered.cofactors.now offered.counts.now) Done (search rules) (search rules) (search rules)
