-- The state and what is held stay; what was read and what is held are polynomials.
use Rattle.std.proofs.Common.{rules}
use Rattle.calls.proofs.Holding.{question_state}
use Rattle.calls.proofs.Reaching.{held-polynomials, unmoved}
use Rattle.calls.proofs.held.Checker.divide_question.Goals as goal

pub invariant_of-self : goal.invariant_of-self
invariant_of-self g c =
    let before = c.args.self.now in
    record { reached = unmoved before.check before.basis before.state c.enter.new.state (search rules) before.reached }

pub invariant_of-self-in-Break-branch-2 : goal.invariant_of-self-in-Break-branch-2
invariant_of-self-in-Break-branch-2 g c =
    let before = c.args.self.now in
    record { reached = unmoved before.check before.basis before.state c.enter.new.state (question_state before.state c.enter.new.state (search rules)) before.reached }

pub invariant_of-basis : goal.invariant_of-basis
invariant_of-basis g c =
    let before = c.args.self.now in
    record { within = held-polynomials g.met.F.Field.lawful g.met.O.MonomialOrder.lawful before.check before.basis before.state _ c.ring-2.ensures before.reached }

pub invariant_of-self-2 : goal.invariant_of-self-2
invariant_of-self-2 g c =
    let before = c.args.self.now in
    record { reached = unmoved before.check before.basis before.state c.enter.new.state (question_state before.state c.enter.new.state (search rules)) before.reached }
