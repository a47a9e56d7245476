-- The calls before are made, and the checker has its field and order.
use Rattle.std.proofs.Common.{◌≡◌, ◌≤◌, length, drop, vec_items, vec_len, vec_capacity}
use Rattle.calls.specs.Shown.{shown}
use Rattle.calls.proofs.Sequencing.{Underway}
use Rattle.calls.proofs.sequence.run_calls.Given as goal

abbrev pub invariant-loop-call : goal.invariant-loop-call
invariant-loop-call g l =
    let new = l.initial.checker in
    Underway (g.F.Field.arithmetic new.check.ring.field) (g.O.MonomialOrder.comparison new.check.ring.order) l.calls l.initial.result_table (drop l.call-index l.calls) (shown l.checker) l.result_table (vec_items l.replies)
    × (l.checker.check.ring.field ≡ new.check.ring.field) × (l.checker.check.ring.order ≡ new.check.ring.order)
    × (vec_len l.replies ≡ l.call-index) × (length l.calls ≤ vec_capacity l.replies)
