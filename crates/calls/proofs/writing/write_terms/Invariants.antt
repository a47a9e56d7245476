-- The terms before are written, and there is room for the others.
use Rattle.std.proofs.Common.{◌≡◌, ◌+◌, ◌≤◌, ◌++◌, length, take, drop}
use Rattle.polynomial.specs.Views.{view}
use Rattle.run.specs.Calls.{flat}
use Rattle.calls.proofs.writing.write_terms.Given as goal

abbrev pub invariant-loop-term : goal.invariant-loop-term
invariant-loop-term l =
    let before = flat (view (take l.term-index l.terms)) in
    (l.start ≡ length before) × (l.result_table ≡ before ++ drop l.start l.initial.result_table)
    × (l.start + length (flat (view (drop l.term-index l.terms))) ≤ length l.initial.result_table)
