use Rattle.std.proofs.Common.{◌≡◌, ◌<◌, length}
use Rattle.cases.proofs.divisions.push_term.Given as goal

abbrev pub invariant-loop-byte : goal.invariant-loop-byte
invariant-loop-byte l = (l.place < 25) × (length l.numbers ≡ 25)
