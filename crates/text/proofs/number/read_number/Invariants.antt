use Rattle.std.proofs.Common.{◌≡◌, ◌≤◌, drop}
use Rattle.text.specs.Grammar.{number}
use Rattle.text.proofs.Digits.{decided}
use Rattle.text.proofs.number.read_number.Given as goal

abbrev pub invariant-loop-digit : goal.invariant-loop-digit
invariant-loop-digit l = (l.value ≤ 65535) × (number l.field ≡ decided l.value (drop l.digit-index l.field))
