use Rattle.std.proofs.Common.{◌≡◌, length, drop}
use Rattle.text.specs.Grammar.{pieces}
use Rattle.text.specs.Heads.{name_count}
use Rattle.text.proofs.Heads.{counted}
use Rattle.text.proofs.head.names.count_fields.Given as goal

abbrev pub invariant-loop-field : goal.invariant-loop-field
invariant-loop-field l =
    (goal.iterator-loop-field).can_next l.field-iterator
    × (goal.iterator-loop-field).is_finite l.field-iterator
    × (l.count ≡ length l.yielded)
    × (name_count (pieces 32 l.fields) ≡ counted (length l.yielded) (drop (length l.yielded) (pieces 32 l.fields)))
