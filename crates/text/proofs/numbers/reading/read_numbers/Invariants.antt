use Rattle.std.proofs.Common.{◌≡◌, length, drop}
use Rattle.text.specs.Grammar.{pieces, number_list}
use Rattle.text.specs.Heard.{listed, few}
use Rattle.text.proofs.Prefixes.{prefixed}
use Rattle.text.proofs.numbers.reading.read_numbers.Given as goal

abbrev pub invariant-loop-field : goal.invariant-loop-field
invariant-loop-field l =
    (goal.iterator-loop-field).can_next l.field-iterator
    × (goal.iterator-loop-field).is_finite l.field-iterator
    × (few (number_list (pieces 32 l.fields)) ≡ few (prefixed (listed l.read) (number_list (drop (length l.yielded) (pieces 32 l.fields)))))
