-- What is left of the product, by the bits that are left, completes it.
use Rattle.std.proofs.Common.{◌≡◌, ◌-◌, ◌<◌}
use lib.Bits.{bit_xor}
use Rattle.field.specs.Binaries.{times}
use Rattle.field.proofs.binary.BinaryField.times.Given as goal

abbrev pub invariant-loop : goal.invariant-loop
invariant-loop l =
    (l.shifted < l.self.size)
    × (bit_xor l.total (times l.self.size (4 - l.counter) l.shifted l.bits) ≡ times l.self.size 4 l.a l.b)
