-- Each turn takes the share of one bit of b from what is left of the product into the total.
use Rattle.std.proofs.Common.{◌≡◌, suc, ◌+◌, ◌-◌, arith}
use lib.Bits.{xor_assoc, xor_zero_r}
use Rattle.std.proofs.lemmas.Bool.Decides.{nat_tests}
use Rattle.field.specs.BinaryLaws.{times_t_code}
use Rattle.field.proofs.binary.BinaryField.times.Goals as goal
use Rattle.field.proofs.binary.BinaryField.times.Goals.{then-bits-eq1, else-bits-eq1}

pub loop-preserved : goal.loop-preserved
loop-preserved c =
    let f = c.args.self.now in
    let l = c.loop in
    let code = times_t_code f.size f.listed (l.shifted, l.invariant.0) in
    let more : 4 - l.counter ≡ suc (4 - (l.counter + 1)) = omega arith in
    let left = rw more at l.invariant.1 in
    elim c.if-bits-eq1.branch [
      | then-bits-eq1 w ↦ rw c.times_t-shifted.ensures (code, grind (arith, nat_tests, xor_assoc))
      | else-bits-eq1 w ↦ rw c.times_t-shifted.ensures (code, grind (arith, nat_tests, xor_assoc))
    ]

pub returns : goal.returns
returns c = grind (arith, xor_zero_r)
