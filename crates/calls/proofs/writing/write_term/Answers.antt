-- The coefficient first, then the exponents; what is behind stays.
use Rattle.std.proofs.Common.{◌+◌, ◌-◌, length, ap, ◌∙◌, arith}
use Rattle.polynomial.specs.Views.{exponents_of}
use Rattle.calls.proofs.Tables.{put_first}
use Rattle.calls.proofs.writing.write_term.Goals as goal

pub returns : goal.returns
returns c =
    let exponents = c.exponents-exponents.result.now in
    let is = c.exponents-exponents.ensures.value in
    let same = ap length is in
    let fits = c.requires in
    record {
      count = omega arith;
      table = put_first c.args.result_table.now c.copy_from_slice.new.self (exponents_of c.args.term.now.monomial) c.args.term.now.coefficient (length exponents + 1 - 1) (length exponents + 1)
          (omega arith) (c.copy_from_slice.ensures.after ∙ is) (omega arith);
    }
