use Rattle.std.proofs.Common.{◌+◌, drop, sym, ◌∙◌, arith}
use Rattle.text.proofs.Digits.{digit_over, digit_more, decided_end}
use Rattle.text.proofs.number.read_number.Goals as goal

pub returns-in_err-checked_mul : goal.returns-in_err-checked_mul
returns-in_err-checked_mul c =
    let field = c.args.field.now in
    let i = c.loop-digit.digit-index in
    c.from_residual.ensures ∙ sym (c.loop-digit.invariant.1 ∙ digit_more _ field i c.loop-digit-test.true (sym c.if-not-is_ascii_digit.ensures.value) ∙ digit_over _ (drop (i + 1) field) (let e = c.in_err-checked_mul.ensures in omega arith))

pub returns-in_err-value : goal.returns-in_err-value
returns-in_err-value c =
    let field = c.args.field.now in
    let i = c.loop-digit.digit-index in
    c.from_residual-in_err-value.ensures ∙ sym (c.loop-digit.invariant.1 ∙ digit_more _ field i c.loop-digit-test.true (sym c.if-not-is_ascii_digit.ensures.value) ∙ digit_over _ (drop (i + 1) field) (let e = c.in_err-value.ensures in let n = c.from.ensures in let k = c.in_ok-checked_mul.ensures in omega arith))

pub returns : goal.returns
returns c = sym (c.loop-digit.invariant.1 ∙ decided_end _ c.args.field.now c.loop-digit.digit-index c.loop-digit-test.false c.loop-digit.invariant.0)
