-- The fields so far are names, and the field at hand is the next.
use Rattle.std.proofs.Common.{◌≡◌, ◌<◌, eqb, length, get_or, drop, sym, ap, ◌∙◌, Some, arith, rules, tests}
use Rattle.std.proofs.lemmas.Iterator.Splits.{YieldsList-from_slice_split}
use Rattle.std.proofs.lemmas.Iterator.Consumers.{YieldsList-turn, YieldsList-end}
use Rattle.std.proofs.lemmas.List.{length_push}
use Rattle.std.proofs.lemmas.List.Splits.{length-slice_split}
use Rattle.std.proofs.lemmas.List.Sums.{count_by-le-length}
use Rattle.text.specs.Grammar.{pieces}
use Rattle.text.proofs.Heads.{counted, counted_more, counted_bad, counted_end}
use Rattle.text.proofs.head.names.count_fields.Goals as goal
use Rattle.text.proofs.head.names.count_fields.Goals.{In-Some}

this_field : (c : In-Some) → (length c.loop-field.yielded < length (pieces 32 c.args.fields.now)) × (c.in-Some.field.now ≡ get_or (pieces 32 c.args.fields.now) (length c.loop-field.yielded) c.in-Some.field.now)
this_field c =
    YieldsList-turn (YieldsList-from_slice_split {s = c.into_iter-field-iterator.result} _ (λ b. eqb b 32) c.args.fields.now (search rules) (search rules) (search rules) (λ x r q k. search (rules, tests))) c.loop-field.yielded _ c.loop-field.yielded_by _ _ c.in-Some.field c.in-Some.is c.next.ensures.steps

pub returns-then-not-is_name : goal.returns-then-not-is_name
returns-then-not-is_name c =
    let t = this_field (goal.at.returns-then-not-is_name c).In-Some in
    sym (c.loop-field.invariant.3 ∙ counted_bad (pieces 32 c.args.fields.now) (length c.loop-field.yielded) c.in-Some.field.now t.0 t.1 c.if-not-is_name.ensures)

pub overflow_add-count : goal.overflow_add-count
overflow_add-count c =
    let t = this_field (goal.at.overflow_add-count c).In-Some in
    let l = length-slice_split (λ b. eqb b 32) c.args.fields.now in
    let m = count_by-le-length (λ b. eqb b 32) c.args.fields.now in
    omega arith

pub loop-field-preserved : goal.loop-field-preserved
loop-field-preserved c =
    let fields = pieces 32 c.args.fields.now in
    let t = this_field (goal.at.loop-field-preserved c).In-Some in
    let longer = length_push c.loop-field.yielded c.in-Some.field in (
      search rules,
      search rules,
      omega arith,
      c.loop-field.invariant.3
          ∙ counted_more fields (length c.loop-field.yielded) c.in-Some.field.now t.0 t.1 c.if-not-is_name.ensures
          ∙ ap (λ k. counted k (drop k fields)) (sym longer),
    )

pub returns : goal.returns
returns c =
    let fields = pieces 32 c.args.fields.now in
    let e = YieldsList-end (YieldsList-from_slice_split {s = c.into_iter-field-iterator.result} _ (λ b. eqb b 32) c.args.fields.now (search rules) (search rules) (search rules) (λ x r q k. search (rules, tests))) c.loop-field.yielded _ c.loop-field.yielded_by _ _ c.in-None.is c.next.ensures.steps in
    ap Some c.loop-field.invariant.2 ∙ sym (c.loop-field.invariant.3 ∙ counted_end fields (length c.loop-field.yielded) (omega (arith, e.1)))
