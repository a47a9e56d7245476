-- The fields so far are numbers, and the field at hand is the next.
use Rattle.std.proofs.Common.{◌≡◌, ℕ, Some, ◌+◌, ◌<◌, ◌++◌, ◌∷◌, [], eqb, length, get_or, drop, sym, ap, ◌∙◌, arith, rules, tests}
use Rattle.std.proofs.lemmas.Iterator.Splits.{YieldsList-from_slice_split}
use Rattle.std.proofs.lemmas.Iterator.Consumers.{YieldsList-turn, YieldsList-end}
use Rattle.std.proofs.lemmas.List.{length_push}
use Rattle.std.specs.Option.{option_map}
use Rattle.text.specs.Grammar.{pieces, number, number_list}
use Rattle.text.specs.Heard.{listed, few}
use Rattle.text.proofs.Prefixes.{prefixed, prefixed_more, prefixed_bad, prefixed_end, few_stops, few_some, few_listed}
use Rattle.text.proofs.numbers.reading.read_numbers.Goals as goal
use Rattle.text.proofs.numbers.reading.read_numbers.Goals.{In-Some}

this_field : (c : In-Some) → (length c.loop-field.yielded < length (pieces 32 c.args.fields.now)) × (c.in-Some.field.now ≡ get_or (pieces 32 c.args.fields.now) (length c.loop-field.yielded) c.in-Some.field.now)
this_field c =
    YieldsList-turn (YieldsList-from_slice_split {s = c.into_iter-field-iterator.result} _ (λ b. eqb b 32) c.args.fields.now (search rules) (search rules) (search rules) (λ x r q k. search (rules, tests))) c.loop-field.yielded _ c.loop-field.yielded_by _ _ c.in-Some.field c.in-Some.is c.next.ensures.steps

one_more : (c : In-Some) (v : ℕ) → Some v ≡ number c.in-Some.field.now → few (number_list (pieces 32 c.args.fields.now)) ≡ few (prefixed (listed c.loop-field.read ++ v ∷ []) (number_list (drop (length c.loop-field.yielded + 1) (pieces 32 c.args.fields.now))))
one_more c v is =
    let t = this_field c in
    c.loop-field.invariant.2 ∙ ap few (prefixed_more (listed c.loop-field.read) (pieces 32 c.args.fields.now) (length c.loop-field.yielded) c.in-Some.field.now v t.0 t.1 is)

pub loop-field-preserved : goal.loop-field-preserved
loop-field-preserved c =
    let fields = pieces 32 c.args.fields.now in
    let longer = length_push c.loop-field.yielded c.in-Some.field in
    let new = few_some (listed c.loop-field.read ++ c.in_ok-read_number.field-0 ∷ []) (listed c.in_ok-read.read) (ap (option_map listed) (sym c.in_ok-read.was) ∙ c.with.ensures) in (
      search rules,
      search rules,
      one_more (goal.at.loop-field-preserved c).In-Some c.in_ok-read_number.field-0 (sym c.in_ok-read_number.was ∙ c.read_number.ensures)
          ∙ ap (λ xs. few (prefixed xs (number_list (drop (length c.loop-field.yielded + 1) fields)))) (sym new)
          ∙ ap (λ k. few (prefixed (listed c.in_ok-read.read) (number_list (drop k fields)))) (sym longer),
    )

pub returns-in_err-read_number : goal.returns-in_err-read_number
returns-in_err-read_number c =
    let fields = pieces 32 c.args.fields.now in
    let t = this_field (goal.at.returns-in_err-read_number c).In-Some in
    ap (option_map listed) c.from_residual.ensures ∙ sym (c.loop-field.invariant.2 ∙ ap few (prefixed_bad (listed c.loop-field.read) fields (length c.loop-field.yielded) c.in-Some.field.now t.0 t.1 (sym c.in_err-read_number.was ∙ c.read_number.ensures)))

pub returns-in_err-read : goal.returns-in_err-read
returns-in_err-read c =
    let fields = pieces 32 c.args.fields.now in
    ap (option_map listed) c.from_residual-in_err-read.ensures
    ∙ sym (one_more (goal.at.returns-in_err-read c).In-Some c.in_ok-read_number.field-0 (sym c.in_ok-read_number.was ∙ c.read_number.ensures) ∙ few_stops (listed c.loop-field.read ++ c.in_ok-read_number.field-0 ∷ []) (number_list (drop (length c.loop-field.yielded + 1) fields)) (ap (option_map listed) (sym c.in_err-read.was) ∙ c.with.ensures))

pub returns : goal.returns
returns c =
    let fields = pieces 32 c.args.fields.now in
    let e = YieldsList-end (YieldsList-from_slice_split {s = c.into_iter-field-iterator.result} _ (λ b. eqb b 32) c.args.fields.now (search rules) (search rules) (search rules) (λ x r q k. search (rules, tests))) c.loop-field.yielded _ c.loop-field.yielded_by _ _ c.in-None.is c.next.ensures.steps in
    few_listed c.loop-field.read ∙ sym (c.loop-field.invariant.2 ∙ ap few (prefixed_end (listed c.loop-field.read) fields (length c.loop-field.yielded) (omega (arith, e.1))))
