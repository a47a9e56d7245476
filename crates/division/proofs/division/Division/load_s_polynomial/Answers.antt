-- Both inverses are there, and the two steps make the S-polynomial.
use Rattle.std.proofs.Common.{◌≤◌, length, Err, vec_items, Result, sym, ap, ◌∙◌, arith, rules}
use Rattle.std.proofs.lemmas.Result.{err_from_is_err_and}
use Rattle.polynomial.specs.Limits.{step}
use Rattle.polynomial.specs.Results.{answered}
use Rattle.polynomial.specs.Rings.{over}
use Rattle.polynomial.specs.Views.{term_of, view}
use Rattle.polynomial.specs.declared.flaw.Limit.{Limit}
use Rattle.polynomial.proofs.Outcomes.{answered_ok, made_if}
use Rattle.polynomial.proofs.Viewing.{view-length}
use Rattle.division.specs.Limits.{Outcome}
use Rattle.division.proofs.Bounded.{step-short}
use Rattle.division.proofs.Pairing as pairing
use Rattle.division.proofs.division.Division.load_s_polynomial.Goals as goal

abbrev refused : Limit → Outcome
refused l = Err l

pub unwrap-inverse-requires : goal.unwrap-inverse-requires
unwrap-inverse-requires g c =
    let ring = c.args.pair.now.ring.now in
    pairing.inverse_answers (g.met.F.Field.lawful ring.field) (g.met.O.MonomialOrder.lawful ring.order ring.variables)
    (record { some = search rules; first = c.a-item.is; ok = c.args.pair.now.first_within })
    (record { some = search rules; first = c.b-item.is; ok = c.args.pair.now.second_within })
    c.inverse.result cc

pub unwrap-opposite-requires : goal.unwrap-opposite-requires
unwrap-opposite-requires g c =
    let ring = c.args.pair.now.ring.now in
    pairing.opposite_answers (g.met.F.Field.lawful ring.field) (g.met.O.MonomialOrder.lawful ring.order ring.variables)
    (record { some = search rules; first = c.a-item.is; ok = c.args.pair.now.first_within })
    (record { some = search rules; first = c.b-item.is; ok = c.args.pair.now.second_within })
    c.opposite_inverse.result cc

pub invariant_of-first-clause-factored : goal.invariant_of-first-clause-factored
invariant_of-first-clause-factored g c =
    let ring = c.args.pair.now.ring.now in
    pairing.left_factor (g.met.F.Field.lawful ring.field) (g.met.O.MonomialOrder.lawful ring.order ring.variables)
    (record { some = search rules; first = c.a-item.is; ok = c.args.pair.now.first_within })
    (record { some = search rules; first = c.b-item.is; ok = c.args.pair.now.second_within })
    (record { coefficient = c.unwrap-inverse.result; monomial = c.multipliers.result.0 }) (cc) c.multipliers.ensures.left

pub returns-in_err-add-clause-value : goal.returns-in_err-add-clause-value
returns-in_err-add-clause-value g c =
    let ring = c.args.pair.now.ring.now in
    let (limit, is, was) = err_from_is_err_and c.from_residual.result c.from_residual.ensures.1 in
    ap (λ (r : Result (Unit {0}) Limit). answered r (view (vec_items c.add.new.self.sum.terms))) is ∙ ap refused was
    ∙ pairing.pair_refused (g.met.F.Field.lawful ring.field) (g.met.O.MonomialOrder.lawful ring.order ring.variables)
    (record { some = search rules; first = c.a-item.is; ok = c.args.pair.now.first_within })
    (record { some = search rules; first = c.b-item.is; ok = c.args.pair.now.second_within })
    (record { coefficient = c.unwrap-inverse.result; monomial = c.multipliers.result.0 }) (cc) c.multipliers.ensures.left
    (view (vec_items c.clear.new.self.sum.terms)) (ap view c.clear.ensures) c.in_err-add.field-0.0 c.in_err-add.ensures.value

pub invariant_of-second-clause-factored : goal.invariant_of-second-clause-factored
invariant_of-second-clause-factored g c =
    let ring = c.args.pair.now.ring.now in
    pairing.right_factor (g.met.F.Field.lawful ring.field) (g.met.O.MonomialOrder.lawful ring.order ring.variables)
    (record { some = search rules; first = c.a-item.is; ok = c.args.pair.now.first_within })
    (record { some = search rules; first = c.b-item.is; ok = c.args.pair.now.second_within })
    (record { coefficient = c.unwrap-inverse.result; monomial = c.multipliers.result.0 }) (cc) c.multipliers.ensures.left
    (record { coefficient = c.unwrap-opposite.result; monomial = c.multipliers.result.1 }) (cc) c.multipliers.ensures.right

pub returns-clause-value : goal.returns-clause-value
returns-clause-value g c =
    let ring = c.args.pair.now.ring.now in
    c.add-2.ensures.value
    ∙ pairing.pair_made (g.met.F.Field.lawful ring.field) (g.met.O.MonomialOrder.lawful ring.order ring.variables)
    (record { some = search rules; first = c.a-item.is; ok = c.args.pair.now.first_within })
    (record { some = search rules; first = c.b-item.is; ok = c.args.pair.now.second_within })
    (record { coefficient = c.unwrap-inverse.result; monomial = c.multipliers.result.0 }) (cc) c.multipliers.ensures.left
    (record { coefficient = c.unwrap-opposite.result; monomial = c.multipliers.result.1 }) (cc) c.multipliers.ensures.right
    (view (vec_items c.clear.new.self.sum.terms)) (ap view c.clear.ensures) (view (vec_items c.add.new.self.sum.terms)) c.in_ok-add.ensures.value

pub returns-clause-few : goal.returns-clause-few
returns-clause-few g c =
    let t = term_of (record { coefficient = c.unwrap-opposite.result; monomial = c.multipliers.result.1 }) in
    let p = view c.args.pair.now.second.now in
    let sum = view (vec_items c.add.new.self.sum.terms) in
    let out = vec_items c.add-2.new.self.sum.terms in
    let o = over c.args.pair.now.ring.now in
    made_if (length out ≤ 512) c.add-2.result (λ u e.
    let s = step-short o 0 t p sum (view out) (sym (answered_ok c.add-2.result u (view out) (step o 0 t p sum) e c.add-2.ensures.value)) in
    let l = view-length out in
    omega arith)
