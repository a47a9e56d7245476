-- Both steps and the division are within the limits; what they leave decides.
use Rattle.std.proofs.Common.{◌≡◌, [], get_or, Ok, vec_items, sym, ap, ◌∙◌, ap₂}
use Rattle.std.proofs.lemmas.Option.{MatchOption-at_some}
use Rattle.ideal.specs.Rings.{ring}
use Rattle.polynomial.specs.Kept.{polynomials}
use Rattle.polynomial.specs.Views.{view}
use Rattle.polynomial.proofs.Outcomes.{because_ok, answered_ok}
use Rattle.division.specs.Elements.{elements}
use Rattle.division.specs.Limits.{division, pair}
use Rattle.calls.proofs.Reaching.{held-polynomials}
use Rattle.calls.proofs.Vanishing.{zero_by_length, pair_by}
use Rattle.calls.proofs.held.Checker.is_pair_left.Goals as goal

pub invariant_of-basis : goal.invariant_of-basis
invariant_of-basis g c =
    let before = c.args.self.now in
    record { within = held-polynomials g.met.F.Field.lawful g.met.O.MonomialOrder.lawful before.check before.basis before.state _ c.ring.ensures before.reached }

pub returns-clause-value : goal.returns-clause-value
returns-clause-value g c =
    let check = c.args.self.now.check in
    let k = g.F.Field.arithmetic check.ring.field in
    let n = check.ring.variables in
    let cmp = g.O.MonomialOrder.comparison check.ring.order in
    let basis = polynomials c.args.self.now.basis in
    let j = c.args.j in
    let l = c.args.l in
    let p = c.unwrap.result in
    let q = c.unwrap-2.result in
    let s = vec_items c.load_s_polynomial-formed.new.self.dividend.sum.terms in
    let left = vec_items c.reduce-divided.new.self.remainder.terms in
    let is-p = (MatchOption-at_some _ _ p c.unwrap.ensures c.get.ensures).1 in
    let is-q = (MatchOption-at_some _ _ q c.unwrap-2.ensures c.get-2.ensures).1 in
    let made = because_ok _ c.load_s_polynomial-formed.result _ c.in_ok-in_work.ensures in
    let formed : Ok (view s) ≡ pair (ring k n cmp) (get_or basis j []) (get_or basis l []) =
    answered_ok c.load_s_polynomial-formed.result _ (view s) _ made c.load_s_polynomial-formed.ensures.value
    ∙ ap (λ r. pair (ring (g.F.Field.arithmetic r.field) r.variables (g.O.MonomialOrder.comparison r.order)) (view p.now) (view q.now)) c.ring-2.ensures
    ∙ ap₂ (pair (ring k n cmp)) is-p is-q in
    let ok = because_ok _ c.reduce-divided.result _ c.in_ok-in_work-2.ensures in
    let outcome : Ok (view left) ≡ division (ring k n cmp) n (elements basis) (view s) =
    answered_ok c.reduce-divided.result _ (view left) _ ok c.reduce-divided.ensures.value
    ∙ ap (λ r. division (ring (g.F.Field.arithmetic r.field) r.variables (g.O.MonomialOrder.comparison r.order)) r.variables (elements basis) (view s)) c.ring.ensures in
    sym (pair_by k n cmp basis j (get_or basis j []) l (get_or basis l []) (view s) (view left) c.is_empty.result formed outcome
    (zero_by_length c.remainder.result.now left c.is_empty.result c.remainder.ensures c.is_empty.ensures))
