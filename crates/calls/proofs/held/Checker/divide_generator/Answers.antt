-- What the division leaves decides.
use Rattle.std.proofs.Common.{◌≡◌, false, [], get_or, Ok, vec_items, sym, ap, ◌∙◌}
use Rattle.std.proofs.lemmas.Option.{MatchOption-at_some}
use Rattle.ideal.specs.Rings.{ring}
use Rattle.polynomial.specs.Kept.{polynomials}
use Rattle.polynomial.specs.Views.{view}
use Rattle.polynomial.proofs.Outcomes.{because_ok, answered_ok}
use Rattle.fault.specs.declared.fault.Work.TheVariants.{Generator as Dividing}
use Rattle.fault.specs.declared.fault.Fault.TheVariants.{GeneratorLeft}
use Rattle.division.specs.Elements.{elements}
use Rattle.division.specs.Limits.{division}
use Rattle.calls.proofs.Reaching.{held-polynomials}
use Rattle.calls.proofs.Vanishing.{zero_by_length, vanish_by}
use Rattle.calls.proofs.held.Checker.divide_generator.Goals as goal

pub invariant_of-basis : goal.invariant_of-basis
invariant_of-basis g c =
    let before = c.args.self.now in
    record { within = held-polynomials g.met.F.Field.lawful g.met.O.MonomialOrder.lawful before.check before.basis before.state _ c.ring.ensures before.reached }

pub returns-then-not-is_empty-clause-value : goal.returns-then-not-is_empty-clause-value
returns-then-not-is_empty-clause-value g c =
    let check = c.args.self.now.check in
    let k = g.F.Field.arithmetic check.ring.field in
    let n = check.ring.variables in
    let cmp = g.O.MonomialOrder.comparison check.ring.order in
    let basis = polynomials c.args.self.now.basis in
    let i = c.args.number in
    let p = c.unwrap-generator.result in
    let left = vec_items c.divide.new.self.remainder.terms in
    let (within, is, few) = MatchOption-at_some _ _ p c.unwrap-generator.ensures c.get.ensures in
    let ok = because_ok _ c.divide.result _ c.in_ok-in_work.ensures in
    let outcome : Ok (view left) ≡ division (ring k n cmp) n (elements basis) (get_or (polynomials check.generators) i []) =
    answered_ok c.divide.result _ (view left) _ ok c.divide.ensures.value
    ∙ ap (λ r. division (ring (g.F.Field.arithmetic r.field) r.variables (g.O.MonomialOrder.comparison r.order)) r.variables (elements basis) (view p.now)) c.ring.ensures
    ∙ ap (division (ring k n cmp) n (elements basis)) (is ∙ ap (λ l. get_or (polynomials l) i []) c.generators.ensures) in
    sym (vanish_by (Dividing i) (GeneratorLeft i) (view left) _ false outcome (zero_by_length c.remainder.result.now left false c.remainder.ensures c.if-not-is_empty.ensures))
