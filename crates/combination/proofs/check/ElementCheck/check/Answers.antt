-- What the answer of the check means.
use Rattle.std.proofs.Common.{vec_items}
use Rattle.polynomial.specs.Kept.{polynomials}
use Rattle.polynomial.specs.Views.{view}
use Rattle.combination.proofs.Verdicts.{verdict}
use Rattle.combination.proofs.check.ElementCheck.check.Goals as goal

pub returns-clause-verdict : goal.returns-clause-verdict
returns-clause-verdict g c =
    let family = c.args.generators.now in
    let r = family.ring.now in
    let offered = c.args.offered.now in
    verdict (g.F.Field.arithmetic r.field) (g.met.F.Field.lawful r.field) r.variables (g.O.MonomialOrder.comparison r.order) (g.met.O.MonomialOrder.lawful r.order r.variables)
    (polynomials family.list.now) family.within c.args.number offered.table.now offered.cofactors.now offered.counts.now
    c.examine.result (view (vec_items c.examine.new.self.element.terms)) c.examine.ensures.value
