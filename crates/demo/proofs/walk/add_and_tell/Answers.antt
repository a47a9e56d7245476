use Rattle.polynomial.proofs.Steps.{factor_at}
use Rattle.demo.proofs.walk.add_and_tell.Goals as goal

pub invariant_of-product-clause-factored : goal.invariant_of-product-clause-factored
invariant_of-product-clause-factored g c =
    let r = c.args.ring.now in
    factor_at {k = g.F.Field.arithmetic r.field} (g.met.F.Field.lawful r.field) {n = r.variables} {cmp = g.O.MonomialOrder.comparison r.order} (g.met.O.MonomialOrder.lawful r.order r.variables)
    c.loop-term.term-index c.args.cofactor.now c.term-item.result c.loop-term-test.true c.term-item.is c.requires.cofactor
