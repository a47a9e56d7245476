-- A term of the cofactor is a factor.
use Rattle.polynomial.proofs.Steps.{factor_at}
use Rattle.combination.proofs.combination.add_terms.Goals as goal

pub invariant_of-product-clause-factored : goal.invariant_of-product-clause-factored
invariant_of-product-clause-factored g c =
    let r = c.args.ring.now in
    factor_at {k = g.F.Field.arithmetic r.field} (g.met.F.Field.lawful r.field) {n = r.variables} {cmp = g.O.MonomialOrder.comparison r.order} (g.met.O.MonomialOrder.lawful r.order r.variables)
    c.loop-term.term c.args.cofactor.now c.index-cofactor-term.result c.loop-term-test.true c.index-cofactor-term.is c.requires.cofactor
