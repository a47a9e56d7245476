-- What is read is a polynomial.
use Rattle.std.proofs.Common.{List, vec_items, sym, subst}
use Rattle.ideal.specs.Rings.{Polynomial}
use Rattle.polynomial.specs.Views.{view}
use Rattle.polynomial.specs.declared.term.Term.{Term}
use Rattle.combination.proofs.Parts.{cofactor_good}
use Rattle.combination.proofs.combination.CofactorSum.add_cofactor.Goals as goal

pub add_terms-requires-clause-cofactor : goal.add_terms-requires-clause-cofactor
add_terms-requires-clause-cofactor g c =
    let r = c.args.generators.now.ring.now in
    let k = g.F.Field.arithmetic r.field in
    let cmp = g.O.MonomialOrder.comparison r.order in
    subst (λ (ts : List Term). Polynomial k r.variables cmp (view ts)) (sym c.terms.ensures)
    (cofactor_good k r.variables cmp (g.met.O.MonomialOrder.lawful r.order r.variables) c.args.number c.args.part.now (view (vec_items c.read_cofactor.new.self.cofactor.terms)) c.in_ok-read_cofactor.ensures.value)
