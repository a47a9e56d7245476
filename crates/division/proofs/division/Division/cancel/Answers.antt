use Rattle.std.proofs.Common.{length, vec_items, ◌∙◌, rules}
use Rattle.polynomial.specs.Views.{term_of, exponents_of, view}
use Rattle.division.proofs.Cancelling as cancelling
use Rattle.division.proofs.division.Division.cancel.Goals as goal

pub unwrap-coefficient-requires : goal.unwrap-coefficient-requires
unwrap-coefficient-requires g c =
    let ring = c.args.ring.now in
    cancelling.answers (g.met.F.Field.lawful ring.field) (g.met.O.MonomialOrder.lawful ring.order ring.variables)
    (record { some = search rules; first = c.head-item.is; ok = c.requires.element }) (term_of c.args.leading.now) c.requires.leading
    c.opposite_quotient.result (cc)

pub invariant_of-multiple-clause-factored : goal.invariant_of-multiple-clause-factored
invariant_of-multiple-clause-factored g c =
    let ring = c.args.ring.now in
    cancelling.factor (g.met.F.Field.lawful ring.field) (g.met.O.MonomialOrder.lawful ring.order ring.variables)
    (record { some = search rules; first = c.head-item.is; ok = c.requires.element }) (term_of c.args.leading.now) c.requires.leading
    c.unwrap-coefficient.result (cc) (exponents_of c.args.quotient.now) c.requires.quotient

pub returns-clause-value : goal.returns-clause-value
returns-clause-value g c =
    let ring = c.args.ring.now in
    (rw c.remainder-beside.ensures at c.add.ensures.value)
    ∙ cancelling.cancels (g.met.F.Field.lawful ring.field) (g.met.O.MonomialOrder.lawful ring.order ring.variables)
    (record { some = search rules; first = c.head-item.is; ok = c.requires.element }) (term_of c.args.leading.now) c.requires.leading
    c.unwrap-coefficient.result (cc)
    (length (vec_items c.args.self.now.remainder.terms)) (exponents_of c.args.quotient.now) (view (vec_items c.args.self.now.dividend.sum.terms))
