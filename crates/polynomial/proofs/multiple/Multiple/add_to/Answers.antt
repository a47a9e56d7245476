-- A multiple of a polynomial is one, and so is a sum of two.
use Rattle.std.proofs.Common.{◌≡◌, vec_items, sym, ap, ◌∙◌, subst}
use Rattle.ideal.specs.Polynomials.{sum, multiple}
use Rattle.ideal.specs.Rings.{Polynomial}
use Rattle.ideal.proofs.Carried as carried
use Rattle.polynomial.specs.Limits.{bounded}
use Rattle.polynomial.specs.Rings.{over}
use Rattle.polynomial.specs.Views.{term_of, view}
use Rattle.polynomial.proofs.Outcomes.{answered_ok, made_if}
use Rattle.polynomial.proofs.Steps.{tight_is, bounded_is}
use Rattle.polynomial.proofs.multiple.Multiple.add_to.Goals as goal

pub sum-requires-clause-p_within : goal.sum-requires-clause-p_within
sum-requires-clause-p_within g c =
    let k = g.F.Field.arithmetic c.args.self.now.ring.now.field in
    let n = c.args.self.now.ring.now.variables in
    let cmp = g.O.MonomialOrder.comparison c.args.self.now.ring.now.order in
    let o = over c.args.self.now.ring.now in
    let t = term_of c.args.self.now.factor in
    let p = view c.args.self.now.polynomial.now in
    let is : view c.terms.result.now ≡ multiple o t p = ap view c.terms.ensures ∙ tight_is (multiple o t p) (view (vec_items c.write.new.out.terms)) c.in_ok-write.ensures in
    subst (Polynomial k n cmp) (sym is) (carried.multiple_closed {k = k} (g.met.F.Field.lawful c.args.self.now.ring.now.field) {n = n} {cmp = cmp} (g.met.O.MonomialOrder.lawful c.args.self.now.ring.now.order n) t p c.args.self.now.factored c.args.self.now.within)

pub returns-clause-within : goal.returns-clause-within
returns-clause-within g c =
    let k = g.F.Field.arithmetic c.args.self.now.ring.now.field in
    let n = c.args.self.now.ring.now.variables in
    let cmp = g.O.MonomialOrder.comparison c.args.self.now.ring.now.order in
    let o = over c.args.self.now.ring.now in
    let t = term_of c.args.self.now.factor in
    let p = view c.args.self.now.polynomial.now in
    let f = view c.args.f.now in
    let v = view (vec_items c.sum.new.out.terms) in
    let is : view c.terms.result.now ≡ multiple o t p = ap view c.terms.ensures ∙ tight_is (multiple o t p) (view (vec_items c.write.new.out.terms)) c.in_ok-write.ensures in
    made_if (Polynomial k n cmp v) c.sum.result (λ u e.
    let room = c.saturating_sub-room.result in
    let whole : v ≡ sum o (multiple o t p) f = bounded_is room (sum o (view c.terms.result.now) f) v (answered_ok c.sum.result u v (bounded room (sum o (view c.terms.result.now) f)) e c.sum.ensures) ∙ ap (λ x. sum o x f) is in
    subst (Polynomial k n cmp) (sym whole) (carried.step_closed {k = k} (g.met.F.Field.lawful c.args.self.now.ring.now.field) {n = n} {cmp = cmp} (g.met.O.MonomialOrder.lawful c.args.self.now.ring.now.order n) t p f c.args.self.now.factored c.args.self.now.within c.requires))
