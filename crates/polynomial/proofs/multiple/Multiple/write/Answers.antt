use Rattle.std.proofs.Common.{◌≡◌, ℕ, ◌+◌, ◌<◌, true, List, [], ◌∷◌, ◌++◌, length, get_or, drop, vec_items, sym, ap, ◌∙◌, subst, rules}
use Rattle.order.specs.Monomials.{multiply, small}
use Rattle.ideal.specs.Polynomials.{Operations, Term as Written, multiple}
use Rattle.ideal.specs.Rings.{Polynomial}
use Rattle.polynomial.specs.Limits.{tight}
use Rattle.polynomial.specs.Rings.{over}
use Rattle.polynomial.specs.Views.{exponents_of, term_of, view}
use Rattle.polynomial.specs.declared.term.Term.{Term}
use Rattle.polynomial.proofs.Viewing.{view-append, view_at}
use Rattle.polynomial.proofs.Steps.{behind, multiple_on, within_drop}
use Rattle.polynomial.proofs.multiple.Multiple.write.Goals as goal

-- one more term of the multiple is written
turn : (o : Operations ℕ (List ℕ)) (s : Written ℕ (List ℕ)) (p : List Term) (i : ℕ) (x y : Term) (before after : List Term) → i < length p → x ≡ get_or p i x
    → small (o.multiply s.1 (exponents_of x.monomial)) ≡ true → term_of y ≡ (o.times s.0 x.coefficient, o.multiply s.1 (exponents_of x.monomial)) → after ≡ before ++ (y ∷ [])
    → tight (multiple o s (view p)) ≡ behind (view before) (tight (multiple o s (view (drop i p))))
    → tight (multiple o s (view p)) ≡ behind (view after) (tight (multiple o s (view (drop (i + 1) p))))
turn o s p i x y before after h e low is wrote inv =
    let rest = view (drop (i + 1) p) in
    inv ∙ ap (λ v. behind (view before) (tight (multiple o s v))) (view_at i p x h e) ∙ multiple_on o s (term_of x) rest (view before) low
    ∙ ap (λ v. behind v (tight (multiple o s rest))) (ap (λ v. view before ++ (v ∷ [])) (sym is) ∙ sym (view-append before (y ∷ [])) ∙ ap view (sym wrote))

pub times-coefficient-requires-clause-b_code : goal.times-coefficient-requires-clause-b_code
times-coefficient-requires-clause-b_code g c =
    let k = g.F.Field.arithmetic c.args.self.now.ring.now.field in
    let n = c.args.self.now.ring.now.variables in
    let cmp = g.O.MonomialOrder.comparison c.args.self.now.ring.now.order in
    let i = c.loop-term.term-index in
    let x = c.term-item.result in
    let here = subst (Polynomial k n cmp) (view_at i c.args.self.now.polynomial.now x c.loop-term-test.true c.term-item.is) (within_drop {k = k} (g.met.F.Field.lawful c.args.self.now.ring.now.field) {n = n} {cmp = cmp} (g.met.O.MonomialOrder.lawful c.args.self.now.ring.now.order n) i c.args.self.now.polynomial.now c.args.self.now.within) in
    here.0.0.0

pub loop-term-preserved : goal.loop-term-preserved
loop-term-preserved g c =
    let o = over c.args.self.now.ring.now in
    let x = c.term-item.result in
    let (low, product) = c.in-Some.ensures in
    let y : Term = record { coefficient = c.times-coefficient.result; monomial = c.in-Some.monomial } in
    let is : term_of y ≡ (o.times c.args.self.now.factor.coefficient x.coefficient, multiply (exponents_of c.args.self.now.factor.monomial) (exponents_of x.monomial)) = cc (c.times-coefficient.ensures, product) in (
      search rules,
      search rules,
      turn o (term_of c.args.self.now.factor) c.args.self.now.polynomial.now c.loop-term.term-index x y (vec_items c.loop-term.out.terms) (vec_items c.push_reserved.new.self) c.loop-term-test.true c.term-item.is low is c.push_reserved.ensures.items c.loop-term.invariant.2,
    )
