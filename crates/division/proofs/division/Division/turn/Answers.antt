use Rattle.std.proofs.Common.{◌≡◌, ◌<◌, List, [], ◌∷◌, length, get_or, drop, vec_items, sym, ap, ◌∙◌, subst, arith, length-append, rules}
use Rattle.std.proofs.lemmas.List.{drop_more}
use Rattle.ideal.specs.Rings.{Polynomial}
use Rattle.ideal.proofs.Carried.{uncons}
use Rattle.polynomial.specs.Kept.{polynomials}
use Rattle.polynomial.specs.Rings.{over, Within}
use Rattle.polynomial.specs.Views.{term_of, exponents_of, view}
use Rattle.polynomial.specs.declared.term.Term.{Term}
use Rattle.division.proofs.Turning.{taken, pushed, turned-kept, turned-used, quotient_sized, cancel-fits}
use Rattle.division.proofs.division.Division.turn.Goals as goal

-- the leading term stands first
leads : (ts work : List Term) (x : Term) → ts ≡ work → 0 < length ts → x ≡ get_or ts 0 x → (0 < length work) × (x ≡ get_or work 0 x) × (work ≡ x ∷ drop 1 work)
leads ts work x e some first =
    let l = ap length e in
    let some' : 0 < length work = omega arith in
    let first' = first ∙ ap (λ w. get_or w 0 x) e in
    (some', first', drop_more work 0 x some' ∙ ap (λ y. y ∷ drop 1 work) (sym first'))

pub returns-in_default-find_divisor : goal.returns-in_default-find_divisor
returns-in_default-find_divisor g c =
    let ring = c.args.family.now.ring.now in
    let k = g.F.Field.arithmetic ring.field in
    let n = ring.variables in
    let cmp = g.O.MonomialOrder.comparison ring.order in
    let rest = vec_items c.args.self.now.remainder.terms in
    let work = vec_items c.args.self.now.dividend.sum.terms in
    let x = c.leading-item.result in
    let (some, first, is) = leads c.dividend.result.now work x c.dividend.ensures (search rules) c.leading-item.is in
    let fits = c.requires.fits in
    let tail = vec_items c.take_leading.new.self.sum.terms in
    let after = vec_items c.push.new.self.terms in
    let kept = taken c.take_leading.result work tail x some first c.take_leading.ensures in
    let added = pushed rest after x (omega arith) c.push.ensures.terms in
    let more = ap length added ∙ length-append rest (x ∷ []) in
    let less = ap length kept in
    record {
      value = turned-kept k n cmp (polynomials c.args.family.now.list.now) rest work tail x kept c.in_default-find_divisor.ensures after added;
      kept = tt;
      within = (uncons (g.met.F.Field.lawful ring.field) (g.met.O.MonomialOrder.lawful ring.order n) (term_of x) (view tail) (subst (λ (w : List Term). Polynomial k n cmp (view w)) kept c.requires.dividend)).1;
      fits = omega arith;
    }

pub cancel-requires-clause-quotient : goal.cancel-requires-clause-quotient
cancel-requires-clause-quotient g c =
    let ring = c.args.family.now.ring.now in
    let work = vec_items c.args.self.now.dividend.sum.terms in
    let x = c.leading-item.result in
    let (some, first, is) = leads c.dividend.result.now work x c.dividend.ensures (search rules) c.leading-item.is in
    let (known, (h, whole, found)) = c.in-Some.ensures in
    quotient_sized (g.met.F.Field.lawful ring.field) (g.met.O.MonomialOrder.lawful ring.order ring.variables)
    (polynomials c.args.family.now.list.now) c.args.family.now.within (term_of x) (view (drop 1 work))
    (subst (λ (w : List Term). Within ring (view w)) is c.requires.dividend) h (exponents_of c.in-Some.divisor.quotient) found

pub returns-clause-value : goal.returns-clause-value
returns-clause-value g c =
    let ring = c.args.family.now.ring.now in
    let work = vec_items c.args.self.now.dividend.sum.terms in
    let x = c.leading-item.result in
    let (some, first, is) = leads c.dividend.result.now work x c.dividend.ensures (search rules) c.leading-item.is in
    let (known, (h, whole, found)) = c.in-Some.ensures in
    let (known', is-nth, within, short) = rw c.unwrap-element.ensures at c.get.ensures in
    turned-used (g.F.Field.arithmetic ring.field) ring.variables (g.O.MonomialOrder.comparison ring.order) (polynomials c.args.family.now.list.now)
    (vec_items c.args.self.now.remainder.terms) work (drop 1 work) x is h (exponents_of c.in-Some.divisor.quotient) found
    (view c.unwrap-element.result.now) (is-nth ∙ whole) c.cancel.result (vec_items c.cancel.new.self.remainder.terms) (view (vec_items c.cancel.new.self.dividend.sum.terms))
    (ap (λ r. vec_items r.terms) c.cancel.ensures.remainder) c.cancel.ensures.value

pub returns-clause-fits : goal.returns-clause-fits
returns-clause-fits g c =
    let fits = cancel-fits (over c.args.family.now.ring.now) (length (vec_items c.args.self.now.remainder.terms))
    (term_of c.leading-item.result) (exponents_of c.in-Some.divisor.quotient) (view c.unwrap-element.result.now)
    (vec_items c.args.self.now.dividend.sum.terms) (vec_items c.cancel.new.self.dividend.sum.terms) c.requires.fits c.cancel.result c.cancel.ensures.value c.cancel.ensures.kept in
    let same = ap (λ r. length (vec_items r.terms)) c.cancel.ensures.remainder in
    omega arith
