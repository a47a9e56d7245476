-- A turn that is done keeps the division on its way; one that is refused ends it.
use Rattle.std.proofs.Common.{◌≡◌, ◌<◌, List, [], length, Ok, Err, vec_items, Result, sym, ap, ◌∙◌, subst, arith, rules}
use Rattle.std.proofs.lemmas.List.{nil_from_length}
use Rattle.std.proofs.lemmas.Result.{err_from_is_err_and}
use Rattle.ideal.specs.Rings.{ring as operations, Polynomial}
use Rattle.polynomial.specs.Kept.{polynomials}
use Rattle.polynomial.specs.Results.{answered}
use Rattle.polynomial.specs.Rings.{over}
use Rattle.polynomial.specs.Views.{view}
use Rattle.polynomial.specs.declared.flaw.Limit.{Limit}
use Rattle.polynomial.specs.declared.term.Term.{Term}
use Rattle.polynomial.proofs.Viewing.{view-length}
use Rattle.division.specs.Elements.{elements}
use Rattle.division.specs.Limits.{Outcome}
use Rattle.division.proofs.Advance.{turn_ready, turn-onward, turn_stops}
use Rattle.division.proofs.Settling.{settles}
use Rattle.division.proofs.Turning.{view-small, each-element}
use Rattle.division.proofs.Turns.{Onward, ended}
use Rattle.division.proofs.division.Division.reduce.Goals as goal

abbrev refused : Limit → Outcome
refused l = Err l

pub loop-self-smaller : goal.loop-self-smaller
loop-self-smaller g c =
    let ring = c.args.family.now.ring.now in
    let k = g.F.Field.arithmetic ring.field in
    let n = ring.variables in
    let cmp = g.O.MonomialOrder.comparison ring.order in
    let ps = polynomials c.args.family.now.list.now in
    let rest = vec_items c.loop-self.self.remainder.terms in
    let work = vec_items c.loop-self.self.dividend.sum.terms in
    let fits = c.loop-self.invariant.fits in
    let a = view-length rest in
    let b = view-length work in
    let some : 0 < length work = search rules in
    (turn_ready (g.met.F.Field.lawful ring.field) (g.met.O.MonomialOrder.lawful ring.order n)
    (elements ps) (each-element (Polynomial k n cmp) ps c.args.family.now.within) (view rest) (view work) (record { held = (c.loop-self.invariant.within, view-small work); fits = omega arith })
    (view (vec_items c.turn.new.self.remainder.terms), view (vec_items c.turn.new.self.dividend.sum.terms)) c.in_ok-turn.ensures.value).1 (omega arith)

pub loop-self-preserved : goal.loop-self-preserved
loop-self-preserved g c = record {
  within = c.turn.ensures.within;
  fits = c.turn.ensures.fits;
  onward = turn-onward (over c.args.family.now.ring.now) (elements (polynomials c.args.family.now.list.now))
      (view (vec_items c.args.self.now.dividend.sum.terms)) (view (vec_items c.loop-self.self.remainder.terms)) (view (vec_items c.loop-self.self.dividend.sum.terms))
      c.loop-self.invariant.onward (view (vec_items c.turn.new.self.remainder.terms), view (vec_items c.turn.new.self.dividend.sum.terms)) c.in_ok-turn.ensures.value;
}

pub returns-in_err-turn-clause-value : goal.returns-in_err-turn-clause-value
returns-in_err-turn-clause-value g c =
    let ring = c.args.family.now.ring.now in
    let k = g.F.Field.arithmetic ring.field in
    let n = ring.variables in
    let cmp = g.O.MonomialOrder.comparison ring.order in
    let ps = polynomials c.args.family.now.list.now in
    let f = vec_items c.args.self.now.dividend.sum.terms in
    let fits = c.loop-self.invariant.fits in
    let (limit, is, was) = err_from_is_err_and c.from_residual.result c.from_residual.ensures.1 in
    ap (λ (r : Result (Unit {0}) Limit). answered r (view (vec_items c.turn.new.self.remainder.terms))) is ∙ ap refused was
    ∙ (settles (g.met.F.Field.lawful ring.field) (g.met.O.MonomialOrder.lawful ring.order n)
    (elements ps) (each-element (Polynomial k n cmp) ps c.args.family.now.within) (view f) (c.requires.dividend, view-small f)).one (Err c.in_err-turn.field-0.0)
    (turn_stops (operations k n cmp) (elements ps) (view f) (view (vec_items c.loop-self.self.remainder.terms)) (view (vec_items c.loop-self.self.dividend.sum.terms)) c.loop-self.invariant.onward
    c.in_err-turn.field-0.0 c.in_err-turn.ensures.value)

pub returns : goal.returns
returns g c =
    let ring = c.args.family.now.ring.now in
    let k = g.F.Field.arithmetic ring.field in
    let n = ring.variables in
    let cmp = g.O.MonomialOrder.comparison ring.order in
    let ps = polynomials c.args.family.now.list.now in
    let f = vec_items c.args.self.now.dividend.sum.terms in
    let rest = vec_items c.loop-self.self.remainder.terms in
    let work = vec_items c.loop-self.self.dividend.sum.terms in
    let fits = c.loop-self.invariant.fits in
    let none : work ≡ [] = nil_from_length work (search rules) in
    let outcome = settles (g.met.F.Field.lawful ring.field) (g.met.O.MonomialOrder.lawful ring.order n)
    (elements ps) (each-element (Polynomial k n cmp) ps c.args.family.now.within) (view f) (c.requires.dividend, view-small f) in
    let value = outcome.one (Ok (view rest)) (ended (operations k n cmp) (elements ps) (view f) (view rest)
    (subst (λ (w : List Term). Onward (operations k n cmp) (elements ps) (view f) (view rest) (view w)) none c.loop-self.invariant.onward)) in
    record { value = value; within = (outcome.remainder (view rest) (sym value)).1.0; few = omega arith }
