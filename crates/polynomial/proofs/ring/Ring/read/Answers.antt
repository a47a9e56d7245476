use Rattle.std.proofs.Common.{◌≡◌, ℕ, ◌+◌, ◌-◌, ◌*◌, ◌/◌, ◌%◌, ◌≤◌, List, [], ◌∷◌, length, Some, None, Ok, Err, vec_items, Result, sym, ap, ◌∙◌, ap₂, append-nil, arith, length-append}
use Rattle.std.specs.Iterator.Adapters.{enumerate_source, enumerate_count}
use Rattle.std.specs.Slice.Iter.{chunks_exact_rest}
use Rattle.std.specs.Option.{option_map}
use Rattle.std.proofs.lemmas.Result.{err_from_is_err_and}
use Rattle.field.specs.Fields.{Arithmetic}
use Rattle.order.specs.Orders.{Compare}
use Rattle.ideal.specs.Rings.{Raw}
use Rattle.polynomial.specs.Results.{answered}
use Rattle.polynomial.specs.Tables.{most, term, terms, read}
use Rattle.polynomial.specs.Views.{exponents_of, term_of, view}
use Rattle.polynomial.specs.declared.flaw.Flaw.{Flaw}
use Rattle.polynomial.proofs.Viewing.{view-append}
use Rattle.polynomial.proofs.Reading.{prefixed, terms_ok, terms_err, terms_none, read_terms, left-more, left-none}
use Rattle.polynomial.proofs.Polynomials.{read_good}
use Rattle.polynomial.proofs.ring.Ring.read.Goals as goal

abbrev err_of : Flaw → Result Raw Flaw
err_of e = Err e

-- what was left once `read` has come so far, from the invariant
whole : (k : Arithmetic) (n : ℕ) (cmp : Compare) (most : ℕ) (table : List ℕ) (r : Result Raw Flaw) → length table % (n + 1) ≡ 0 → length table / (n + 1) ≤ most → terms k n cmp (length table / (n + 1)) 0 None table ≡ r → r ≡ read k n cmp most table
whole k n cmp most table r h l e = sym (read_terms k n cmp most table h l ∙ e)

pub returns-in_err-term-clause-value : goal.returns-in_err-term-clause-value
returns-in_err-term-clause-value g c =
    let k = g.F.Field.arithmetic c.args.self.now.field in
    let cmp = g.O.MonomialOrder.comparison c.args.self.now.order in
    let n = c.args.self.now.variables in
    let i = enumerate_count c.loop-number.number-iterator in
    let rest = chunks_exact_rest (enumerate_source c.loop-number.number-iterator) in
    let last = option_map exponents_of c.loop-number.last in
    let left = length c.args.table.now / (n + 1) - i in
    let out = view (vec_items c.loop-number.out.terms) in
    let front = c.in-Some.numbers.now in
    let back = chunks_exact_rest (enumerate_source c.next.new.self) in
    let step = c.in-Some.ensures.steps in
    let long : length front ≡ n + 1 = step.0.1.1 ∙ c.loop-number.invariant.size in
    let joined = ap length step.0.1.0 ∙ length-append front back in
    let (some, less) = left-more left (n + 1) (length rest) (omega arith) (omega arith) c.loop-number.invariant.whole in
    let (flaw, is, was) = err_from_is_err_and c.from_residual.result c.from_residual.ensures.1 in
    let stop = terms_err k n cmp left i last rest front back out some long step.0.1.0 c.in_err-term.field-0.0 (c.in_err-term.ensures.value ∙ ap (λ i. term k cmp i last front) step.1) in
    ap (λ (r : Result (Unit {0}) Flaw). answered r out) is ∙ ap err_of was ∙ whole k n cmp (most c.args.size) c.args.table.now (Err c.in_err-term.field-0.0) c.if-table-stride-ne0.false (omega arith) (c.loop-number.invariant.so_far ∙ stop)

pub loop-number-preserved : goal.loop-number-preserved
loop-number-preserved g c =
    let k = g.F.Field.arithmetic c.args.self.now.field in
    let cmp = g.O.MonomialOrder.comparison c.args.self.now.order in
    let n = c.args.self.now.variables in
    let i = enumerate_count c.loop-number.number-iterator in
    let j = enumerate_count c.next.new.self in
    let rest = chunks_exact_rest (enumerate_source c.loop-number.number-iterator) in
    let last = option_map exponents_of c.loop-number.last in
    let count = length c.args.table.now / (n + 1) in
    let out = vec_items c.loop-number.out.terms in
    let front = c.in-Some.numbers.now in
    let back = chunks_exact_rest (enumerate_source c.next.new.self) in
    let x = c.in_ok-term.term in
    let step = c.in-Some.ensures.steps in
    let long : length front ≡ n + 1 = step.0.1.1 ∙ c.loop-number.invariant.size in
    let joined = ap length step.0.1.0 ∙ length-append front back in
    let (some, less) = left-more (count - i) (n + 1) (length rest) (omega arith) (omega arith) c.loop-number.invariant.whole in
    let down : count - i - 1 ≡ count - j = omega arith in
    let on : i + 1 ≡ j = omega arith in
    let behind : length back ≡ length rest - (n + 1) = omega arith in
    let more = terms_ok k n cmp (count - i) i last rest front back (view out) some long step.0.1.0 (term_of x) (c.in_ok-term.ensures.value ∙ ap (λ i. term k cmp i last front) step.1) in
    record {
      finite = tt;
      size = step.0.0 ∙ c.loop-number.invariant.size;
      within = omega arith;
      whole = behind ∙ less ∙ ap (λ z. z * (n + 1)) down;
      written = omega (arith, c.push_reserved.ensures.len);
      alike = c.in_ok-term.ensures.variables;
      so_far = c.loop-number.invariant.so_far ∙ more ∙ ap (λ v. prefixed v (terms k n cmp (count - i - 1) (i + 1) (Some (exponents_of x.monomial)) back)) (sym (view-append out (x ∷ [])) ∙ ap view (sym c.push_reserved.ensures.items))
          ∙ ap₂ (λ z i. prefixed (view (vec_items c.push_reserved.new.self)) (terms k n cmp z i (Some (exponents_of x.monomial)) back)) down on;
    }

pub returns : goal.returns
returns g c =
    let k = g.F.Field.arithmetic c.args.self.now.field in
    let cmp = g.O.MonomialOrder.comparison c.args.self.now.order in
    let n = c.args.self.now.variables in
    let i = enumerate_count c.loop-number.number-iterator in
    let rest = chunks_exact_rest (enumerate_source c.loop-number.number-iterator) in
    let left = length c.args.table.now / (n + 1) - i in
    let out = view (vec_items c.loop-number.out.terms) in
    let inv = c.loop-number.invariant in
    let none = left-none left (n + 1) (length rest) (let h = c.in-None.ensures.steps.0.1.0 in omega (arith, inv.size)) inv.whole in
    let value : Ok out ≡ read k n cmp (most c.args.size) c.args.table.now = whole k n cmp (most c.args.size) c.args.table.now (Ok out) c.if-table-stride-ne0.false (omega arith)
    (inv.so_far ∙ ap (prefixed out) (terms_none k n cmp left i (option_map exponents_of c.loop-number.last) rest none) ∙ ap Ok (append-nil out)) in
    record { value = value; within = read_good k n cmp (g.met.O.MonomialOrder.lawful c.args.self.now.order n) (most c.args.size) c.args.table.now out (sym value); few = let w = c.loop-number.out.terms.ok.0 in omega arith }
