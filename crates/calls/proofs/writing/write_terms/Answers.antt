-- One term more is written behind those before it.
use Rattle.std.proofs.Common.{◌+◌, ◌∷◌, ◌++◌, length, take, drop, sym, ap, ◌∙◌, ap₂, arith, length-append}
use Rattle.std.proofs.lemmas.List.{take_all}
use Rattle.polynomial.specs.Views.{exponents_of, view}
use Rattle.run.specs.Calls.{flat}
use Rattle.calls.proofs.Tables.{flat_taken, flat_dropped, room, wrote}
use Rattle.calls.proofs.writing.write_terms.Goals as goal

pub write_term-start-requires : goal.write_term-start-requires
write_term-start-requires c =
    let ts = c.args.terms.now in
    let i = c.loop-term.term-index in
    let x = c.term-item.result in
    let before = flat (view (take i ts)) in
    let (at_start, is, fits) = c.loop-term.invariant in
    let left = flat_dropped ts i x c.loop-term-test.true c.term-item.is in
    let count = ap length left ∙ length-append (x.coefficient ∷ exponents_of x.monomial) (flat (view (drop (i + 1) ts))) in
    let space = room before c.args.result_table.now c.loop-term.result_table c.loop-term.start at_start is (omega arith) in
    omega arith

pub loop-term-preserved : goal.loop-term-preserved
loop-term-preserved c =
    let ts = c.args.terms.now in
    let i = c.loop-term.term-index in
    let x = c.term-item.result in
    let before = flat (view (take i ts)) in
    let (at_start, is, fits) = c.loop-term.invariant in
    let taken = flat_taken ts i x c.loop-term-test.true c.term-item.is in
    let left = flat_dropped ts i x c.loop-term-test.true c.term-item.is in
    let count = ap length left ∙ length-append (x.coefficient ∷ exponents_of x.monomial) (flat (view (drop (i + 1) ts))) in
    let more = c.write_term-start.ensures in
    let number = more.count in
    let longer = ap length taken ∙ length-append before (x.coefficient ∷ exponents_of x.monomial) in (
      omega arith,
      wrote before c.args.result_table.now c.loop-term.result_table c.loop-term.start at_start is (x.coefficient ∷ exponents_of x.monomial) c.write_term-start.new.result_table c.write_term-start.result (omega arith) more.table
          ∙ ap (λ z. z ++ drop (c.loop-term.start + c.write_term-start.result) c.args.result_table.now) (sym taken),
      omega arith,
    )

pub returns : goal.returns
returns c =
    let ts = c.args.terms.now in
    let (at_start, is, fits) = c.loop-term.invariant in
    let all = ap (λ us. flat (view us)) (take_all c.loop-term.term-index ts c.loop-term-test.false) in
    is ∙ ap₂ (λ p s. p ++ drop s c.args.result_table.now) all (at_start ∙ ap length all)
