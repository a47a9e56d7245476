-- A call more goes on from the run before it.
use Rattle.std.proofs.Common.{◌≡◌, ◌+◌, List, [], get_or, drop, vec_items, sym, refl, ◌∙◌, subst, subst₂, rules}
use Rattle.std.proofs.lemmas.List.{drop_all}
use Rattle.run.specs.Calls.{hear}
use Rattle.run.specs.Hears.{Goes}
use Rattle.run.specs.Models.{Call as Request}
use Rattle.run.specs.Runs.{model_of}
use Rattle.calls.specs.Shown.{shown}
use Rattle.calls.specs.Sequences.{request, spoken, Sequence}
use Rattle.calls.specs.declared.call.Call.TheVariants.{Open as OpenCall}
use Rattle.calls.proofs.Sequencing.{Underway, begun, ended, gone_on}
use Rattle.calls.proofs.sequence.run_calls.Goals as goal

pub loop-call-init : goal.loop-call-init
loop-call-init g c =
    let new = c.in_ok-checker.checker in
    let k = g.F.Field.arithmetic new.check.ring.field in
    let cmp = g.O.MonomialOrder.comparison new.check.ring.order in
    let (first, field, order) = c.in_ok-checker.ensures.fresh in
    let none : vec_items c.in_ok-replies.replies ≡ [] = search rules in (
      subst₂ (λ m rs. Underway k cmp c.args.calls.now c.args.result_table.now c.args.calls.now m c.args.result_table.now rs) (sym first) (sym none)
          (begun k cmp c.args.calls.now c.args.result_table.now (g.met.F.Field.lawful new.check.ring.field) (g.met.O.MonomialOrder.lawful new.check.ring.order)),
      refl,
      refl,
      search rules,
      search rules,
    )

pub loop-call-preserved : goal.loop-call-preserved
loop-call-preserved g c =
    let new = c.in_ok-checker.checker in
    let k = g.F.Field.arithmetic new.check.ring.field in
    let cmp = g.O.MonomialOrder.comparison new.check.ring.order in
    let (underway, field, order, count, space) = c.loop-call.invariant in
    let promise = c.call.ensures.promise in
    let more = c.push_reserved.ensures in (
      subst (λ rs. Underway k cmp c.args.calls.now c.args.result_table.now (drop (c.loop-call.call-index + 1) c.args.calls.now) (shown c.call.new.self) c.call.new.result_table rs) (sym more.items)
          (gone_on k cmp c.args.calls.now c.args.result_table.now c.loop-call.call-index (shown c.loop-call.checker) (shown c.call.new.self) c.loop-call.result_table c.call.new.result_table
          (vec_items c.loop-call.replies) c.call.result
          (subst₂ (λ f o. (spoken c.call.result c.call.new.result_table, shown c.call.new.self) ≡ hear (g.F.Field.arithmetic f) (g.O.MonomialOrder.comparison o) (shown c.loop-call.checker) (request (get_or c.args.calls.now c.loop-call.call-index (OpenCall 0)) c.loop-call.result_table)) field order promise.heard)
          (subst₂ (λ f o. (past : List Request) → model_of (g.F.Field.arithmetic f) (g.O.MonomialOrder.comparison o) past ≡ shown c.loop-call.checker → Goes (g.F.Field.arithmetic f) (g.O.MonomialOrder.comparison o) past (request (get_or c.args.calls.now c.loop-call.call-index (OpenCall 0)) c.loop-call.result_table) (spoken c.call.result c.call.new.result_table) (shown c.call.new.self)) field order promise.runs)
          c.call.ensures.table c.loop-call-test.true underway),
      promise.field ∙ field,
      promise.order ∙ order,
      search rules,
      search rules,
    )

pub returns : goal.returns
returns g c =
    let new = c.in_ok-checker.checker in
    let (first, field, order) = c.in_ok-checker.ensures.fresh in
    let (underway, _, _, count, space) = c.loop-call.invariant in
    let calls = c.args.calls.now in
    subst₂ (λ f o. Sequence (g.F.Field.arithmetic f) (g.O.MonomialOrder.comparison o) calls c.args.result_table.now (vec_items c.loop-call.replies) c.loop-call.result_table) field order
    (ended (g.F.Field.arithmetic new.check.ring.field) (g.O.MonomialOrder.comparison new.check.ring.order) calls c.args.result_table.now (drop c.loop-call.call-index calls) (shown c.loop-call.checker) c.loop-call.result_table (vec_items c.loop-call.replies)
    (drop_all c.loop-call.call-index calls c.loop-call-test.false) underway)
