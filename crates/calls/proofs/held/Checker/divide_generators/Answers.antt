-- A generator more divides to 0, or the finish ends there.
use Rattle.std.proofs.Common.{◌≡◌, ◌<◌, ◌≤◌, [], length, get_or, Ok, Err, Result, sym, ap, ◌∙◌, rules}
use Rattle.std.proofs.lemmas.Result.{err_from_is_err_and}
use Rattle.polynomial.specs.Kept.{polynomials}
use Rattle.ideal.specs.Rings.{ring}
use Rattle.fault.specs.declared.fault.Fault.{Fault}
use Rattle.fault.specs.declared.fault.Work.TheVariants.{Generator as Dividing}
use Rattle.fault.specs.declared.fault.Fault.TheVariants.{GeneratorLeft}
use Rattle.division.specs.Elements.{elements}
use Rattle.division.specs.Limits.{division}
use Rattle.run.specs.Finishing.{vanish}
use Rattle.calls.proofs.Holding.{moved, same_then}
use Rattle.calls.proofs.Vanishing.{generators_on, generators_stop, generators_end}
use Rattle.calls.proofs.held.Checker.divide_generators.Goals as goal

abbrev refused : Fault → Result (Unit {0}) Fault
refused e = Err e

abbrev done : Result (Unit {0}) Fault
done = Ok tt

pub returns-in_err-divide_generator : goal.returns-in_err-divide_generator
returns-in_err-divide_generator g c =
    let before = c.args.self.now in
    let now = c.loop-number.self in
    let k = g.F.Field.arithmetic before.check.ring.field in
    let n = before.check.ring.variables in
    let cmp = g.O.MonomialOrder.comparison before.check.ring.order in
    let i = c.loop-number.number in
    let (same, so_far) = c.loop-number.invariant in
    let e = c.in_err-divide_generator.field-0.0 in
    let (fault, is, was) = err_from_is_err_and c.from_residual.result c.from_residual.ensures.1 in
    let stopped = moved before now same (λ ch bs. refused e ≡ vanish (Dividing i) (GeneratorLeft i) (division (ring (g.F.Field.arithmetic ch.ring.field) ch.ring.variables (g.O.MonomialOrder.comparison ch.ring.order)) ch.ring.variables (elements (polynomials bs)) (get_or (polynomials ch.generators) i []))) c.in_err-divide_generator.ensures.value in
    let known : i < length (polynomials before.check.generators) = search rules in
    record {
      value = is ∙ ap refused was ∙ sym (so_far ∙ generators_stop k n cmp (polynomials before.basis) (polynomials before.check.generators) i known e (sym stopped));
      same = same_then before now c.divide_generator.new.self same c.divide_generator.ensures.same;
    }

pub loop-number-preserved : goal.loop-number-preserved
loop-number-preserved g c =
    let before = c.args.self.now in
    let now = c.loop-number.self in
    let k = g.F.Field.arithmetic before.check.ring.field in
    let n = before.check.ring.variables in
    let cmp = g.O.MonomialOrder.comparison before.check.ring.order in
    let i = c.loop-number.number in
    let (same, so_far) = c.loop-number.invariant in
    let passed = moved before now same (λ ch bs. done ≡ vanish (Dividing i) (GeneratorLeft i) (division (ring (g.F.Field.arithmetic ch.ring.field) ch.ring.variables (g.O.MonomialOrder.comparison ch.ring.order)) ch.ring.variables (elements (polynomials bs)) (get_or (polynomials ch.generators) i []))) c.in_ok-divide_generator.ensures.value in
    let known : i < length (polynomials before.check.generators) = search rules in
    (same_then before now c.divide_generator.new.self same c.divide_generator.ensures.same, so_far ∙ generators_on k n cmp (polynomials before.basis) (polynomials before.check.generators) i known (sym passed))

pub returns : goal.returns
returns g c =
    let before = c.args.self.now in
    let k = g.F.Field.arithmetic before.check.ring.field in
    let n = before.check.ring.variables in
    let cmp = g.O.MonomialOrder.comparison before.check.ring.order in
    let i = c.loop-number.number in
    let (same, so_far) = c.loop-number.invariant in
    let all : length (polynomials before.check.generators) ≤ i = search rules in
    record { value = sym (so_far ∙ generators_end k n cmp (polynomials before.basis) (polynomials before.check.generators) i all); same = same }
