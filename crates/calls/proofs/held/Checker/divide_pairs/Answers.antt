-- A pair more divides to 0, or the finish ends there.
use Rattle.std.proofs.Common.{◌≡◌, ℕ, ◌<◌, ◌≤◌, [], length, get_or, drop, Some, None, Ok, Err, Option, Result, sym, refl, ap, ◌∙◌, subst, ap₂, rules}
use Rattle.std.proofs.lemmas.Result.{err_from_is_err_and}
use Rattle.ideal.proofs.Lists.{some_injective, none_some}
use Rattle.polynomial.specs.Kept.{polynomials}
use Rattle.fault.specs.declared.fault.Fault.{Fault}
use Rattle.fault.specs.declared.fault.Fault.TheVariants.{PairLeft}
use Rattle.run.specs.Finishing.{pair_vanishes, all_pairs_vanish}
use Rattle.calls.specs.Pairs.{left_over}
use Rattle.calls.specs.Shown.{Same}
use Rattle.calls.proofs.Holding.{moved, same_then}
use Rattle.calls.proofs.Vanishing.{Left, pairs_begin, left_on, left_stop, left_end, all_end}
use Rattle.calls.proofs.held.Checker.divide_pairs.Goals as goal
use Rattle.calls.proofs.held.Checker.divide_pairs.Goals.{then-loop-j-test+then-loop-l-test+in_ok-is_pair_left+then-branch, else-loop-j-test}

abbrev refused : Fault → Result (Unit {0}) Fault
refused e = Err e

-- two ways to say which pair it was
same_pair : (j l j' l' : ℕ) (x : Option (ℕ × ℕ)) → x ≡ Some (j, l) → x ≡ Some (j', l') → (j ≡ j') × (l ≡ l')
same_pair j l j' l' x a b = let z : (j, l) ≡ (j', l') = some_injective (sym a ∙ b) in (ap (λ p. p.0) z, ap (λ p. p.1) z)

not_both : {X : Type 0} (p : ℕ × ℕ) (x : Option (ℕ × ℕ)) → x ≡ None → x ≡ Some p → X
not_both p x a b = none_some (sym a ∙ b)

pub loop-l-init : goal.loop-l-init
loop-l-init g c =
    let mid = c.loop-j.self in
    let known : c.loop-j.j < length (polynomials mid.basis) = search rules in (
      record { check = refl; basis = refl; state = refl },
      pairs_begin (g.F.Field.arithmetic mid.check.ring.field) mid.check.ring.variables (g.O.MonomialOrder.comparison mid.check.ring.order) (polynomials mid.basis) c.loop-j.j known,
    )

pub returns-in_err-is_pair_left : goal.returns-in_err-is_pair_left
returns-in_err-is_pair_left g c =
    let before = c.args.self.now in
    let k = g.F.Field.arithmetic before.check.ring.field in
    let n = before.check.ring.variables in
    let cmp = g.O.MonomialOrder.comparison before.check.ring.order in
    let basis = polynomials before.basis in
    let j = c.loop-j.j in
    let l = c.loop-l.l in
    let now = c.loop-l.self in
    let (same-j, so-far-j) = c.loop-j.invariant in
    let (same-l, so-far-l) = c.loop-l.invariant in
    let same = same_then before c.loop-j.self now same-j same-l in
    let so_far = so-far-j ∙ moved before c.loop-j.self same-j (λ ch bs. let k = g.F.Field.arithmetic ch.ring.field in let cmp = g.O.MonomialOrder.comparison ch.ring.order in
    all_pairs_vanish k ch.ring.variables cmp (polynomials bs) j (drop j (polynomials bs)) ≡ Left k ch.ring.variables cmp (polynomials bs) j l) so-far-l in
    let e = c.in_err-is_pair_left.field-0.0 in
    let (fault, is, was) = err_from_is_err_and c.from_residual.result c.from_residual.ensures.1 in
    let stopped = moved before now same (λ ch bs. refused e ≡ pair_vanishes (g.F.Field.arithmetic ch.ring.field) ch.ring.variables (g.O.MonomialOrder.comparison ch.ring.order) (polynomials bs) j (get_or (polynomials bs) j []) l (get_or (polynomials bs) l [])) c.in_err-is_pair_left.ensures.value in
    let known : l < length basis = search rules in
    record {
      value = is ∙ ap refused was ∙ sym (so_far ∙ left_stop k n cmp basis j l known e (sym stopped));
      same = same_then before now c.is_pair_left.new.self same c.is_pair_left.ensures.same;
    }

pub loop-l-preserved : goal.loop-l-preserved
loop-l-preserved g c =
    let before = c.loop-j.self in
    let k = g.F.Field.arithmetic before.check.ring.field in
    let n = before.check.ring.variables in
    let cmp = g.O.MonomialOrder.comparison before.check.ring.order in
    let basis = polynomials before.basis in
    let j = c.loop-j.j in
    let l = c.loop-l.l in
    let now = c.loop-l.self in
    let (same, so_far) = c.loop-l.invariant in
    let passed = moved before now same (λ ch bs. left_over j l (Ok c.in_ok-is_pair_left.field-0) ≡ pair_vanishes (g.F.Field.arithmetic ch.ring.field) ch.ring.variables (g.O.MonomialOrder.comparison ch.ring.order) (polynomials bs) j (get_or (polynomials bs) j []) l (get_or (polynomials bs) l [])) c.in_ok-is_pair_left.ensures.value in
    let known : l < length basis = search rules in (
      same_then before now c.is_pair_left.new.self same c.is_pair_left.ensures.same,
      so_far ∙ left_on k n cmp basis j l known (sym passed ∙ ap (λ b. left_over j l (Ok b)) c.if-branch.false),
    )

pub loop-j-preserved : goal.loop-j-preserved
loop-j-preserved g c =
    let before = c.args.self.now in
    let k = g.F.Field.arithmetic before.check.ring.field in
    let n = before.check.ring.variables in
    let cmp = g.O.MonomialOrder.comparison before.check.ring.order in
    let basis = polynomials before.basis in
    let j = c.loop-j.j in
    let l = c.loop-l.l in
    let now = c.loop-l.self in
    let (same-j, so-far-j) = c.loop-j.invariant in
    let (same-l, so-far-l) = c.loop-l.invariant in
    let same = same_then before c.loop-j.self now same-j same-l in
    let so_far = so-far-j ∙ moved before c.loop-j.self same-j (λ ch bs. let k = g.F.Field.arithmetic ch.ring.field in let cmp = g.O.MonomialOrder.comparison ch.ring.order in
    all_pairs_vanish k ch.ring.variables cmp (polynomials bs) j (drop j (polynomials bs)) ≡ Left k ch.ring.variables cmp (polynomials bs) j l) so-far-l in
    let all : length basis ≤ l = search rules in
    (same, so_far ∙ left_end k n cmp basis j l all)

pub returns-in-Some : goal.returns-in-Some
returns-in-Some g c =
    let before = c.args.self.now in
    let k = g.F.Field.arithmetic before.check.ring.field in
    let n = before.check.ring.variables in
    let cmp = g.O.MonomialOrder.comparison before.check.ring.order in
    let basis = polynomials before.basis in
    elim c.loop-j-test.branch [
      | then-loop-j-test+then-loop-l-test+in_ok-is_pair_left+then-branch w ↦
          let j = c.loop-j.j in
          let l = w.loop-l.l in
          let now = w.loop-l.self in
          let (same-j, so-far-j) = c.loop-j.invariant in
          let (same-l, so-far-l) = w.loop-l.invariant in
          let same = same_then before c.loop-j.self now same-j same-l in
          let so_far = so-far-j ∙ moved before c.loop-j.self same-j (λ ch bs. let k = g.F.Field.arithmetic ch.ring.field in let cmp = g.O.MonomialOrder.comparison ch.ring.order in
          all_pairs_vanish k ch.ring.variables cmp (polynomials bs) j (drop j (polynomials bs)) ≡ Left k ch.ring.variables cmp (polynomials bs) j l) so-far-l in
          let failed = moved before now same (λ ch bs. left_over j l (Ok w.in_ok-is_pair_left.field-0) ≡ pair_vanishes (g.F.Field.arithmetic ch.ring.field) ch.ring.variables (g.O.MonomialOrder.comparison ch.ring.order) (polynomials bs) j (get_or (polynomials bs) j []) l (get_or (polynomials bs) l [])) w.in_ok-is_pair_left.ensures.value in
          let left : pair_vanishes k n cmp basis j (get_or basis j []) l (get_or basis l []) ≡ Err (PairLeft j l) = sym failed ∙ ap (λ b. left_over j l (Ok b)) w.if-branch.true in
          let known : l < length basis = search rules in
          let (is-j, is-l) = same_pair c.in-Some.j c.in-Some.l j l c.loop-j-test.failing c.in-Some.is w.failing-is in
          record {
            value = ap₂ (λ j l. refused (PairLeft j l)) is-j is-l ∙ sym (so_far ∙ left_stop k n cmp basis j l known (PairLeft j l) left);
            same = subst (Same before) (sym w.self-is) (same_then before now w.is_pair_left.new.self same w.is_pair_left.ensures.same);
          }
      | else-loop-j-test w ↦ not_both (c.in-Some.j, c.in-Some.l) c.loop-j-test.failing w.failing-is c.in-Some.is
    ]

pub returns-in-None : goal.returns-in-None
returns-in-None g c =
    let before = c.args.self.now in
    let k = g.F.Field.arithmetic before.check.ring.field in
    let n = before.check.ring.variables in
    let cmp = g.O.MonomialOrder.comparison before.check.ring.order in
    let basis = polynomials before.basis in
    elim c.loop-j-test.branch [
      | then-loop-j-test+then-loop-l-test+in_ok-is_pair_left+then-branch w ↦ not_both (c.loop-j.j, w.loop-l.l) c.loop-j-test.failing c.in-None.is w.failing-is
      | else-loop-j-test w ↦
          let (same, so_far) = c.loop-j.invariant in
          let all : length basis ≤ c.loop-j.j = search rules in
          record { value = sym (so_far ∙ all_end k n cmp basis c.loop-j.j all); same = subst (Same before) (sym w.self-is) same }
    ]
