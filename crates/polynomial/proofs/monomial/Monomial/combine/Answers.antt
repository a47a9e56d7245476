-- What `f` makes at each place is what the array holds there.
use Rattle.std.proofs.Common.{slice_index, ◌∙◌, arith, rules, length-set}
use Rattle.polynomial.proofs.Arrays.{each-more, zeros-more}
use Rattle.polynomial.proofs.Exponents.{small_at}
use Rattle.polynomial.proofs.monomial.Monomial.combine.Goals as goal

pub f-requires : goal.f-requires
f-requires g c =
    let a = c.args.self.now in
    let b = c.args.other.now in
    let i = c.loop-i.i in
    let p = c.requires.pre _ _ (small_at i a.exponents a.low (omega arith)) (small_at i b.exponents b.low (omega arith)) in (search rules)

pub loop-i-preserved : goal.loop-i-preserved
loop-i-preserved g c =
    let a = c.args.self.now.exponents in
    let b = c.args.other.now.exponents in
    let i = c.loop-i.i in
    let xs = c.loop-i.exponents in
    let (long, both, zeros) = c.loop-i.invariant in (
      length-set xs i c.f.result ∙ long,
      each-more (λ k y. goal.F-post g c.args.f (slice_index a k) (slice_index b k) y) xs i c.f.result (omega arith) both (search rules),
      zeros-more xs i 24 c.f.result (omega arith) zeros,
    )
