-- The sums place by place are the product, which is low where they are.
use Rattle.std.proofs.Common.{◌≡◌, ℕ, ◌+◌, ◌-◌, ◌<◌, ◌≤◌, min, true, false, List, length, get_or, take, drop, replicate, sym, refl, ap, ◌∙◌, arith, length-set}
use Rattle.std.proofs.lemmas.List.{length-take-le, get_or-take}
use Rattle.order.specs.Monomials.{multiply, small}
use Rattle.polynomial.specs.Views.{exponents_of}
use Rattle.polynomial.specs.declared.monomial.Monomial.{Monomial}
use Rattle.polynomial.proofs.Arrays.{each-more, zeros-more}
use Rattle.polynomial.proofs.Exponents.{multiply_fronts, multiply_at, multiply-length, small_at, not_small, small-take, low_front, same_front}
use Rattle.polynomial.proofs.monomial.Monomial.product.Goals as goal

pub overflow_add-exponent : goal.overflow_add-exponent
overflow_add-exponent c =
    let a = small_at c.loop-i.i c.args.self.now.exponents c.args.self.now.low (omega arith) in
    let b = small_at c.loop-i.i c.args.other.now.exponents c.args.other.now.low (omega arith) in
    record { fits = omega arith }

-- the product of two arrays, as far as both monomials reach
module _ (a b : Monomial) (n : ℕ) (reach : n ≡ min a.variables b.variables) where
  abbrev both : List ℕ
  both = multiply a.exponents b.exponents

  fronts : multiply (exponents_of a) (exponents_of b) ≡ take n both
  fronts = multiply_fronts a.variables b.variables n a.exponents b.exponents (omega arith)

  long : n ≤ length both
  long = let l = multiply-length a.exponents b.exponents (a.full ∙ sym b.full) in let f = a.full in let w = a.few in omega arith

  sum_at : (k : ℕ) → k < n → get_or both k 0 ≡ get_or a.exponents k 0 + get_or b.exponents k 0
  sum_at k h = let f = a.full in let g = b.full in let w = a.few in multiply_at k a.exponents b.exponents (omega arith) (omega arith)

  too_high : (i : ℕ) → i < n → 255 < get_or a.exponents i 0 + get_or b.exponents i 0 → small (multiply (exponents_of a) (exponents_of b)) ≡ false
  too_high i h k =
      let l = length-take-le n both long in
      let e = get_or-take n both i 0 h in
      let s = sum_at i h in
      ap small fronts ∙ not_small i (take n both) (omega arith) (omega arith)

  module _ (ys : List ℕ) (full : length ys ≡ 24) (each : (k : ℕ) → k < n → (get_or ys k 0 ≡ get_or a.exponents k 0 + get_or b.exponents k 0) × (get_or ys k 0 ≤ 255)) (zeros : drop n ys ≡ replicate (24 - n) 0) where
    product_is : take n ys ≡ multiply (exponents_of a) (exponents_of b)
    product_is = same_front n ys both (let w = a.few in omega arith) long (λ k h. (each k h).0 ∙ sym (sum_at k h)) ∙ sym fronts

    product-low : small ys ≡ true
    product-low = low_front n (24 - n) ys (let w = a.few in omega arith) zeros (λ k h. (each k h).1)

pub returns-then-exponent-gt-MOST_EXPONENT : goal.returns-then-exponent-gt-MOST_EXPONENT
returns-then-exponent-gt-MOST_EXPONENT c = too_high c.args.self.now c.args.other.now c.min-variables.result c.min-variables.ensures c.loop-i.i (omega arith) (omega arith)

pub loop-i-preserved : goal.loop-i-preserved
loop-i-preserved c =
    let a = c.args.self.now.exponents in
    let b = c.args.other.now.exponents in
    let i = c.loop-i.i in
    let v = get_or a i 0 + get_or b i 0 in
    let (full, each, zeros) = c.loop-i.invariant in (
      length-set c.loop-i.exponents i v ∙ full,
      each-more (λ k y. (y ≡ get_or a k 0 + get_or b k 0) × (y ≤ 255)) c.loop-i.exponents i v (omega arith) each (refl, omega arith),
      zeros-more c.loop-i.exponents i 24 v (omega arith) zeros,
    )

pub invariant_of-result : goal.invariant_of-result
invariant_of-result c =
    let e : c.loop-i.i ≡ c.min-variables.result = omega arith in
    let (full, each, zeros) = c.loop-i.invariant in
    record {
      few = omega arith;
      full = full;
      low = product-low c.args.self.now c.args.other.now c.loop-i.i (e ∙ c.min-variables.ensures) c.loop-i.exponents full each zeros;
      zeros = rw (← e) zeros;
    }

pub returns : goal.returns
returns c =
    let e : c.loop-i.i ≡ c.min-variables.result = omega arith in
    let (full, each, zeros) = c.loop-i.invariant in
    let is = product_is c.args.self.now c.args.other.now c.loop-i.i (e ∙ c.min-variables.ensures) c.loop-i.exponents full each zeros in (
      ap small (sym is) ∙ small-take c.loop-i.i c.loop-i.exponents (product-low c.args.self.now c.args.other.now c.loop-i.i (e ∙ c.min-variables.ensures) c.loop-i.exponents full each zeros),
      rw (← e) is,
    )
