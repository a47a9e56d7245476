-- The row, and 0 behind it.
use Rattle.std.proofs.Common.{◌≡◌, ℕ, ◌-◌, ◌<◌, ◌≤◌, true, leb, List, length, get_or, take, drop, replicate, ◌∙◌, refl, arith, length-set}
use Rattle.std.proofs.lemmas.List.{take_all}
use Rattle.std.proofs.lemmas.Bool.{le-leb, and_from, and_right}
use Rattle.order.specs.Monomials.{small}
use Rattle.polynomial.proofs.Arrays.{each-more, zeros-more}
use Rattle.polynomial.proofs.Exponents.{small_from, not_small, low_front, same_front}
use Rattle.polynomial.proofs.monomial.Monomial.from_exponents.Goals as goal

pub returns-then-exponent-gt-MOST_EXPONENT : goal.returns-then-exponent-gt-MOST_EXPONENT
returns-then-exponent-gt-MOST_EXPONENT c =
    let row = c.args.row.now in
    and_right (leb (length row) 24) (small row) (not_small c.loop-i.i row (omega arith) (omega arith))

pub loop-i-preserved : goal.loop-i-preserved
loop-i-preserved c =
    let row = c.args.row.now in
    let i = c.loop-i.i in
    let (long, each, zeros) = c.loop-i.invariant in (
      length-set c.loop-i.exponents i (get_or row i 0) ∙ long,
      each-more (λ k y. (y ≡ get_or row k 0) × (get_or row k 0 ≤ 255)) c.loop-i.exponents i (get_or row i 0) (omega arith) each (refl, omega arith),
      zeros-more c.loop-i.exponents i 24 (get_or row i 0) (omega arith) zeros,
    )

-- an array that begins with the whole row, which is low, and is 0 behind it
module _ (row ys : List ℕ) (n : ℕ) (reach : n ≡ length row) (few : n ≤ 24) (long : length ys ≡ 24) (each : (k : ℕ) → k < n → (get_or ys k 0 ≡ get_or row k 0) × (get_or row k 0 ≤ 255)) (zeros : drop n ys ≡ replicate (24 - n) 0) where
  row-low : small row ≡ true
  row-low = small_from row (λ k h. (each k (omega arith)).1)

  filled-low : small ys ≡ true
  filled-low = low_front n (24 - n) ys (omega arith) zeros (λ k h. let (e, l) = each k h in omega arith)

  filled-front : take n ys ≡ row
  filled-front = same_front n ys row (omega arith) (omega arith) (λ k h. (each k h).0) ∙ take_all n row (omega arith)

pub invariant_of-result : goal.invariant_of-result
invariant_of-result c =
    let row = c.args.row.now in
    let n : c.loop-i.i ≡ length row = omega arith in
    let (long, each, zeros) = c.loop-i.invariant in
    record {
      few = omega arith;
      full = long;
      low = filled-low row c.loop-i.exponents c.loop-i.i n (omega arith) long each zeros;
      zeros = rw (← n) zeros;
    }

pub returns : goal.returns
returns c =
    let row = c.args.row.now in
    let n : c.loop-i.i ≡ length row = omega arith in
    let (long, each, zeros) = c.loop-i.invariant in (
      and_from (leb (length row) 24) (small row) (le-leb (length row) 24 (omega arith)) (row-low row c.loop-i.exponents c.loop-i.i n (omega arith) long each zeros),
      rw (← n) (filled-front row c.loop-i.exponents c.loop-i.i n (omega arith) long each zeros),
      refl,
    )
