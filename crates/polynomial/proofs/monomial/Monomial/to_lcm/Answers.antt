-- What is missing place by place is the multiplier.
use Rattle.std.proofs.Common.{◌≡◌, ℕ, ◌-◌, ◌<◌, min, true, List, length, get_or, take, drop, replicate, sym, ◌∙◌, arith, rules}
use Rattle.order.specs.Monomials.{small}
use Rattle.ideal.specs.Divisibility.{to_lcm}
use Rattle.polynomial.specs.Views.{exponents_of}
use Rattle.polynomial.specs.declared.monomial.Monomial.{Monomial}
use Rattle.polynomial.proofs.Exponents.{small_at, low_front, same_front}
use Rattle.polynomial.proofs.Quotients.{to_lcm_fronts, to_lcm_at, to_lcm-length}
use Rattle.polynomial.proofs.monomial.Monomial.to_lcm.Goals as goal

-- an array that holds what b has more, as far as both reach, and 0 behind
module _ (a b : Monomial) (ys : List ℕ) (long : length ys ≡ 24) (at : (k : ℕ) → k < min a.variables b.variables → get_or ys k 0 ≡ get_or b.exponents k 0 - get_or a.exponents k 0) where
  to_lcm_is : (n : ℕ) → n ≡ min a.variables b.variables → take n ys ≡ to_lcm (exponents_of a) (exponents_of b)
  to_lcm_is n reach =
      let fa = a.full in
      let fb = b.full in
      let few = a.few in
      let l = to_lcm-length a.exponents b.exponents (omega arith) in
      same_front n ys (to_lcm a.exponents b.exponents) (omega arith) (omega arith) (λ k h. at k (omega arith) ∙ sym (to_lcm_at k a.exponents b.exponents (omega arith) (omega arith)))
      ∙ sym (to_lcm_fronts a.variables b.variables n a.exponents b.exponents (omega arith))

  to_lcm-small : drop (min a.variables b.variables) ys ≡ replicate (24 - min a.variables b.variables) 0 → small ys ≡ true
  to_lcm-small zeros =
      let few = a.few in
      let fb = b.full in
      low_front (min a.variables b.variables) (24 - min a.variables b.variables) ys (omega arith) zeros (λ k h. let e = at k h in let s = small_at k b.exponents b.low (omega arith) in omega arith)

pub invariant_of-result-clause-low : goal.invariant_of-result-clause-low
invariant_of-result-clause-low c =
    to_lcm-small c.args.self.now c.args.other.now c.combine-exponents.result c.combine-exponents.ensures.len
    (λ k h. let p = c.combine-exponents.ensures.both k h in (search rules)) c.combine-exponents.ensures.zeros

pub invariant_of-result-clause-zeros : goal.invariant_of-result-clause-zeros
invariant_of-result-clause-zeros c = rw c.min-variables.ensures c.combine-exponents.ensures.zeros

pub returns : goal.returns
returns c =
    to_lcm_is c.args.self.now c.args.other.now c.combine-exponents.result c.combine-exponents.ensures.len
    (λ k h. let p = c.combine-exponents.ensures.both k h in (search rules)) _ cc
