-- Codes and monomials as types of their own, with the laws, and that forgetting what they are commutes with every function of polynomials.
use Rattle.std.proofs.Common.{◌≡◌, ℕ, zero, suc, ◌<◌, Bool, true, false, cond, eqb, List, [], ◌∷◌, map, length, Some, None, Option, Ordering, Less, Equal, Greater, sym, refl, ap, ◌∙◌, ap₂, arith, eqb-true}
use mathlib.Core.HLevel.{Σ_prop_path}
use native.Mathlib.Bridge.{le_prop}
use lib.ListN.{length-replicate}
use borrow.Author.Tests.{eqb-false}
use Rattle.field.specs.Fields.{Arithmetic, Code, FieldLaws}
use Rattle.order.specs.Monomials.{Monomial, unit, multiply}
use Rattle.order.specs.Orders.{Compare, OrderLaws}
use Rattle.order.specs.MonomialsLemmas as products
use Rattle.order.specs.MonomialsLemmas.{monomial_path}
use Rattle.ideal.specs.Divisibility.{divides, to_lcm}
use Rattle.ideal.specs.Polynomials.{Operations, Term, Poly, Element, whole, leading_monomial, here, coefficient, unless_zero, place, insert, sum, multiple, product, combination, difference}
use Rattle.ideal.specs.Rings.{Raw, RawElement, ring}
use Rattle.ideal.specs.Dividing.{or_later, first_divisor, reduced, s_polynomial, after, turn, divide}
use Rattle.ideal.proofs.Lists.{map_injective, cond_some}
use Rattle.ideal.proofs.Calculus.{Laws}
use Rattle.ideal.proofs.Divisibility as divisibility

pub code_path : {q : ℕ} {a b : (c : ℕ) × (c < q)} → a.0 ≡ b.0 → a ≡ b
code_path p = Σ_prop_path (λ c. le_prop) p

pub alike : {n : ℕ} (a b : Monomial n) → length a.0 ≡ length b.0
alike a b = a.1 ∙ sym b.1

abbrev pub towards_lcm : {n : ℕ} → Monomial n → Monomial n → Monomial n
towards_lcm a b = (to_lcm a.0 b.0, divisibility.length-to_lcm a.0 b.0 (alike a b) ∙ a.1)

module _ {k : Arithmetic} (F : FieldLaws k) {n : ℕ} {cmp : Compare} (O : OrderLaws n cmp) where
  abbrev pub operations : Operations (Code k) (Monomial n)
  operations = record {
    zero = (0, omega (arith, F.two));
    one = (1, F.two);
    plus = λ a b. (k.sum a.0 b.0, F.sum_code a b);
    negate = λ a. (k.opposite a.0, F.opposite_code a);
    times = λ a b. (k.product a.0 b.0, F.product_code a b);
    inverse = λ a. (k.inverse a.0, F.inverse_code a);
    is_zero = λ a. eqb a.0 0;
    unit = (unit n, length-replicate n 0);
    multiply = λ a b. (multiply a.0 b.0, products.length-multiply a.0 b.0 (alike a b) ∙ a.1);
    quotient = λ b a. cond (divides a.0 b.0) (Some (towards_lcm a b)) None;
    to_lcm = towards_lcm;
    compare = λ a b. cmp a.0 b.0;
  }

  quotient_some : (b a s : Monomial n) → operations.quotient b a ≡ Some s → operations.multiply s a ≡ b
  quotient_some b a s e = let (h, z) = cond_some (divides a.0 b.0) (towards_lcm a b) s e in
      ap (λ m. operations.multiply m a) (sym z) ∙ monomial_path (divisibility.multiple-quotient a.0 b.0 (alike a b) h)

  quotient_multiply : (s a : Monomial n) → operations.quotient (operations.multiply s a) a ≡ Some s
  quotient_multiply s a =
      ap (λ d. cond d (Some (towards_lcm a (operations.multiply s a))) None) (divisibility.divides-multiple s.0 a.0 (alike s a))
      ∙ ap Some (monomial_path (divisibility.quotient-multiple s.0 a.0 (alike s a)))

  pub laws : Laws operations
  laws = record {
    plus_comm = λ a b. code_path (F.sum_comm a b);
    plus_assoc = λ a b c. code_path (F.sum_assoc a b c);
    plus_zero = λ a. code_path (F.sum_zero a);
    plus_negate = λ a. code_path (F.sum_opposite a);
    times_comm = λ a b. code_path (F.product_comm a b);
    times_assoc = λ a b c. code_path (F.product_assoc a b c);
    times_one = λ a. code_path (F.product_one a);
    times_plus = λ a b c. code_path (F.product_sum a b c);
    times_inverse = λ a h. code_path (F.product_inverse a (λ z. h (code_path z)));
    one_nonzero = λ z. let y = ap (λ x. x.0) z in omega arith;
    is_zero_true = λ a h. code_path (eqb-true a.0 0 h);
    is_zero_false = λ a h z. eqb-false a.0 0 h (ap (λ x. x.0) z);
    multiply_comm = λ a b. monomial_path (products.multiply_comm a.0 b.0);
    multiply_assoc = λ a b c. monomial_path (products.multiply_assoc a.0 b.0 c.0);
    multiply_unit = λ a. monomial_path (products.multiply_unit n a.0 a.1);
    quotient_some = λ b a s. quotient_some b a s;
    quotient_multiply = λ s a. quotient_multiply s a;
    lcm_meets = λ a b. monomial_path (divisibility.lcm_meets a.0 b.0);
    lcm_least = λ a b s t e.
        let (p, q) = divisibility.lcm_least a.0 b.0 s.0 t.0 (alike b a) (alike s a) (alike t a) (ap (λ m. m.0) e) in
        (towards_lcm (towards_lcm a b) s, monomial_path p, monomial_path q);
    compare_self = O.self;
    compare_same = λ a b h. monomial_path (O.same a b h);
    compare_greater = O.greater;
    compare_less = O.less;
    compare_trans = O.trans;
    compare_translate = O.translate;
    compare_unit = λ a h. O.unit_least a (λ z. h (monomial_path z));
    compare_ends = O.ends;
  }

-- what is left of a term, of a polynomial and so on when the bounds and lengths are forgotten
abbrev pub bare_term : {q n : ℕ} → Term ((c : ℕ) × (c < q)) (Monomial n) → Term ℕ (List ℕ)
bare_term t = (t.0.0, t.1.0)

abbrev pub bare : {q n : ℕ} → Poly ((c : ℕ) × (c < q)) (Monomial n) → Raw
bare = map bare_term

pub bare_injective : {q n : ℕ} (a b : Poly ((c : ℕ) × (c < q)) (Monomial n)) → bare a ≡ bare b → a ≡ b
bare_injective = map_injective bare_term
    (λ s t e. λ i. (code_path {a = s.0} {b = t.0} (ap (λ x. x.0) e) i, monomial_path {a = s.1} {b = t.1} (ap (λ x. x.1) e) i))

abbrev pub bare_element : {q n : ℕ} → Element ((c : ℕ) × (c < q)) (Monomial n) → RawElement
bare_element g = (bare_term g.0, bare g.1)

abbrev pub bare_found : {q n : ℕ} → Option (Element ((c : ℕ) × (c < q)) (Monomial n) × Monomial n) → Option (RawElement × List ℕ)
bare_found None = None
bare_found (Some (g, s)) = Some (bare_element g, s.0)

abbrev pub bare_remainder : {q n : ℕ} → Option (Poly ((c : ℕ) × (c < q)) (Monomial n)) → Option Raw
bare_remainder None = None
bare_remainder (Some p) = Some (bare p)

module _ {k : Arithmetic} (F : FieldLaws k) {n : ℕ} {cmp : Compare} (O : OrderLaws n cmp) where
  abbrev o : Operations (Code k) (Monomial n)
  o = operations F O

  abbrev r : Operations ℕ (List ℕ)
  r = ring k n cmp

  abbrev P : Type 0
  P = Poly (Code k) (Monomial n)

  abbrev E : Type 0
  E = Element (Code k) (Monomial n)

  pub bare-coefficient : (p : P) (m : Monomial n) → coefficient r (bare p) m.0 ≡ (coefficient o p m).0
  bare-coefficient [] m = refl
  bare-coefficient (t ∷ p) m = at (cmp t.1.0 m.0) (bare-coefficient p m)
    where
      at : (d : Ordering) → coefficient r (bare p) m.0 ≡ (coefficient o p m).0
          → here r d t.0.0 (coefficient r (bare p) m.0) ≡ (here o d t.0 (coefficient o p m)).0
      at Less e = e
      at Equal e = refl
      at Greater e = e

  bare-unless_zero : (b : Bool) (c : Code k) (m : Monomial n) (q : P) → bare (unless_zero o b c m q) ≡ unless_zero r b c.0 m.0 (bare q)
  bare-unless_zero true c m q = refl
  bare-unless_zero false c m q = refl

  pub bare-insert : (s : Term (Code k) (Monomial n)) (q : P) → bare (insert o s q) ≡ insert r (bare_term s) (bare q)
  bare-insert s [] = refl
  bare-insert s (t ∷ q) = at (cmp s.1.0 t.1.0) (bare-insert s q)
    where
      at : (d : Ordering) → bare (insert o s q) ≡ insert r (bare_term s) (bare q)
          → bare (place o d s t q (insert o s q)) ≡ place r d (bare_term s) (bare_term t) (bare q) (insert r (bare_term s) (bare q))
      at Less e = ap (λ x. bare_term t ∷ x) e
      at Equal e = bare-unless_zero (eqb (k.sum s.0.0 t.0.0) 0) (o.plus s.0 t.0) t.1 q
      at Greater e = refl

  pub bare-sum : (p q : P) → bare (sum o p q) ≡ sum r (bare p) (bare q)
  bare-sum [] q = refl
  bare-sum (s ∷ p) q = bare-insert s (sum o p q) ∙ ap (insert r (bare_term s)) (bare-sum p q)

  pub bare-multiple : (s : Term (Code k) (Monomial n)) (p : P) → bare (multiple o s p) ≡ multiple r (bare_term s) (bare p)
  bare-multiple s [] = refl
  bare-multiple s (t ∷ p) = ap (λ x. (k.product s.0.0 t.0.0, multiply s.1.0 t.1.0) ∷ x) (bare-multiple s p)

  pub bare-product : (a p : P) → bare (product o a p) ≡ product r (bare a) (bare p)
  bare-product [] p = refl
  bare-product (s ∷ a) p = bare-sum (multiple o s p) (product o a p) ∙ ap₂ (sum r) (bare-multiple s p) (bare-product a p)

  pub bare-combination : (cofactors generators : List P)
      → bare (combination o cofactors generators) ≡ combination r (map bare cofactors) (map bare generators)
  bare-combination [] generators = refl
  bare-combination (a ∷ cofactors) [] = refl
  bare-combination (a ∷ cofactors) (p ∷ generators) =
      bare-sum (product o a p) (combination o cofactors generators) ∙ ap₂ (sum r) (bare-product a p) (bare-combination cofactors generators)

  pub bare-difference : (p q : P) → bare (difference o p q) ≡ difference r (bare p) (bare q)
  bare-difference p q = bare-sum p _ ∙ ap (sum r (bare p)) (bare-multiple _ q)

  -- division
  bare-first_divisor : (G : List E) (m : Monomial n) → first_divisor r (map bare_element G) m.0 ≡ bare_found (first_divisor o G m)
  bare-first_divisor [] m = refl
  bare-first_divisor (g ∷ G) m = let a = leading_monomial g in
      ap (or_later r (r.quotient m.0 a.0) (bare_element g)) (bare-first_divisor G m) ∙ at (divides a.0 m.0) (first_divisor o G m)
    where
      at : (b : Bool) (later : Option (E × Monomial n)) → let a = leading_monomial g in
          or_later r (cond b (Some (to_lcm a.0 m.0)) None) (bare_element g) (bare_found later)
          ≡ bare_found (or_later o (cond b (Some (towards_lcm a m)) None) g later)
      at true later = refl
      at false later = refl

  pub bare-reduced : (t : Term (Code k) (Monomial n)) (f : P) (g : E) (s : Monomial n)
      → bare (reduced o t f g s) ≡ reduced r (bare_term t) (bare f) (bare_element g) s.0
  bare-reduced t f g s = bare-sum (multiple o (_, s) (whole g)) (t ∷ f) ∙ ap (λ x. sum r x (bare (t ∷ f))) (bare-multiple (_, s) (whole g))

  pub bare-s_polynomial : (g h : E) → bare (s_polynomial o g h) ≡ s_polynomial r (bare_element g) (bare_element h)
  bare-s_polynomial g h = bare-sum (multiple o _ (whole g)) (multiple o _ (whole h))
      ∙ ap₂ (sum r) (bare-multiple _ (whole g)) (bare-multiple _ (whole h))

  pub bare-divide : (i : ℕ) (G : List E) (f : P) → divide r i (map bare_element G) (bare f) ≡ bare_remainder (divide o i G f)
  bare-divide zero G f = refl
  bare-divide (suc i) G [] = refl
  bare-divide (suc i) G (t ∷ f) =
      ap (λ x. turn r x (divide r i (map bare_element G)) (bare_term t) (bare f)) (bare-first_divisor G t.1)
      ∙ at (bare-divide i G) (first_divisor o G t.1)
    where
      bare-after : (x : Option P) → after r (bare_term t) (bare_remainder x) ≡ bare_remainder (after o t x)
      bare-after None = refl
      bare-after (Some p) = refl

      at : ((f : P) → divide r i (map bare_element G) (bare f) ≡ bare_remainder (divide o i G f)) → (x : Option (E × Monomial n))
          → turn r (bare_found x) (divide r i (map bare_element G)) (bare_term t) (bare f) ≡ bare_remainder (turn o x (divide o i G) t f)
      at ih None = ap (after r (bare_term t)) (ih f) ∙ bare-after (divide o i G f)
      at ih (Some (g, s)) = ap (divide r i (map bare_element G)) (sym (bare-reduced t f g s)) ∙ ih (reduced o t f g s)
