-- What holds of polynomials over every field and by every monomial order. Assumes nothing.
--   NonzeroTerm             a term with a code but 0 and n exponents
--   add_cofactor a p f      f, with each term of a times p added, from the first term on
--   add_all                 the same with one cofactor for each generator, from the first generator on
--   Closed                  sums, multiples, products and combinations of polynomials are polynomials
--   SumCoefficients         a sum's coefficients are the sums of the coefficients
--   MultipleCoefficients    a multiple's coefficients are the products, at the multiplied monomials, and 0 elsewhere
--   Determined              polynomials with equal coefficients are equal
--   Stepwise                to add one multiple after another, from 0, makes the combination
--   Always X                X for every field, every number of variables and every monomial order
use Rattle.std.specs.Prelude.{◌≡◌, ℕ, ◌<◌, ◌≢◌, List, [], ◌∷◌, length}
use Rattle.field.specs.Fields.{Arithmetic, Code, FieldLaws}
use Rattle.order.specs.Monomials.{Monomial, multiply}
use Rattle.order.specs.Orders.{Compare, OrderLaws}
use Rattle.ideal.specs.Lists.{Each}
use Rattle.ideal.specs.Polynomials.{Operations, Term, Poly, coefficient, sum, multiple, product, combination}
use Rattle.ideal.specs.Rings.{Raw, ring, Polynomial}

abbrev pub NonzeroTerm : Arithmetic → ℕ → Term ℕ (List ℕ) → Type 0
NonzeroTerm k n t = (t.0 < k.size) × (t.0 ≢ 0) × (length t.1 ≡ n)

module _ {K M : Type 0} (o : Operations K M) where
  abbrev pub add_cofactor : Poly K M → Poly K M → Poly K M → Poly K M
  add_cofactor [] p f = f
  add_cofactor (t ∷ a) p f = add_cofactor a p (sum o (multiple o t p) f)

  abbrev pub add_all : List (Poly K M) → List (Poly K M) → Poly K M → Poly K M
  add_all [] generators f = f
  add_all (a ∷ cofactors) [] f = f
  add_all (a ∷ cofactors) (p ∷ generators) f = add_all cofactors generators (add_cofactor a p f)

module _ (k : Arithmetic) (n : ℕ) (cmp : Compare) where
  abbrev o : Operations ℕ (List ℕ)
  o = ring k n cmp

  -- p is a polynomial of this ring
  abbrev Is : Raw → Type 0
  Is p = Polynomial k n cmp p

  pub record Closed : Type 0 where
    pub sums : (p q : Raw) → Is p → Is q → Is (sum o p q)
    pub multiples : (t : Term ℕ (List ℕ)) (p : Raw) → NonzeroTerm k n t → Is p → Is (multiple o t p)
    pub products : (a p : Raw) → Is a → Is p → Is (product o a p)
    pub combinations : (cofactors generators : List Raw) → Each Is cofactors → Each Is generators → Is (combination o cofactors generators)

  abbrev pub SumCoefficients : Type 0
  SumCoefficients = (p q : Raw) → Is p → Is q → (m : Monomial n)
      → coefficient o (sum o p q) m.0 ≡ k.sum (coefficient o p m.0) (coefficient o q m.0)

  pub record MultipleCoefficients : Type 0 where
    pub multiplied : (c : Code k) (m : Monomial n) (p : Raw) → Is p → (r : Monomial n)
        → coefficient o (multiple o (c.0, m.0) p) (multiply m.0 r.0) ≡ k.product c.0 (coefficient o p r.0)
    pub elsewhere : (c : Code k) (m : Monomial n) (p : Raw) → Is p → (s : Monomial n) → ((r : Monomial n) → s.0 ≢ multiply m.0 r.0)
        → coefficient o (multiple o (c.0, m.0) p) s.0 ≡ 0

  abbrev pub Determined : Type 0
  Determined = (p q : Raw) → Is p → Is q → ((m : Monomial n) → coefficient o p m.0 ≡ coefficient o q m.0) → p ≡ q

  abbrev pub Stepwise : Type 0
  Stepwise = (cofactors generators : List Raw) → Each Is cofactors → Each Is generators
      → add_all o cofactors generators [] ≡ combination o cofactors generators

abbrev pub Always : (Arithmetic → ℕ → Compare → Type 0) → Type 0
Always X = (k : Arithmetic) → FieldLaws k → (n : ℕ) (cmp : Compare) → OrderLaws n cmp → X k n cmp
