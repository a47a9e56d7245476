-- Worked examples of the definitions, as one checked list. Assumes nothing.
--   Orders          three monomials, falling, by each of the three orders
--   BinaryProducts  products of codes in the binary fields
--   OneVariable     residues modulo 7: a³+6a²+5a and a²+4a+2, the cofactors 4 and 3a+6, the element a+5; and with 3a+5 it is refused
--   TwoVariables    residues modulo 2, by lex: a+b+1 and b²+b divide ab, a+b+1 and a²+a to 0, and a+b to 1; a+b+1 alone does not divide ab to 0
--   OnePair         residues modulo 7, graded: the S-polynomial of a³+5ab and a²b+5b²+a is 6a², and they leave it as it is
--   Worked          all of them
use Rattle.std.specs.Prelude.{◌≡◌, ℕ, List, [], ◌∷◌, Ok, Err}
use Rattle.std.specs.declared.cmp.Ordering.TheVariants.{Greater}
use Rattle.field.specs.Primes.{residues}
use Rattle.field.specs.Binaries.{binaries}
use Rattle.order.specs.Listed.{lex, graded, reverse}
use Rattle.ideal.specs.Polynomials.{combination}
use Rattle.ideal.specs.Rings.{Raw, RawElement, ring}
use Rattle.ideal.specs.Dividing.{Leaves, s_polynomial}
use Rattle.fault.specs.declared.fault.Fault.TheVariants.{NotTheSum}
use Rattle.combination.specs.Checks.{check_element}

abbrev pub x : List ℕ
x = 3 ∷ 0 ∷ 0 ∷ []

abbrev pub y : List ℕ
y = 2 ∷ 0 ∷ 2 ∷ []

abbrev pub z : List ℕ
z = 1 ∷ 2 ∷ 1 ∷ []

pub record Orders : Type 0 where
  pub by_lex : (lex x y ≡ Greater) × (lex y z ≡ Greater)
  pub by_graded : (graded y z ≡ Greater) × (graded z x ≡ Greater)
  pub by_reverse : (reverse z y ≡ Greater) × (reverse y x ≡ Greater)

pub record BinaryProducts : Type 0 where
  pub in_4 : ((binaries 4).product 2 2 ≡ 3) × ((binaries 4).product 2 3 ≡ 1)
  pub in_8 : (binaries 8).product 4 2 ≡ 3
  pub in_16 : (binaries 16).product 8 2 ≡ 3

abbrev pub generators : List Raw
generators = ((1, 3 ∷ []) ∷ (6, 2 ∷ []) ∷ (5, 1 ∷ []) ∷ []) ∷ ((1, 2 ∷ []) ∷ (4, 1 ∷ []) ∷ (2, 0 ∷ []) ∷ []) ∷ []

abbrev pub cofactors : List Raw
cofactors = ((4, 0 ∷ []) ∷ []) ∷ ((3, 1 ∷ []) ∷ (6, 0 ∷ []) ∷ []) ∷ []

abbrev pub element : Raw
element = (1, 1 ∷ []) ∷ (5, 0 ∷ []) ∷ []

pub record OneVariable : Type 0 where
  pub combined : combination (ring (residues 7) 1 lex) cofactors generators ≡ element
  pub passed : check_element (residues 7) 1 lex generators 0 (1 ∷ 1 ∷ 5 ∷ 0 ∷ []) (4 ∷ 0 ∷ 3 ∷ 1 ∷ 6 ∷ 0 ∷ []) (1 ∷ 2 ∷ []) ≡ Ok element
  pub refused : check_element (residues 7) 1 lex generators 0 (1 ∷ 1 ∷ 5 ∷ 0 ∷ []) (4 ∷ 0 ∷ 3 ∷ 1 ∷ 5 ∷ 0 ∷ []) (1 ∷ 2 ∷ []) ≡ Err (NotTheSum 0)

-- a+b+1 and b²+b
abbrev pub first : RawElement
first = ((1, 1 ∷ 0 ∷ []), (1, 0 ∷ 1 ∷ []) ∷ (1, 0 ∷ 0 ∷ []) ∷ [])

abbrev pub second : RawElement
second = ((1, 0 ∷ 2 ∷ []), (1, 0 ∷ 1 ∷ []) ∷ [])

abbrev pub ByBoth : Raw → Raw → Type 0
ByBoth = Leaves (ring (residues 2) 2 lex) (first ∷ second ∷ [])

pub record TwoVariables : Type 0 where
  pub product_vanishes : ByBoth ((1, 1 ∷ 1 ∷ []) ∷ []) []
  pub element_vanishes : ByBoth ((1, 1 ∷ 0 ∷ []) ∷ (1, 0 ∷ 1 ∷ []) ∷ (1, 0 ∷ 0 ∷ []) ∷ []) []
  pub square_vanishes : ByBoth ((1, 2 ∷ 0 ∷ []) ∷ (1, 1 ∷ 0 ∷ []) ∷ []) []
  pub sum_leaves_1 : ByBoth ((1, 1 ∷ 0 ∷ []) ∷ (1, 0 ∷ 1 ∷ []) ∷ []) ((1, 0 ∷ 0 ∷ []) ∷ [])
  pub alone : Leaves (ring (residues 2) 2 lex) (first ∷ []) ((1, 1 ∷ 1 ∷ []) ∷ []) ((1, 0 ∷ 2 ∷ []) ∷ (1, 0 ∷ 1 ∷ []) ∷ [])

-- a³+5ab and a²b+5b²+a
abbrev pub cubic : RawElement
cubic = ((1, 3 ∷ 0 ∷ []), (5, 1 ∷ 1 ∷ []) ∷ [])

abbrev pub mixed : RawElement
mixed = ((1, 2 ∷ 1 ∷ []), (5, 0 ∷ 2 ∷ []) ∷ (1, 1 ∷ 0 ∷ []) ∷ [])

pub record OnePair : Type 0 where
  pub pair : s_polynomial (ring (residues 7) 2 graded) cubic mixed ≡ (6, 2 ∷ 0 ∷ []) ∷ []
  pub remainder : Leaves (ring (residues 7) 2 graded) (cubic ∷ mixed ∷ []) ((6, 2 ∷ 0 ∷ []) ∷ []) ((6, 2 ∷ 0 ∷ []) ∷ [])

pub record Worked : Type 0 where
  pub orders : Orders
  pub binary_products : BinaryProducts
  pub one_variable : OneVariable
  pub two_variables : TwoVariables
  pub one_pair : OnePair
