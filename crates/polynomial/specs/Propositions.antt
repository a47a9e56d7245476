-- Facts of which there is one proof at most, so that a type can carry them. Assumes nothing.
--   Each-prop          a fact about each of a list
--   Falling-prop       that the monomials of a list of terms fall
--   Polynomial-prop    that a list of terms is a polynomial
--   Within-prop        that it is a polynomial of a ring
--   Factor-prop        that a term is a factor of a ring
--   Family-prop        that each of a list of polynomials is a polynomial of a ring
use Rattle.std.specs.Prelude.{ℕ, List, [], ◌∷◌}
use Rattle.std.specs.Coded.{×_prop, Unit-prop}
use Rattle.std.proofs.Props.{props}
use Rattle.field.specs.Fields.{Arithmetic}
use Rattle.order.specs.Orders.{Compare}
use Rattle.ideal.specs.Lists.{Each}
use Rattle.ideal.specs.Polynomials.{Operations, Term, Falling, All, Lower}
use Rattle.ideal.specs.Rings.{Raw, Polynomial, ring}
use Rattle.polynomial.specs.Rings.{arithmetic_of, comparison_of, Within, Factor}
use Rattle.polynomial.specs.declared.ring.Ring.{Ring}

pub Each-prop : {A : Type 0} (P : A → Type 0) → ((x : A) → IsProp (P x)) → (xs : List A) → IsProp (Each P xs)
Each-prop P h [] = Unit-prop
Each-prop P h (x ∷ xs) = ×_prop (h x) (Each-prop P h xs)

All-prop : (P : List ℕ → Type 0) → ((m : List ℕ) → IsProp (P m)) → (p : Raw) → IsProp (All P p)
All-prop P h [] = Unit-prop
All-prop P h (t ∷ p) = ×_prop (h t.1) (All-prop P h p)

pub Falling-prop : (o : Operations ℕ (List ℕ)) (p : Raw) → IsProp (Falling o p)
Falling-prop o [] = Unit-prop
Falling-prop o (t ∷ p) = let a = All-prop (Lower o t.1) (λ m. Prim.hlevel props) p in let b = Falling-prop o p in Prim.hlevel (props, a, b)

pub Polynomial-prop : (k : Arithmetic) (n : ℕ) (cmp : Compare) (p : Raw) → IsProp (Polynomial k n cmp p)
Polynomial-prop k n cmp p = ×_prop (Each-prop _ (λ t. Prim.hlevel props) p) (Falling-prop (ring k n cmp) p)

pub Family-prop : {F O : Type 0} {f : _} {o : _} (r : Ring F O f o) (ps : List Raw) → IsProp (Each (Within r) ps)
Family-prop r ps = Each-prop _ (Polynomial-prop (arithmetic_of r) r.variables (comparison_of r)) ps

pub Within-prop : {F O : Type 0} {f : _} {o : _} (r : Ring F O f o) (p : Raw) → IsProp (Within r p)
Within-prop r p = Polynomial-prop (arithmetic_of r) r.variables (comparison_of r) p

pub Factor-prop : {F O : Type 0} {f : _} {o : _} (r : Ring F O f o) (t : Term ℕ (List ℕ)) → IsProp (Factor r t)
Factor-prop r t = Prim.hlevel props
