-- Elements, and lists of polynomials and of elements, as they are written down come from codes and monomials.
use Rattle.std.proofs.Common.{◌≡◌, ℕ, ◌<◌, List, map, sym, ◌∙◌, subst}
use mathlib.Core.List.{map-map}
use Rattle.field.specs.Fields.{Arithmetic, Code, FieldLaws}
use Rattle.order.specs.Monomials.{Monomial}
use Rattle.order.specs.Orders.{Compare, OrderLaws}
use Rattle.ideal.specs.Lists.{Each}
use Rattle.ideal.specs.Polynomials.{Operations, Poly, Element, whole, Falling, product, combination}
use Rattle.ideal.specs.Rings.{Raw, RawElement, Polynomial}
use Rattle.ideal.proofs.Lists.{each_up, each_down}
use Rattle.ideal.proofs.Lift as lift
use Rattle.ideal.proofs.Lift.{operations, bare, bare_element}
use Rattle.ideal.proofs.Carried as carried
use Rattle.ideal.proofs.Carried.{each_from}

-- a statement holds of a list if it holds of the lists of what f gives
of_each : {A B : Type 0} (f : A → B) (Ok : B → Type 0) (Fine : A → Type 0) → ((y : B) → Ok y → (x : A) × (f x ≡ y)) → ((x : A) → Ok (f x) → Fine x)
    → (X : List B → Type 0) → ((xs : List A) → Each Fine xs → X (map f xs)) → (ys : List B) → Each Ok ys → X ys
of_each f Ok Fine up fine X h ys e = let (xs, z) = each_from f Ok up ys e in subst X z (h xs (each_up f Ok Fine fine xs (subst (Each Ok) (sym z) e)))

pub map_wholes : {q n : ℕ} (G : List (Element ((c : ℕ) × (c < q)) (Monomial n))) → map bare (map whole G) ≡ map whole (map bare_element G)
map_wholes G = map-map bare whole G ∙ sym (map-map whole bare_element G)

module _ {k : Arithmetic} (F : FieldLaws k) {n : ℕ} {cmp : Compare} (O : OrderLaws n cmp) where
  abbrev o : Operations (Code k) (Monomial n)
  o = operations F O

  abbrev P : Type 0
  P = Poly (Code k) (Monomial n)

  abbrev E : Type 0
  E = Element (Code k) (Monomial n)

  abbrev Ok : Raw → Type 0
  Ok = Polynomial k n cmp

  pub polynomial_up : (p : P) → Ok (bare p) → Falling o p
  polynomial_up p h = carried.falling_up F O p h.1

  lifted_element : (g : RawElement) → Ok (whole g) → (h : E) × (bare_element h ≡ g)
  lifted_element g h = let ((a, z, b), ok) = carried.uncons F O g.0 g.1 h in let (q, e) = carried.lifted F O g.1 ok in
      ((((g.0.0, a), (g.0.1, b)), q), λ i. (g.0, e i))

  pub of_element : (X : RawElement → Type 0) → ((g : E) → Falling o (whole g) → X (bare_element g)) → (g : RawElement) → Ok (whole g) → X g
  of_element X h g ok = let (u, e) = lifted_element g ok in subst X e (h u (polynomial_up (whole u) (subst (λ x. Ok (whole x)) (sym e) ok)))

  pub of_generators : (X : List Raw → Type 0) → ((ps : List P) → Each (Falling o) ps → X (map bare ps)) → (generators : List Raw)
      → Each Ok generators → X generators
  of_generators = of_each bare Ok (Falling o) (carried.lifted F O) polynomial_up

  pub of_elements : (X : List RawElement → Type 0) → ((G : List E) → Each (λ g. Falling o (whole g)) G → X (map bare_element G))
      → (elements : List RawElement) → Each (λ g. Ok (whole g)) elements → X elements
  of_elements = of_each bare_element (λ g. Ok (whole g)) (λ g. Falling o (whole g)) lifted_element (λ g. polynomial_up (whole g))

  pub falling_product : (a p : P) → Falling o a → Falling o p → Falling o (product o a p)
  falling_product a p x y = polynomial_up (product o a p) (subst Ok (sym (lift.bare-product F O a p))
      (carried.product_closed F O (bare a) (bare p) (carried.polynomial_down F O a x) (carried.polynomial_down F O p y)))

  pub falling_combination : (cofactors generators : List P) → Each (Falling o) cofactors → Each (Falling o) generators
      → Falling o (combination o cofactors generators)
  falling_combination cofactors generators x y = polynomial_up (combination o cofactors generators)
      (subst Ok (sym (lift.bare-combination F O cofactors generators))
      (carried.combination_closed F O (map bare cofactors) (map bare generators) (down cofactors x) (down generators y)))
    where
      down : (ps : List P) → Each (Falling o) ps → Each Ok (map bare ps)
      down = each_down bare Ok (Falling o) (carried.polynomial_down F O)
