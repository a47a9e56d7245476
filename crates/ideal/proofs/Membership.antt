-- Membership in the ideal of generators as they are written down, carried over, and what the ideal is closed under.
use Rattle.std.proofs.Common.{ℕ, List, [], ◌∷◌, map, sym, refl, ap, ◌∙◌, subst}
use lib.ListN.{length-map}
use Rattle.field.specs.Fields.{Arithmetic, Code, FieldLaws}
use Rattle.order.specs.Monomials.{Monomial, unit}
use Rattle.order.specs.Orders.{Compare, OrderLaws}
use Rattle.ideal.specs.Lists.{Among, Each}
use Rattle.ideal.specs.Polynomials.{Operations, Term, Poly, Falling, sum, multiple, product, combination, difference}
use Rattle.ideal.specs.Rings.{Raw, ring, Polynomial}
use Rattle.ideal.specs.Algebra.{NonzeroTerm}
use Rattle.ideal.specs.Ideals.{Member}
use Rattle.ideal.specs.Theorems.{MembersClosed}
use Rattle.ideal.proofs.Lists.{each_at, each_down, among_up}
use Rattle.ideal.proofs.Calculus.{Laws}
use Rattle.ideal.proofs.Value as value
use Rattle.ideal.proofs.Value.{val}
use Rattle.ideal.proofs.Ideal as ideal
use Rattle.ideal.proofs.Ideal.{Span}
use Rattle.ideal.proofs.Remainders.{In}
use Rattle.ideal.proofs.Lift as lift
use Rattle.ideal.proofs.Lift.{operations, bare, bare_injective}
use Rattle.ideal.proofs.Carried as carried
use Rattle.ideal.proofs.Carried.{each_from}
use Rattle.ideal.proofs.Raised as raised
use Rattle.ideal.proofs.Steps as steps

module _ {k : Arithmetic} (F : FieldLaws k) {n : ℕ} {cmp : Compare} (O : OrderLaws n cmp) where
  abbrev o : Operations (Code k) (Monomial n)
  o = operations F O

  abbrev r : Operations ℕ (List ℕ)
  r = ring k n cmp

  abbrev P : Type 0
  P = Poly (Code k) (Monomial n)

  abbrev Ok : Raw → Type 0
  Ok = Polynomial k n cmp

  abbrev Mem : List Raw → Raw → Type 0
  Mem = Member k n cmp

  L : Laws o
  L = lift.laws F O

  pub member_up : (generators : List P) (f : P) → Mem (map bare generators) (bare f) → In o generators (val o f)
  member_up generators f (cofactors, oks, l, e) = let (ps, z) = each_from bare Ok (carried.lifted F O) cofactors oks in
      subst (λ x. In o generators (val o x)) (sym (bare_injective f (combination o ps generators)
      (e ∙ ap (λ x. combination r x (map bare generators)) (sym z) ∙ sym (lift.bare-combination F O ps generators))))
      (ideal.ideal_combination L ps generators (ideal.ideal_member L))

  pub member_down : (generators : List P) → Each (Falling o) generators → (f : P) → Falling o f → In o generators (val o f)
      → Mem (map bare generators) (bare f)
  member_down generators fine f p i = let c = ideal.gathered L (λ m p. Among p generators) generators (λ m p a. a) i in (
    map bare c.list,
    each_down bare Ok (Falling o) (carried.polynomial_down F O) c.list c.fall,
    length-map c.list bare ∙ c.one_each ∙ sym (length-map generators bare),
    ap bare (value.known L f (combination o c.list generators) p (raised.falling_combination F O c.list generators c.fall fine)
        (λ φ. ap (λ x. x φ) c.value))
        ∙ lift.bare-combination F O c.list generators,
  )

  module _ (generators : List Raw) (oks : Each Ok generators) where
    -- a member is a polynomial
    pub member_closed : (f : Raw) → Mem generators f → Ok f
    member_closed f (cofactors, fine, l, e) = subst Ok (sym e) (carried.combination_closed F O cofactors generators fine oks)

    pub zero_member : Mem generators []
    zero_member = raised.of_generators F O (λ generators. Mem generators []) (λ ps fine. member_down ps fine [] tt (Span.none refl)) generators oks

    pub generator_member : (p : Raw) → Among p generators → Mem generators p
    generator_member p a = raised.of_generators F O (λ generators. Among p generators → Mem generators p)
        (λ ps fine a. let (x, b, e) = among_up bare p ps a in
        subst (Mem (map bare ps)) (sym e) (member_down ps fine x (each_at (Falling o) ps fine x b) (ideal.ideal_member L x b))) generators oks a

    pub sum_member : (f h : Raw) → Mem generators f → Mem generators h → Mem generators (sum r f h)
    sum_member f h a b = raised.of_generators F O (λ generators. Mem generators f → Mem generators h → Mem generators (sum r f h))
        (λ ps fine. carried.of_two F O (λ f h. Mem (map bare ps) f → Mem (map bare ps) h → Mem (map bare ps) (sum r f h)) (λ x y p q a b.
        subst (Mem (map bare ps)) (lift.bare-sum F O x y) (member_down ps fine (sum o x y) (value.falling_sum L x y p q)
        (ideal.ideal_sum L x y (member_up ps x a) (member_up ps y b)))) f h (member_closed f a) (member_closed h b)) generators oks a b

    pub product_member : (a : Raw) → Ok a → (f : Raw) → Mem generators f → Mem generators (product r a f)
    product_member a ok f i = raised.of_generators F O (λ generators. Mem generators f → Mem generators (product r a f))
        (λ ps fine. carried.of_two F O (λ a f. Mem (map bare ps) f → Mem (map bare ps) (product r a f)) (λ x y p q i.
        subst (Mem (map bare ps)) (lift.bare-product F O x y) (member_down ps fine (product o x y) (raised.falling_product F O x y p q)
        (ideal.ideal_product L x y (member_up ps y i)))) a f ok (member_closed f i)) generators oks i

    pub multiple_member : (t : Term ℕ (List ℕ)) → NonzeroTerm k n t → (f : Raw) → Mem generators f → Mem generators (multiple r t f)
    multiple_member t (a, z, b) f i = subst (Mem generators)
        (carried.sum_none F O (multiple r t f) (carried.multiple_closed F O t f (a, z, b) (member_closed f i)))
        (product_member (t ∷ []) (((a, b), tt), (z, tt, tt)) f i)

    pub difference_member : (f h : Raw) → Mem generators f → Mem generators h → Mem generators (difference r f h)
    difference_member f h a b = sum_member f _ a (multiple_member (k.opposite 1, unit n) (steps.minus_one F O) h b)

    -- a multiple of a generator, added to a member
    pub member_step : (t : Term ℕ (List ℕ)) → NonzeroTerm k n t → (p : Raw) → Among p generators
        → (f : Raw) → Mem generators f → Mem generators (sum r (multiple r t p) f)
    member_step t z p a f i = sum_member (multiple r t p) f (multiple_member t z p (generator_member p a)) i

  pub members_closed_lem : MembersClosed k n cmp
  members_closed_lem generators oks = record {
    zero = zero_member generators oks;
    generator = generator_member generators oks;
    sums = sum_member generators oks;
    differences = difference_member generators oks;
    multiples = multiple_member generators oks;
    products = product_member generators oks;
  }
