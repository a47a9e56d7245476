-- The theorems on division and on bases for polynomials as they are written down, carried over.
use Rattle.std.proofs.Common.{◌≡◌, ℕ, ◌↔◌, List, [], ◌∷◌, map, Some, None, Option, sym, refl, ap, ◌∙◌, subst}
use lib.ListN.{length-map}
use Rattle.field.specs.Fields.{Arithmetic, Code, FieldLaws}
use Rattle.order.specs.Monomials.{Monomial}
use Rattle.order.specs.Orders.{Compare, OrderLaws}
use Rattle.order.specs.MonomialsLemmas.{monomial_path}
use Rattle.ideal.specs.Lists.{Each, Together}
use Rattle.ideal.specs.Divisibility.{divides}
use Rattle.ideal.specs.Polynomials.{Operations, Poly, Element, whole, leading_monomial, All, Falling, sum, multiple, product, combination, difference}
use Rattle.ideal.specs.Rings.{Raw, RawElement, ring, Polynomial}
use Rattle.ideal.specs.Dividing.{s_polynomial, divide, Leaves, PairsVanish, Vanishing, NotAbove, Divisible, Divided}
use Rattle.ideal.specs.Ideals.{Member, Derived, Groebner}
use Rattle.ideal.specs.Theorems.{DivisionEnds, DivisionTheorem, Buchberger, CompletenessBothWays, Membership, OneRemainder}
use Rattle.ideal.proofs.Lists.{each_up, each_down, each_both, among_up, among_down, some_injective, none_some}
use Rattle.ideal.proofs.Calculus.{Laws}
use Rattle.ideal.proofs.Divisibility as divisibility
use Rattle.ideal.proofs.Alls.{all-sum}
use Rattle.ideal.proofs.Value as value
use Rattle.ideal.proofs.Value.{val}
use Rattle.ideal.proofs.Ideal as ideal
use Rattle.ideal.proofs.Ideal.{join}
use Rattle.ideal.proofs.Division as division
use Rattle.ideal.proofs.Division.{Division}
use Rattle.ideal.proofs.Remainders as remainders
use Rattle.ideal.proofs.Remainders.{In, Divisor, Leading, Upto, Bounded}
use Rattle.ideal.proofs.Lift as lift
use Rattle.ideal.proofs.Lift.{operations, towards_lcm, bare, bare_injective, bare_element, bare_remainder}
use Rattle.ideal.proofs.Carried as carried
use Rattle.ideal.proofs.Raised as raised
use Rattle.ideal.proofs.Membership as membership

module _ {k : Arithmetic} (F : FieldLaws k) {n : ℕ} {cmp : Compare} (O : OrderLaws n cmp) where
  abbrev o : Operations (Code k) (Monomial n)
  o = operations F O

  abbrev r : Operations ℕ (List ℕ)
  r = ring k n cmp

  abbrev P : Type 0
  P = Poly (Code k) (Monomial n)

  abbrev E : Type 0
  E = Element (Code k) (Monomial n)

  abbrev Ok : Raw → Type 0
  Ok = Polynomial k n cmp

  abbrev Mem : List Raw → Raw → Type 0
  Mem = Member k n cmp

  L : Laws o
  L = lift.laws F O

  -- remainders
  leaves_up : (G : List E) (f : P) (q : Raw) → Leaves r (map bare_element G) (bare f) q → (x : P) × Division o G f x × (bare x ≡ q)
  leaves_up G f q (i, e) = at (divide o i G f) refl (sym (lift.bare-divide F O i G f) ∙ e)
    where
      at : (x : Option P) → divide o i G f ≡ x → bare_remainder x ≡ Some q → (x : P) × Division o G f x × (bare x ≡ q)
      at None h z = none_some z
      at (Some x) h z = (x, division.computed o G i f x h, some_injective z)

  leaves_down : (G : List E) (f x : P) → Leaves o G f x → Leaves r (map bare_element G) (bare f) (bare x)
  leaves_down G f x (i, e) = (i, lift.bare-divide F O i G f ∙ ap bare_remainder e)

  zero_both : (G : List E) (f : P) → Leaves r (map bare_element G) (bare f) [] ↔ Leaves o G f []
  zero_both G f = (
    (λ l. let (x, d, e) = leaves_up G f [] l in subst (Leaves o G f) (bare_injective x [] e) (division.leaves o G d)),
    leaves_down G f [],
  )

  pairs_both : (G H : List E) → PairsVanish r (map bare_element G) (map bare_element H) ↔ PairsVanish o G H
  pairs_both G [] = ((λ p. p), (λ p. p))
  pairs_both G (g ∷ H) =
      let Here : Raw → Type 0 = λ p. Leaves r (map bare_element G) p [] in
      let (up, down) = each_both bare_element (λ h. Here (s_polynomial r (bare_element g) h)) (λ h. Leaves o G (s_polynomial o g h) [])
      (λ h. subst (λ p. Here p ↔ Leaves o G (s_polynomial o g h) []) (lift.bare-s_polynomial F O g h) (zero_both G (s_polynomial o g h))) H in
      let (ups, downs) = pairs_both G H in
      ((λ (p, ps). (up p, ups ps)), (λ (p, ps). (down p, downs ps)))

  vanishing_both : (ps : List P) (G : List E) → Vanishing r (map bare ps) (map bare_element G) ↔ Vanishing o ps G
  vanishing_both ps G =
      let (up, down) = each_both bare (λ p. Leaves r (map bare_element G) p []) (λ p. Leaves o G p []) (zero_both G) ps in
      let (ups, downs) = pairs_both G G in
      ((λ (a, b). (up a, ups b)), (λ (a, b). (down a, downs b)))

  -- divisibility and bases
  divisible_up : (G : List E) (m : Monomial n) → Divisible (map bare_element G) m.0 → Divisor o G m
  divisible_up G m (x, a, e) = let (g, b, z) = among_up bare_element x G a in let d = leading_monomial g in (
    g,
    b,
    towards_lcm d m,
    monomial_path (divisibility.multiple-quotient d.0 m.0 (lift.alike d m)
        (ap (λ y. divides (leading_monomial y) m.0) (sym z) ∙ e)),
  )

  divisible_down : (G : List E) (m : Monomial n) → Divisor o G m → Divisible (map bare_element G) m.0
  divisible_down G m (g, a, s, e) = let d = leading_monomial g in (
    bare_element g,
    among_down bare_element g G a,
    ap (λ x. divides d.0 x.0) (sym e)
        ∙ divisibility.divides-multiple s.0 d.0 (lift.alike s d),
  )

  groebner_up : (ps : List P) → Each (Falling o) ps → (G : List E) → Groebner k n cmp (map bare ps) (map bare_element G) → Leading o ps G
  groebner_up ps fine G lead t f p i =
      divisible_up G t.1 (lead _ (bare f) (carried.polynomial_down F O (t ∷ f) p) (membership.member_down F O ps fine (t ∷ f) p i))

  groebner_down : (ps : List P) (G : List E) → Leading o ps G → Groebner k n cmp (map bare ps) (map bare_element G)
  groebner_down ps G lead t f ok i = raised.of_element F O (λ u. Mem (map bare ps) (whole u) → Divisible (map bare_element G) (leading_monomial u))
      (λ u p i. divisible_down G (leading_monomial u) (lead u.0 u.1 p (membership.member_up F O ps (whole u) i))) (t, f) ok i

  members_up : (ps : List P) (G : List E) → Derived k n cmp (map bare ps) (map bare_element G) → Each (λ g. In o ps (val o (whole g))) G
  members_up ps G S = each_up bare_element (λ g. Mem (map bare ps) (whole g)) (λ g. In o ps (val o (whole g)))
      (λ g. membership.member_up F O ps (whole g)) G S.elements_members

  -- the division theorem
  module _ (G : List E) (good : Each (λ g. Falling o (whole g)) G) (f x : P) (p : Falling o f) (d : Division o G f x) where
    all-product : (g a : P) → All (λ m. Bounded o G (Upto o f) m g) a → All (Upto o f) (product o a g)
    all-product g [] h = tt
    all-product g (t ∷ a) (b, h) = all-sum o (Upto o f) (multiple o t g) (product o a g) (remainders.bounded-multiple L G good f t g b)
        (all-product g a h)

    not_above : (q h : P) → All (Upto o h) q → NotAbove r (bare q) (bare h)
    not_above [] h u = tt
    not_above (s ∷ q) [] (u, _) = u
    not_above (s ∷ q) (t ∷ h) (u, _) = u

    all_not_above : (cofactors : List P) (H : List E) → Together (λ a g. All (λ m. Bounded o G (Upto o f) m g) a) cofactors (map whole H)
        → Together (λ a g. NotAbove r (product r a (whole g)) (bare f)) (map bare cofactors) (map bare_element H)
    all_not_above [] H h = tt
    all_not_above (a ∷ cofactors) [] h = tt
    all_not_above (a ∷ cofactors) (g ∷ H) (h, hs) = (
      subst (λ q. NotAbove r q (bare f)) (lift.bare-product F O a (whole g)) (not_above (product o a (whole g)) f (all-product (whole g) a h)),
      all_not_above cofactors H hs,
    )

    divided : Divided k n cmp (map bare_element G) (bare f) (bare x)
    divided = let (w, c, z) = remainders.divided L G good p d in let fx = remainders.falling_remainder L G good d p in
        let total = combination o c.list (map whole G) in record {
          remainder = carried.polynomial_down F O x fx;
          indivisible = carried.all_down F O _ (λ m. ¬ Divisible (map bare_element G) m)
              (λ m h y. remainders.no_divisor L G good m h (divisible_up G m y)) x (remainders.indivisible L G good d);
          cofactors = map bare c.list;
          polynomials = each_down bare Ok (Falling o) (carried.polynomial_down F O) c.list c.fall;
          one_each = length-map c.list bare ∙ c.one_each ∙ length-map G whole ∙ sym (length-map G bare_element);
          bounded = all_not_above c.list G c.allowed;
          equation = ap bare (value.known L f (sum o total x) p
              (value.falling_sum L total x (raised.falling_combination F O c.list (map whole G) c.fall
              (each_down whole (Falling o) (λ g. Falling o (whole g)) (λ g h. h) G good)) fx)
              (λ φ. ap (λ v. v φ) (z ∙ ap (λ v. join o v (val o x)) c.value ∙ sym (ideal.sum-value L total x))))
              ∙ lift.bare-sum F O total x
              ∙ ap (λ v. sum r v (bare x)) (lift.bare-combination F O c.list (map whole G)
              ∙ ap (combination r (map bare c.list)) (raised.map_wholes G));
        }

  pub division-ends : DivisionEnds k n cmp
  division-ends = record {
    ends = λ elements oks f ok. raised.of_elements F O (λ G. (q : Raw) × Leaves r G f q)
        (λ G good. carried.of_poly F O (λ f. (q : Raw) × Leaves r (map bare_element G) f q)
        (λ f p. let (x, d) = remainders.ends L G good f p in (bare x, leaves_down G f x (division.leaves o G d))) f ok) elements oks;
    stays = division.stays r;
    unique = division.one_remainder_lem r;
  }

  pub division_theorem_lem : DivisionTheorem k n cmp
  division_theorem_lem elements oks f q ok l = raised.of_elements F O (λ G. Leaves r G f q → Divided k n cmp G f q)
      (λ G good. carried.of_poly F O (λ f. Leaves r (map bare_element G) f q → Divided k n cmp (map bare_element G) f q)
      (λ f p l. let (x, d, e) = leaves_up G f q l in subst (Divided k n cmp (map bare_element G) (bare f)) e
      (divided G good f x p d)) f ok) elements oks l

  pub buchberger : Buchberger k n cmp
  buchberger elements oks pass = raised.of_elements F O (λ G. PairsVanish r G G → Groebner k n cmp (map whole G) G)
      (λ G good pass. subst (λ ps. Groebner k n cmp ps (map bare_element G)) (raised.map_wholes G)
      (groebner_down (map whole G) G (remainders.buchberger L G good ((pairs_both G G).0 pass)))) elements oks pass

  -- for generators and elements of their ideal
  of_derived : (X : List Raw → List RawElement → Type 0)
      → ((ps : List P) → Each (Falling o) ps → (G : List E) → Each (λ g. Falling o (whole g)) G
      → Derived k n cmp (map bare ps) (map bare_element G) → X (map bare ps) (map bare_element G))
      → (generators : List Raw) (elements : List RawElement) → Derived k n cmp generators elements → X generators elements
  of_derived X h generators elements S = raised.of_generators F O (λ ps. Derived k n cmp ps elements → X ps elements)
      (λ ps fine. raised.of_elements F O (λ G. Derived k n cmp (map bare ps) G
      → X (map bare ps) G) (λ G good S. h ps fine G good S) elements S.elements_polynomials)
      generators S.generators_polynomials S

  pub completeness_both_ways_lem : CompletenessBothWays k n cmp
  completeness_both_ways_lem = of_derived (λ generators elements. Vanishing r generators elements ↔ Groebner k n cmp generators elements)
      (λ ps fine G good S. let i = members_up ps G S in (
        (λ v. groebner_down ps G (remainders.vanishing_leading L ps fine G good i ((vanishing_both ps G).0 v))),
        (λ lead. (vanishing_both ps G).1 (remainders.leading_vanishing L ps fine G good i (groebner_up ps fine G lead))),
      ))

  abbrev Decided : Raw → List Raw → List RawElement → Raw → Type 0
  Decided q generators elements f = Vanishing r generators elements → Leaves r elements f q → Mem generators f ↔ (q ≡ [])

  pub membership_decided : Membership k n cmp
  membership_decided generators elements S v f q ok l = of_derived (λ generators elements. Decided q generators elements f)
      (λ ps fine G good S. carried.of_poly F O (Decided q (map bare ps) (map bare_element G)) (λ f p v l.
      let (x, d, e) = leaves_up G f q l in
      let i = members_up ps G S in
      let lead = remainders.vanishing_leading L ps fine G good i ((vanishing_both ps G).0 v) in (
        (λ m. sym e ∙ ap bare (remainders.member_zero L ps fine G good i lead f x p d (membership.member_up F O ps f m))),
        (λ z. membership.member_down F O ps fine f p (remainders.zero_member L ps fine G good i f x d (bare_injective x [] (e ∙ z)))),
      )) f ok) generators elements S v l

  abbrev Agreed : Raw → Raw → List Raw → List RawElement → List RawElement → Raw → Raw → Type 0
  Agreed q s generators elements others f h = Vanishing r generators elements → Vanishing r generators others
      → Leaves r elements f q → Leaves r others h s → (q ≡ s) ↔ Mem generators (difference r f h)

  pub one_remainder_lem : OneRemainder k n cmp
  one_remainder_lem generators elements others S v T w f h q s ok ok' l l' =
      of_derived (λ generators elements. Derived k n cmp generators others → Agreed q s generators elements others f h) (λ ps fine G good S T.
      raised.of_elements F O (λ H. Derived k n cmp (map bare ps) H → Agreed q s (map bare ps) (map bare_element G) H f h) (λ H good' T.
      carried.of_two F O (Agreed q s (map bare ps) (map bare_element G) (map bare_element H)) (λ f h p p' v w l l'.
      let (x, d, e) = leaves_up G f q l in
      let (y, d', e') = leaves_up H h s l' in
      let i = members_up ps G S in
      let i' = members_up ps H T in
      let lead = remainders.vanishing_leading L ps fine G good i ((vanishing_both ps G).0 v) in
      let lead' = remainders.vanishing_leading L ps fine H good' i' ((vanishing_both ps H).0 w) in (
        (λ z. subst (Mem (map bare ps)) (lift.bare-difference F O f h)
            (membership.member_down F O ps fine (difference o f h) (remainders.falling_difference L f h p p')
            (remainders.same_member L ps fine G good i H good' i' f h x y p p' d d' (bare_injective x y (e ∙ z ∙ sym e'))))),
        (λ m. sym e ∙ ap bare (remainders.member_same L ps fine G good i H good' i' f h x y p p' d d' lead lead'
            (membership.member_up F O ps (difference o f h) (subst (Mem (map bare ps)) (sym (lift.bare-difference F O f h)) m))) ∙ e'),
      )) f h ok ok') others T.elements_polynomials T) generators elements S T v w l l'
