-- Division ends, what it leaves, and what the remainders of a basis say of the ideal.
use Rattle.std.proofs.Common.{◌≡◌, ℕ, ◌≢◌, ◌⊎◌, List, [], ◌∷◌, map, Some, None, Option, Less, Greater, sym, refl, ap, ◌∙◌, subst, ap₂, inl, inr, arith}
use mathlib.Core.Path.{fun_ext}
use mathlib.Core.WellFounded.{Acc}
use Rattle.ideal.specs.Lists.{Among, Each}
use Rattle.ideal.specs.Polynomials.{Operations, Term, Poly, Element, whole, leading_coefficient, leading_monomial, All, Lower, Falling, multiple, difference}
use Rattle.ideal.specs.Dividing.{first_divisor, reduced, s_polynomial, Leaves, PairsVanish, Vanishing}
use Rattle.ideal.proofs.Lists.{each_at, each_of, among_up, among_down, none_some}
use Rattle.ideal.proofs.Calculus as calculus
use Rattle.ideal.proofs.Calculus.{Laws}
use Rattle.ideal.proofs.Alls.{all_map, all-sum, all-multiple}
use Rattle.ideal.proofs.Value as value
use Rattle.ideal.proofs.Value.{val}
use Rattle.ideal.proofs.Cancelling as cancelling
use Rattle.ideal.proofs.Ideal as ideal
use Rattle.ideal.proofs.Ideal.{V, join, act, Span, Ideal, Cofactors}
use Rattle.ideal.proofs.Division as division
use Rattle.ideal.proofs.Division.{Division, ended, kept, used}
use Rattle.ideal.proofs.Standard.{Under}
use Rattle.ideal.proofs.Basis as basis
use Rattle.ideal.proofs.Basis.{frame}

module _ {K M : Type 0} (o : Operations K M) where
  -- the ideal of the generators
  abbrev pub In : List (Poly K M) → V K M → Type 0
  In generators = Ideal o (λ p. Among p generators)

  -- m is a multiple of the leading monomial of an element
  abbrev pub Divisor : List (Element K M) → M → Type 0
  Divisor G m = (g : Element K M) × Among g G × (s : M) × (o.multiply s (leading_monomial g) ≡ m)

  -- every polynomial of the ideal leads at such a multiple
  abbrev pub Leading : List (Poly K M) → List (Element K M) → Type 0
  Leading generators G = (t : Term K M) (f : Poly K M) → Falling o (t ∷ f) → In generators (val o (t ∷ f)) → Divisor G t.1

  -- m is not above f
  abbrev pub Upto : Poly K M → M → Type 0
  Upto [] m = ⊥
  Upto (t ∷ f) m = o.compare m t.1 ≢ Greater

  -- p is an element of G, and its multiple by m leads at a monomial with P
  abbrev pub Bounded : List (Element K M) → (M → Type 0) → M → Poly K M → Type 0
  Bounded G P m p = (g : Element K M) × Among g G × (p ≡ whole g) × P (o.multiply m (leading_monomial g))

-- every two elements, from each two once, and back
module _ {K M : Type 0} (o : Operations K M) (G : List (Element K M)) where
  every_pair : (H : List (Element K M)) → ((g h : Element K M) → Among g H → Among h H → Leaves o G (s_polynomial o g h) []) → PairsVanish o G H
  every_pair [] p = tt
  every_pair (g ∷ H) p = (
    each_of (λ h. Leaves o G (s_polynomial o g h) []) H (λ h a. p g h (inl refl) (inr a)),
    every_pair H (λ x y a b. p x y (inr a) (inr b)),
  )

  of_pairs : (H : List (Element K M)) → PairsVanish o G H → (g h : Element K M) → Among g H → Among h H
      → (g ≡ h) ⊎ (Division o G (s_polynomial o g h) [] ⊎ Division o G (s_polynomial o h g) [])
  of_pairs [] p g h a b = absurd a
  of_pairs (x ∷ H) (p, ps) g h (inl a) (inl b) = inl (a ∙ sym b)
  of_pairs (x ∷ H) (p, ps) g h (inl a) (inr b) = let (i, e) = each_at (λ h. Leaves o G (s_polynomial o x h) []) H p h b in
      inr (inl (subst (λ y. Division o G (s_polynomial o y h) []) (sym a) (division.computed o G i _ [] e)))
  of_pairs (x ∷ H) (p, ps) g h (inr a) (inl b) = let (i, e) = each_at (λ h. Leaves o G (s_polynomial o x h) []) H p g a in
      inr (inr (subst (λ y. Division o G (s_polynomial o y g) []) (sym b) (division.computed o G i _ [] e)))
  of_pairs (x ∷ H) (p, ps) g h (inr a) (inr b) = of_pairs H ps g h a b

module _ {K M : Type 0} {o : Operations K M} (L : Laws o) (G : List (Element K M)) (good : Each (λ g. Falling o (whole g)) G) where
  open o use {zero, one, plus as ◌+◌, negate, times as ◌*◌, inverse, multiply as ◌▹◌, quotient, compare}

  infixl 60 ◌+◌
  infixl 70 ◌*◌
  infixl 70 ◌▹◌
  falls : (g : Element K M) → Among g G → Falling o (whole g)
  falls = each_at (λ g. Falling o (whole g)) G good

  -- the remainder
  pub falling_remainder : {f r : Poly K M} → Division o G f r → Falling o f → Falling o r
  falling_remainder ended f = tt
  falling_remainder (kept {t = t} h d) (n, a, f) =
      (n, (basis.represent L G falls (Lower o t.1) (λ a b p q. L.compare_trans a b _ p q) d a).3, falling_remainder d f)
  falling_remainder (used {t = t} {f = f} g s h d) p =
      falling_remainder d (cancelling.falling_reduced L t f g s p (falls g (basis.at_divisor L G falls t g s h).0))

  pub indivisible : {f r : Poly K M} → Division o G f r → All (λ m. first_divisor o G m ≡ None) r
  indivisible ended = tt
  indivisible (kept h d) = (h, indivisible d)
  indivisible (used g s h d) = indivisible d

  pub no_divisor : (m : M) → first_divisor o G m ≡ None → ¬ Divisor o G m
  no_divisor m h (g, a, s, e) = none_some (sym (division.found_none o G m h g a) ∙ ap (λ x. quotient x (leading_monomial g)) (sym e)
      ∙ L.quotient_multiply s (leading_monomial g))

  -- division ends
  one_turn : (t : Term K M) (f : Poly K M) → Falling o (t ∷ f)
      → ((h : Poly K M) → All (Lower o t.1) h → Falling o h → (r : Poly K M) × Division o G h r) → (r : Poly K M) × Division o G (t ∷ f) r
  one_turn t f p ih = at (first_divisor o G t.1) refl
    where
      at : (x : Option (Element K M × M)) → first_divisor o G t.1 ≡ x → (r : Poly K M) × Division o G (t ∷ f) r
      at None h = let (r, d) = ih f p.1 p.2 in (t ∷ r, kept h d)
      at (Some (g, s)) h =
          let (a, e) = basis.at_divisor L G falls t g s h in
          let (r, d) = ih (reduced o t f g s) (cancelling.reduced_lower L t f g s p (falls g a) e)
          (cancelling.falling_reduced L t f g s p (falls g a)) in
          (r, used g s h d)

  below : (d : M) → Acc (λ x y. compare x y ≡ Less) d → (f : Poly K M) → All (Lower o d) f → Falling o f → (r : Poly K M) × Division o G f r
  below d (Acc.intro x h) [] a p = ([], ended)
  below d (Acc.intro x h) (t ∷ f) (y, a) p = one_turn t f p (below t.1 (h t.1 y))

  pub ends : (f : Poly K M) → Falling o f → (r : Poly K M) × Division o G f r
  ends [] p = ([], ended)
  ends (t ∷ f) p = one_turn t f p (below t.1 (L.compare_ends t.1))

  -- sums of multiples of the elements
  under_span : {P : M → Type 0} {f : V K M} → Under (frame L G falls) P f → Span o (Bounded o G P) f
  under_span (Under.none z) = Span.none z
  under_span (Under.more c (g, a, m) v p u z) = Span.more (c * inverse (leading_coefficient g)) m (whole g) v (g, a, refl, p) (under_span u) z

  of_element : (P : M → Type 0) (m : M) (p : Poly K M) → Bounded o G P m p → Among p (map whole G)
  of_element P m p (g, a, e, _) = subst (λ x. Among x (map whole G)) (sym e) (among_down whole g G a)

  ideal_under : {f : V K M} → In o (map whole G) f → Under (frame L G falls) (λ _. Unit {0}) f
  ideal_under (Span.none z) = Under.none z
  ideal_under (Span.more c m p v a u z) = let (g, b, e) = among_up whole p G a in
      Under.more (c * leading_coefficient g) (g, b, m) v tt (ideal_under u) (z ∙ ap₂ (λ x q. join o (act o x m (val o q)) v)
      (sym (L.times_assoc _ _ _ ∙ ap (λ x. c * x) (L.times_inverse _ (falls g b).0) ∙ calculus.times-right L c)) e)

  -- the dividend is a value of the elements' ideal and the remainder
  pub apart : {f r : Poly K M} → Division o G f r → (w : V K M) × In o (map whole G) w × (val o f ≡ join o w (val o r))
  apart {f} d = let (w, u, z, _) = basis.represent L G falls (λ _. Unit {0}) (λ a b p q. tt) d (any f) in
      (w, ideal.span_map L (of_element (λ _. Unit {0})) (under_span u), z)
    where
      any : (p : Poly K M) → All (λ _. Unit {0}) p
      any [] = tt
      any (t ∷ p) = (tt, any p)

  upto_down : (f : Poly K M) (a b : M) → Lower o b a → Upto o f b → Upto o f a
  upto_down [] a b h u = u
  upto_down (t ∷ f) a b h u = λ e. u (L.compare_less _ _ (L.compare_trans _ _ _ (L.compare_greater _ _ e) h))

  upto_self : (f : Poly K M) → Falling o f → All (Upto o f) f
  upto_self [] p = tt
  upto_self (t ∷ f) (n, a, p) = (
    (λ e. let h = L.compare_self t.1 in let z : ◌≡◌ {A = ℕ} 0 1 = cc in omega arith),
    all_map (λ m x e. let z : ◌≡◌ {A = ℕ} 0 1 = cc in omega arith) f a,
  )

  -- the division theorem: cofactors, no product of which is above the dividend
  pub divided : {f r : Poly K M} → Falling o f → Division o G f r
      → (w : V K M) × Cofactors o (Bounded o G (Upto o f)) (map whole G) w × (val o f ≡ join o w (val o r))
  divided {f} p d = let (w, u, z, _) = basis.represent L G falls (Upto o f) (upto_down f) d (upto_self f p) in
      (w, ideal.gathered L (Bounded o G (Upto o f)) (map whole G) (of_element (Upto o f)) (under_span u), z)

  -- a product of a cofactor is under the bound of its terms
  pub bounded-multiple : (f : Poly K M) (t : Term K M) (p : Poly K M) → Bounded o G (Upto o f) t.1 p → All (Upto o f) (multiple o t p)
  bounded-multiple f t p (g, a, e, u) = subst (λ q. All (Upto o f) (multiple o t q)) (sym e)
      (u, all_map (λ m y. upto_down f _ _ y u) (multiple o t g.1) (cancelling.rest_lower L g (falls g a) t.0 t.1 _ refl))

  -- Buchberger's criterion
  pub buchberger : PairsVanish o G G → Leading o (map whole G) G
  buchberger done t f p i = let (j, e) = basis.criterion L G falls (of_pairs o G G done) t f p (ideal_under i) in (j.0, j.1, j.2, e)

-- elements of the generators' ideal
module _ {K M : Type 0} {o : Operations K M} (L : Laws o) (generators : List (Poly K M)) (fine : Each (Falling o) generators)
    (G : List (Element K M)) (good : Each (λ g. Falling o (whole g)) G) (members : Each (λ g. In o generators (val o (whole g))) G) where
  open o use {plus as ◌+◌, negate}

  infixl 60 ◌+◌
  member : (g : Element K M) → Among g G → In o generators (val o (whole g))
  member = each_at (λ g. In o generators (val o (whole g))) G members

  pub from-elements : {f : V K M} → In o (map whole G) f → In o generators f
  from-elements = ideal.ideal_into L (λ p a. let (g, b, e) = among_up whole p G a in subst (λ x. In o generators (val o x)) (sym e) (member g b))

  to_elements : Each (λ p. Leaves o G p []) generators → {f : V K M} → In o generators f → In o (map whole G) f
  to_elements vanish = ideal.ideal_into L (λ p a.
      let (i, e) = each_at (λ p. Leaves o G p []) generators vanish p a in
      let (w, u, z) = apart L G good (division.computed o G i p [] e) in
      subst (In o (map whole G)) (sym (z ∙ fun_ext (λ φ. calculus.plus-right L (w φ)))) u)

  remainder_in : {f r : Poly K M} → Division o G f r → In o generators (val o f) → In o generators (val o r)
  remainder_in d i = let (w, u, z) = apart L G good d in
      subst (In o generators) (fun_ext (λ φ. ap (λ x. x φ + negate (w φ)) z ∙ calculus.undo L _ _)) (ideal.ideal_less L i (from-elements u))

  -- a member leaves 0, and what leaves 0 is a member
  pub member_zero : Leading o generators G → (f r : Poly K M) → Falling o f → Division o G f r → In o generators (val o f) → r ≡ []
  member_zero lead f [] p d i = refl
  member_zero lead f (t ∷ r) p d i =
      absurd (no_divisor L G good t.1 (indivisible L G good d).0 (lead t r (falling_remainder L G good d p) (remainder_in d i)))

  pub zero_member : (f r : Poly K M) → Division o G f r → r ≡ [] → In o generators (val o f)
  zero_member f r d z = let (w, u, y) = apart L G good d in
      subst (In o generators) (sym (y ∙ ap (λ x. join o w (val o x)) z ∙ fun_ext (λ φ. calculus.plus-right L (w φ)))) (from-elements u)

  pub vanishing_leading : Vanishing o generators G → Leading o generators G
  vanishing_leading (vanish, done) t f p i = buchberger L G good done t f p (to_elements vanish i)

  divides_to_zero : Leading o generators G → (f : Poly K M) → Falling o f → In o generators (val o f) → Leaves o G f []
  divides_to_zero lead f p i = let (r, d) = ends L G good f p in division.leaves o G (subst (Division o G f) (member_zero lead f r p d i) d)

  pub leading_vanishing : Leading o generators G → Vanishing o generators G
  leading_vanishing lead = (
    each_of (λ p. Leaves o G p []) generators (λ p a. divides_to_zero lead p (each_at (Falling o) generators fine p a) (ideal.ideal_member L p a)),
    every_pair o G G (λ g h a b. divides_to_zero lead (s_polynomial o g h)
        (cancelling.falling_s_polynomial L g h (falls L G good g a) (falls L G good h b))
        (ideal.ideal_sum L (multiple o _ (whole g)) (multiple o _ (whole h)) (ideal.ideal_multiple L _ (whole g) (member g a))
        (ideal.ideal_multiple L _ (whole h) (member h b)))),
  )

pub falling_difference : {K M : Type 0} {o : Operations K M} (L : Laws o) (p q : Poly K M) → Falling o p → Falling o q → Falling o (difference o p q)
falling_difference {o = o} L p q a b = value.falling_sum L p _ a
    (value.falling_multiple L (o.negate o.one, o.unit) q (calculus.negate_nonzero L o.one L.one_nonzero) b)

-- the remainders of two dividends, each by its own elements of one ideal
module _ {K M : Type 0} {o : Operations K M} (L : Laws o) (generators : List (Poly K M)) (fine : Each (Falling o) generators)
    (G : List (Element K M)) (good : Each (λ g. Falling o (whole g)) G) (members : Each (λ g. In o generators (val o (whole g))) G)
    (H : List (Element K M)) (good' : Each (λ g. Falling o (whole g)) H) (members' : Each (λ g. In o generators (val o (whole g))) H)
    (f h q r : Poly K M) (p : Falling o f) (p' : Falling o h) (d : Division o G f q) (d' : Division o H h r) where
  open o use {one, plus as ◌+◌, negate, unit}

  infixl 60 ◌+◌
  -- what is taken away from the two differs by a value of the ideal
  taken : V K M
  taken φ = (apart L G good d).0 φ + negate ((apart L H good' d').0 φ)

  taken_in : In o generators taken
  unfolding taken
  taken_in = ideal.ideal_less L (from-elements L generators fine G good members (apart L G good d).1)
      (from-elements L generators fine H good' members' (apart L H good' d').1)

  differs : val o (difference o f h) ≡ join o taken (val o (difference o q r))
  unfolding taken
  differs = ideal.difference-value L f h ∙ fun_ext (λ φ. ap₂ (λ x y. x φ + negate (y φ)) (apart L G good d).2 (apart L H good' d').2
      ∙ calculus.apart L _ _ _ _)
      ∙ sym (ap (join o taken) (ideal.difference-value L q r))

  pub same_member : q ≡ r → In o generators (val o (difference o f h))
  same_member e = subst (In o generators) (sym (differs ∙ fun_ext (λ φ. ap (λ x. taken φ + x)
      (ap (λ x. x φ) (ideal.difference-value L q r) ∙ ap (λ x. val o x φ + negate (val o r φ)) e ∙ L.plus_negate _)
      ∙ calculus.plus-right L _))) taken_in

  pub member_same : Leading o generators G → Leading o generators H → In o generators (val o (difference o f h)) → q ≡ r
  member_same lead lead' i = at (difference o q r) refl
      (subst (In o generators) (fun_ext (λ φ. ap (λ x. x φ + negate (taken φ)) differs ∙ calculus.undo L _ _)) (ideal.ideal_less L i taken_in))
    where
      fq : Falling o q
      fq = falling_remainder L G good d p

      fr : Falling o r
      fr = falling_remainder L H good' d' p'

      Free : M → Type 0
      Free m = (first_divisor o G m ≡ None) ⊎ (first_divisor o H m ≡ None)

      free : All Free (difference o q r)
      free = all-sum o Free q _ (all_map (λ m x. inl x) q (indivisible L G good d))
          (all-multiple o (λ m. first_divisor o H m ≡ None) Free (negate one, unit)
          (λ m x. inr (ap (first_divisor o H) (L.multiply_unit m) ∙ x)) r (indivisible L H good' d'))

      clash : (m : M) → Free m → Divisor o G m → Divisor o H m → ⊥
      clash m (inl x) y z = no_divisor L G good m x y
      clash m (inr x) y z = no_divisor L H good' m x z

      at : (x : Poly K M) → difference o q r ≡ x → In o generators (val o (difference o q r)) → q ≡ r
      at [] e i = value.known L q r fq fr (λ φ. calculus.equal L _ _ (sym (ap (λ x. x φ) (ideal.difference-value L q r)) ∙ ap (λ x. val o x φ) e))
      at (t ∷ x) e i =
          let fall = subst (Falling o) e (falling_difference L q r fq fr) in
          let into = subst (λ y. In o generators (val o y)) e i in
          absurd (clash t.1 (subst (All Free) e free).0 (lead t x fall into) (lead' t x fall into))
