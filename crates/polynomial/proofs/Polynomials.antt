-- What is read from a table is a polynomial. Assumes nothing.
use Rattle.std.proofs.Common.{◌≡◌, ℕ, zero, suc, ◌+◌, ◌*◌, ◌/◌, ◌%◌, ◌<◌, true, ◌&&◌, eqb, ltb, leb, ◌≢◌, List, [], ◌∷◌, length, take, drop, Some, None, Ok, Option, Ordering, Less, Equal, Greater, refl, ap, ◌∙◌, subst, add-mul, one-mul, div-add-mod', arith, length-drop, length-take-le}
use Rattle.std.proofs.lemmas.Bool.{ltb-true, eqb-true, and_parts}
use Rattle.field.specs.Fields.{Arithmetic}
use Rattle.order.specs.Monomials.{small}
use Rattle.order.specs.Orders.{Compare, OrderLaws}
use Rattle.ideal.specs.Lists.{Each}
use Rattle.ideal.specs.Polynomials.{Term, All, Lower, Falling}
use Rattle.ideal.specs.Rings.{Raw, ring, Polynomial}
use Rattle.polynomial.specs.Results.{◌>>=◌, ◌>>◌, check}
use Rattle.polynomial.specs.Tables.{is_less, falls, term, terms, read}
use Rattle.polynomial.specs.declared.flaw.Flaw.TheVariants.{Length, Terms, Coefficient, Exponent, Order}
use Rattle.polynomial.proofs.Outcomes.{checked, bound}

less_is : (d : Ordering) → is_less d ≡ true → d ≡ Less
less_is Less e = refl
less_is Equal e = cc
less_is Greater e = cc

module _ (k : Arithmetic) (n : ℕ) (cmp : Compare) (O : OrderLaws n cmp) where
  abbrev Good : Term ℕ (List ℕ) → Type 0
  Good t = (t.0 < k.size) × (length t.1 ≡ n)

  -- lower than the monomial before, where there is one
  abbrev After : Option (List ℕ) → List ℕ → Type 0
  After None m = Unit {0}
  After (Some last) m = (length last ≡ n) × (cmp m last ≡ Less)

  abbrev AllAfter : Option (List ℕ) → Raw → Type 0
  AllAfter None p = Unit {0}
  AllAfter (Some last) p = All (Lower (ring k n cmp) last) p

  Fits : Option (List ℕ) → Type 0
  Fits None = Unit {0}
  Fits (Some last) = length last ≡ n

  after : (last : Option (List ℕ)) (m : List ℕ) → Fits last → falls cmp last m ≡ true → After last m
  unfolding Fits
  after None m f e = tt
  after (Some last) m f e = (f, less_is (cmp m last) e)

  term-good : (i : ℕ) (last : Option (List ℕ)) → Fits last → (xs : List ℕ) → length xs ≡ suc n → (t : Term ℕ (List ℕ)) → term k cmp i last xs ≡ Ok t → (Good t × (t.0 ≢ 0)) × After last t.1
  term-good i last f [] l t e = absurd (omega arith)
  term-good i last f (c ∷ m) l t e =
      let (a, e1) = checked (ltb 0 c && ltb c k.size) (Coefficient i) (check (small m) (Exponent i) >> (check (falls cmp last m) (Order i) >> Ok (c, m))) t e in
      let (b, e2) = checked (small m) (Exponent i) (check (falls cmp last m) (Order i) >> Ok (c, m)) t e1 in
      let (d, e3) = checked (falls cmp last m) (Order i) (Ok (c, m)) t e2 in
      let is : (c, m) ≡ t = cc in
      let (p, q) = and_parts (ltb 0 c) (ltb c k.size) a in
      let lo = ltb-true 0 c p in
      let hi = ltb-true c k.size q in
      subst (λ t. (Good t × (t.0 ≢ 0)) × After last t.1) is (((hi, omega arith), (λ z. omega arith)), after last m f d)

  all_after : (last : Option (List ℕ)) (t : Term ℕ (List ℕ)) (p : Raw) → length t.1 ≡ n → Each Good p → After last t.1 → All (Lower (ring k n cmp) t.1) p → AllAfter last (t ∷ p)
  all_after None t p l g a b = tt
  all_after (Some last) t p l g (f, h) b = (h, later p g b)
    where
      later : (p : Raw) → Each Good p → All (Lower (ring k n cmp) t.1) p → All (Lower (ring k n cmp) last) p
      later [] g b = tt
      later (s ∷ p) (x, g) (y, b) = (O.trans (s.1, x.1) (t.1, l) (last, f) y h, later p g b)

  terms-good : (c i : ℕ) (last : Option (List ℕ)) → Fits last → (xs : List ℕ) → length xs ≡ c * suc n → (p : Raw) → terms k n cmp c i last xs ≡ Ok p → (Each Good p × Falling (ring k n cmp) p) × AllAfter last p × (length p ≡ c)
  unfolding Fits
  terms-good zero i None f xs l p e = let is : [] ≡ p = cc in subst (λ p. (Each Good p × Falling (ring k n cmp) p) × AllAfter None p × (length p ≡ 0)) is ((tt, tt), tt, refl)
  terms-good zero i (Some last) f xs l p e = let is : [] ≡ p = cc in subst (λ p. (Each Good p × Falling (ring k n cmp) p) × AllAfter (Some last) p × (length p ≡ 0)) is ((tt, tt), tt, refl)
  terms-good (suc c) i last f xs l p e =
      let w : suc c * suc n ≡ c * suc n + suc n = ap (λ z. z * suc n) (let u : suc c ≡ c + 1 = omega arith in u) ∙ add-mul c 1 (suc n) ∙ ap (λ z. c * suc n + z) (one-mul (suc n)) in
      let (t, r, e1) = bound (term k cmp i last (take (suc n) xs)) (λ t. terms k n cmp c (suc i) (Some t.1) (drop (suc n) xs) >>= (λ p. Ok (t ∷ p))) p e in
      let (q, s, e2) = bound (terms k n cmp c (suc i) (Some t.1) (drop (suc n) xs)) (λ p. Ok (t ∷ p)) p e1 in
      let ((g, z), a) = term-good i last f (take (suc n) xs) (length-take-le (suc n) xs (omega arith)) t r in
      let d = length-drop (suc n) xs in
      let ((gs, fs), as', m) = terms-good c (suc i) (Some t.1) g.1 (drop (suc n) xs) (omega arith) q s in
      let is : t ∷ q ≡ p = cc in
      subst (λ p. (Each Good p × Falling (ring k n cmp) p) × AllAfter last p × (length p ≡ suc c)) is (((g, gs), (z, as', fs)), all_after last t q g.1 gs a as', ap suc m)

  -- a table that is read is a polynomial
  pub read_good : (most : ℕ) (xs : List ℕ) (p : Raw) → read k n cmp most xs ≡ Ok p → Polynomial k n cmp p
  unfolding Fits
  read_good most xs p e =
      let (a, e1) = checked (eqb (length xs % suc n) 0) Length (check (leb (length xs / suc n) most) Terms >> terms k n cmp (length xs / suc n) 0 None xs) p e in
      let (b, e2) = checked (leb (length xs / suc n) most) Terms (terms k n cmp (length xs / suc n) 0 None xs) p e1 in
      let m = eqb-true (length xs % suc n) 0 a in
      let l : length xs ≡ length xs / suc n * suc n = let d = div-add-mod' (length xs) (suc n) in omega arith in
      (terms-good (length xs / suc n) 0 None tt xs l p e2).0
