-- A table's terms, one at a time. Assumes nothing.
use Rattle.std.proofs.Common.{◌≡◌, ℕ, zero, suc, ◌+◌, ◌-◌, ◌*◌, ◌/◌, ◌%◌, ◌<◌, ◌≤◌, List, [], ◌∷◌, ◌++◌, length, take, drop, Some, None, Ok, Err, Option, Result, sym, refl, ap, ◌∙◌, subst, ap₂, append_assoc, add-mul, one-mul, arith}
use Rattle.std.proofs.lemmas.List.{take_at, drop_at}
use Rattle.std.proofs.lemmas.Bool.{le-leb, eq-eqb}
use Rattle.field.specs.Fields.{Arithmetic}
use Rattle.order.specs.Orders.{Compare}
use Rattle.ideal.specs.Polynomials.{Term}
use Rattle.polynomial.specs.Results.{◌>>=◌, ◌>>◌, check}
use Rattle.ideal.specs.Rings.{Raw}
use Rattle.polynomial.specs.Tables.{term, terms, read}
use Rattle.polynomial.specs.declared.flaw.Flaw.{Flaw}
use Rattle.polynomial.specs.declared.flaw.Flaw.TheVariants.{Length, Terms}

abbrev pub Read : Type 0
Read = Result (Term ℕ (List ℕ)) Flaw

-- what is read behind what has been read
abbrev pub prefixed : Raw → Result Raw Flaw → Result Raw Flaw
prefixed xs (Ok ys) = Ok (xs ++ ys)
prefixed xs (Err e) = Err e

prefixed_one : (xs : Raw) (t : Term ℕ (List ℕ)) (r : Result Raw Flaw) → prefixed xs (r >>= (λ p. Ok (t ∷ p))) ≡ prefixed (xs ++ (t ∷ [])) r
prefixed_one xs t (Ok ys) = ap Ok (sym (append_assoc xs (t ∷ []) ys))
prefixed_one xs t (Err e) = refl

module _ (k : Arithmetic) (n : ℕ) (cmp : Compare) where
  -- one term more, where c are left, and a table that begins with the numbers of one
  module _ (c i : ℕ) (last : Option (List ℕ)) (xs front back : List ℕ) (out : Raw) (some : 0 < c) (long : length front ≡ n + 1) (whole : xs ≡ front ++ back) where
    abbrev go : ℕ → List ℕ → Term ℕ (List ℕ) → Result Raw Flaw
    go c back t = terms k n cmp c (suc i) (Some t.1) back >>= (λ p. Ok (t ∷ p))

    opened : (d : ℕ) → c ≡ suc d → terms k n cmp c i last xs ≡ (term k cmp i last front >>= go d back)
    opened d e =
        let s : suc n ≡ n + 1 = omega arith in
        ap (λ c. terms k n cmp c i last xs) e
        ∙ ap (λ z. term k cmp i last (take z xs) >>= go d (drop z xs)) s
        ∙ ap₂ (λ y z. term k cmp i last y >>= go d z) (ap (take (n + 1)) whole ∙ take_at front back (n + 1) long) (ap (drop (n + 1)) whole ∙ drop_at front back (n + 1) long)

    pub terms_ok : (t : Term ℕ (List ℕ)) → Ok t ≡ term k cmp i last front → prefixed out (terms k n cmp c i last xs) ≡ prefixed (out ++ (t ∷ [])) (terms k n cmp (c - 1) (i + 1) (Some t.1) back)
    terms_ok t e =
        ap (prefixed out) (opened (c - 1) (omega arith) ∙ ap (λ (r : Read). r >>= go (c - 1) back) (sym e))
        ∙ prefixed_one out t (terms k n cmp (c - 1) (suc i) (Some t.1) back)
        ∙ ap (λ j. prefixed (out ++ (t ∷ [])) (terms k n cmp (c - 1) j (Some t.1) back)) (let d : suc i ≡ i + 1 = omega arith in d)

    pub terms_err : (flaw : Flaw) → Err flaw ≡ term k cmp i last front → prefixed out (terms k n cmp c i last xs) ≡ Err flaw
    terms_err flaw e = ap (prefixed out) (opened (c - 1) (omega arith) ∙ ap (λ (r : Read). r >>= go (c - 1) back) (sym e))

  pub terms_none : (c i : ℕ) (last : Option (List ℕ)) (xs : List ℕ) → c ≡ 0 → terms k n cmp c i last xs ≡ Ok []
  terms_none c i last xs e = ap (λ z. terms k n cmp z i last xs) e

  -- a table whose length and number of terms pass
  pub read_terms : (most : ℕ) (xs : List ℕ) → length xs % (n + 1) ≡ 0 → length xs / (n + 1) ≤ most → read k n cmp most xs ≡ terms k n cmp (length xs / (n + 1)) 0 None xs
  read_terms most xs h l =
      let s : n + 1 ≡ suc n = omega arith in
      let h' = subst (λ (z : ℕ). length xs % z ≡ 0) s h in
      let l' = subst (λ (z : ℕ). length xs / z ≤ most) s l in
      ap₂ (λ x y. check x Length >> (check y Terms >> terms k n cmp (length xs / suc n) 0 None xs)) (eq-eqb (length xs % suc n) 0 h') (le-leb (length xs / suc n) most l')
      ∙ ap (λ z. terms k n cmp (length xs / z) 0 None xs) (sym s)

-- how much is left: c parts of s

pub one_part : (c s : ℕ) → suc c * s ≡ c * s + s
one_part c s = ap (λ z. z * s) (let u : suc c ≡ c + 1 = omega arith in u) ∙ add-mul c 1 s ∙ ap (λ z. c * s + z) (one-mul s)

pub left-more : (c s l : ℕ) → 0 < s → s ≤ l → l ≡ c * s → (0 < c) × (l - s ≡ (c - 1) * s)
left-more zero s l p h e = absurd (omega arith)
left-more (suc c) s l p h e =
    let w = one_part c s in
    let d : suc c - 1 ≡ c = omega arith in
    let f : l - s ≡ c * s = omega arith in
    (omega arith, f ∙ ap (λ z. z * s) (sym d))

pub left-none : (c s l : ℕ) → l < s → l ≡ c * s → c ≡ 0
left-none zero s l h e = refl
left-none (suc c) s l h e = let w = one_part c s in absurd (omega arith)
