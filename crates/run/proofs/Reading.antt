-- What is read from a table can be held. Assumes nothing.
use Rattle.std.proofs.Common.{◌≡◌, ℕ, zero, suc, ◌/◌, ◌%◌, ◌≤◌, true, ◌&&◌, eqb, ltb, leb, List, [], ◌∷◌, length, take, drop, Some, None, Ok, Option, refl, ap, subst, arith}
use Rattle.std.proofs.lemmas.Bool.{leb-true, and_from}
use Rattle.field.specs.Fields.{Arithmetic}
use Rattle.order.specs.Monomials.{small}
use Rattle.order.specs.Orders.{Compare, OrderLaws}
use Rattle.ideal.specs.Polynomials.{Term}
use Rattle.ideal.specs.Rings.{Raw}
use Rattle.polynomial.specs.Limits.{all_small}
use Rattle.polynomial.specs.Results.{◌>>=◌, ◌>>◌, check}
use Rattle.polynomial.specs.Tables.{falls, term, terms, read}
use Rattle.polynomial.specs.declared.flaw.Flaw.TheVariants.{Length, Terms, Coefficient, Exponent, Order}
use Rattle.polynomial.proofs.Outcomes.{checked, bound}
use Rattle.polynomial.proofs.Polynomials.{read_good}
use Rattle.division.specs.Bounds.{Held}
use Rattle.division.proofs.Bounded.{ok_injective, err_ok}

module _ (k : Arithmetic) (n : ℕ) (cmp : Compare) where
  term-small : (i : ℕ) (last : Option (List ℕ)) (xs : List ℕ) (t : Term ℕ (List ℕ)) → term k cmp i last xs ≡ Ok t → small t.1 ≡ true
  term-small i last [] t e = err_ok e
  term-small i last (c ∷ m) t e =
      let (_, e₁) = checked (ltb 0 c && ltb c k.size) (Coefficient i) (check (small m) (Exponent i) >> (check (falls cmp last m) (Order i) >> Ok (c, m))) t e in
      let (s, e₂) = checked (small m) (Exponent i) (check (falls cmp last m) (Order i) >> Ok (c, m)) t e₁ in
      let (_, e₃) = checked (falls cmp last m) (Order i) (Ok (c, m)) t e₂ in
      subst (λ (t : Term ℕ (List ℕ)). small t.1 ≡ true) (ok_injective e₃) s

  terms-small : (c i : ℕ) (last : Option (List ℕ)) (xs : List ℕ) (p : Raw) → terms k n cmp c i last xs ≡ Ok p → (all_small p ≡ true) × (length p ≡ c)
  terms-small zero i last xs p e = subst (λ (p : Raw). (all_small p ≡ true) × (length p ≡ 0)) (ok_injective e) (refl, refl)
  terms-small (suc c) i last xs p e =
      let (t, d, e₁) = bound (term k cmp i last (take (suc n) xs)) (λ t. terms k n cmp c (suc i) (Some t.1) (drop (suc n) xs) >>= (λ q. Ok (t ∷ q))) p e in
      let (q, d₁, e₂) = bound (terms k n cmp c (suc i) (Some t.1) (drop (suc n) xs)) (λ q. Ok (t ∷ q)) p e₁ in
      let (s, l) = terms-small c (suc i) (Some t.1) (drop (suc n) xs) q d₁ in
      subst (λ (p : Raw). (all_small p ≡ true) × (length p ≡ suc c)) (ok_injective e₂)
      (and_from (small t.1) (all_small q) (term-small i last (take (suc n) xs) t d) s, ap suc l)

  pub read_held : OrderLaws n cmp → (most : ℕ) (xs : List ℕ) (p : Raw) → read k n cmp most xs ≡ Ok p → Held k n cmp p × (length p ≤ most)
  read_held O most xs p e =
      let (_, e₁) = checked (eqb (length xs % suc n) 0) Length (check (leb (length xs / suc n) most) Terms >> terms k n cmp (length xs / suc n) 0 None xs) p e in
      let (few, e₂) = checked (leb (length xs / suc n) most) Terms (terms k n cmp (length xs / suc n) 0 None xs) p e₁ in
      let (s, l) = terms-small (length xs / suc n) 0 None xs p e₂ in
      let at_most = leb-true (length xs / suc n) most few in
      ((read_good k n cmp O most xs p e, s), omega arith)
