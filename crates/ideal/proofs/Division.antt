-- Division as a relation: that it is what the turns compute, and that its remainder is one.
use Rattle.std.proofs.Common.{◌≡◌, ℕ, zero, suc, ◌+◌, ◌≤◌, List, [], ◌∷◌, Some, None, Option, sym, refl, ap, ◌∙◌, subst, inl, inr, arith}
use Rattle.ideal.specs.Lists.{Among}
use Rattle.ideal.specs.Polynomials.{Operations, Term, Poly, Element, leading_monomial}
use Rattle.ideal.specs.Dividing.{or_later, first_divisor, reduced, after, turn, divide, Leaves}
use Rattle.ideal.proofs.Lists.{some_injective, none_some}

module _ {K M : Type 0} (o : Operations K M) where
  pub data Division (G : List (Element K M)) : Poly K M → Poly K M → Type 0 where
    ended : Division G [] []
    kept : {t : Term K M} {f r : Poly K M} → first_divisor o G t.1 ≡ None → Division G f r → Division G (t ∷ f) (t ∷ r)
    used : {t : Term K M} {f r : Poly K M} (g : Element K M) (s : M)
        → first_divisor o G t.1 ≡ Some (g, s) → Division G (reduced o t f g s) r → Division G (t ∷ f) r

  -- what a search finds
  abbrev pub Found : List (Element K M) → M → Option (Element K M × M) → Type 0
  Found G m None = (g : Element K M) → Among g G → o.quotient m (leading_monomial g) ≡ None
  Found G m (Some (g, s)) = Among g G × (o.quotient m (leading_monomial g) ≡ Some s)

module _ {K M : Type 0} (o : Operations K M) where
  pub found : (G : List (Element K M)) (m : M) → Found o G m (first_divisor o G m)
  found [] m = λ g a. absurd a
  found (g ∷ G) m = at (o.quotient m (leading_monomial g)) refl (first_divisor o G m) (found G m)
    where
      at : (x : Option M) → o.quotient m (leading_monomial g) ≡ x
          → (y : Option (Element K M × M)) → Found o G m y → Found o (g ∷ G) m (or_later o x g y)
      at None h None later = λ k a. elim a [ inl e ↦ ap (λ z. o.quotient m (leading_monomial z)) e ∙ h | inr b ↦ later k b ]
      at None h (Some (k, s)) later = (inr later.0, later.1)
      at (Some s) h y later = (inl refl, h)

  pub found_some : (G : List (Element K M)) (m : M) (g : Element K M) (s : M) → first_divisor o G m ≡ Some (g, s)
      → Among g G × (o.quotient m (leading_monomial g) ≡ Some s)
  found_some G m g s h = subst (Found o G m) h (found G m)

  pub found_none : (G : List (Element K M)) (m : M) → first_divisor o G m ≡ None
      → (g : Element K M) → Among g G → o.quotient m (leading_monomial g) ≡ None
  found_none G m h = subst (Found o G m) h (found G m)

module _ {K M : Type 0} (o : Operations K M) (G : List (Element K M)) where
  -- a term that was kept stands before a remainder
  after_some : (t : Term K M) (x : Option (Poly K M)) {r : Poly K M} → after o t x ≡ Some r → (q : Poly K M) × (x ≡ Some q) × (t ∷ q ≡ r)
  after_some t None e = none_some e
  after_some t (Some q) e = (q, refl, some_injective e)

  pub computed : (i : ℕ) (f r : Poly K M) → divide o i G f ≡ Some r → Division o G f r
  computed zero f r e = none_some e
  computed (suc i) [] r e = subst (Division o G []) (some_injective e) ended
  computed (suc i) (t ∷ f) r e = at (computed i) (first_divisor o G t.1) refl e
    where
      at : ((f r : Poly K M) → divide o i G f ≡ Some r → Division o G f r) → (x : Option (Element K M × M))
          → first_divisor o G t.1 ≡ x → turn o x (divide o i G) t f ≡ Some r → Division o G (t ∷ f) r
      at ih None h e = let (q, a, b) = after_some t (divide o i G f) e in subst (Division o G (t ∷ f)) b (kept h (ih f q a))
      at ih (Some (g, s)) h e = used g s h (ih (reduced o t f g s) r e)

  pub leaves : {f r : Poly K M} → Division o G f r → Leaves o G f r
  leaves ended = (1, refl)
  leaves (kept {t = t} {f = f} h d) = let (i, e) = leaves d in (suc i, ap (λ x. turn o x (divide o i G) t f) h ∙ ap (after o t) e)
  leaves (used {t = t} {f = f} g s h d) = let (i, e) = leaves d in (suc i, ap (λ x. turn o x (divide o i G) t f) h ∙ e)

  -- more turns change nothing
  pub stays : (f r : Poly K M) (i j : ℕ) → i ≤ j → divide o i G f ≡ Some r → divide o j G f ≡ Some r
  stays f r zero j l e = none_some e
  stays f r (suc i) zero l e = absurd (omega arith)
  stays [] r (suc i) (suc j) l e = e
  stays (t ∷ f) r (suc i) (suc j) l e = at (λ f r. stays f r i j (omega arith)) (first_divisor o G t.1) e
    where
      at : ((f r : Poly K M) → divide o i G f ≡ Some r → divide o j G f ≡ Some r) → (x : Option (Element K M × M))
          → turn o x (divide o i G) t f ≡ Some r → turn o x (divide o j G) t f ≡ Some r
      at ih None e = let (q, a, b) = after_some t (divide o i G f) e in ap (after o t) (ih f q a) ∙ ap Some b
      at ih (Some (g, s)) e = ih (reduced o t f g s) r e

  pub one_remainder_lem : (f q r : Poly K M) → Leaves o G f q → Leaves o G f r → q ≡ r
  one_remainder_lem f q r (i, a) (j, b) = some_injective (sym (stays f q i (i + j) (omega arith) a) ∙ stays f r j (i + j) (omega arith) b)
