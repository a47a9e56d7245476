-- lex is a monomial order, for every number of variables. Assumes nothing.
use Rattle.std.specs.Prelude.{◌≡◌, ℕ, zero, suc, ◌+◌, ◌<◌, ◌≢◌, ◌⊎◌, List, [], ◌∷◌, length, refl}
use Rattle.std.specs.declared.cmp.Ordering.TheVariants.{Less, Equal, Greater}
use Rattle.std.specs.declared.cmp.Ordering.{Ordering}
use Rattle.std.proofs.Common.{sym, ap, ◌∙◌, inl, inr, arith}
use mathlib.Core.WellFounded.InvImage
use mathlib.Core.WellFounded.Subrelation
use mathlib.Core.WellFounded.Prod
use mathlib.Core.WellFounded.{Acc}
use lib.WfN.{lt-wf_rel}
use Rattle.std.specs.Cmp.{nat_cmp_total}
use Rattle.std.specs.Cmp.Lexicographic.{slice_cmp as std-lex, lists_total}
use Rattle.std.specs.Ordering.{ordering_then, ordering_reverse, nat_cmp}
use Rattle.order.specs.Monomials.{Monomial, unit, multiply}
use Rattle.order.specs.Orders.{OrderLaws}
use Rattle.order.specs.Listed.{lex}
use Rattle.order.specs.MonomialsLemmas.{cons}
use Rattle.order.specs.Verdicts.{rank_says, rank_balanced, then_less, then_equal, reversed_equal}

-- std's comparison of slices, at numbers
pub lex_std : (a b : List ℕ) → lex a b ≡ std-lex nat_cmp a b
lex_std [] [] = refl
lex_std [] (y ∷ b) = refl
lex_std (x ∷ a) [] = refl
lex_std (x ∷ a) (y ∷ b) = ap (ordering_then (nat_cmp x y)) (lex_std a b)

pub lex_flip : (a b : List ℕ) → lex a b ≡ ordering_reverse (lex b a)
lex_flip a b = lex_std a b ∙ (lists_total nat_cmp_total).antisymm a b ∙ ap ordering_reverse (sym (lex_std b a))

trans : (a b c : List ℕ) → lex a b ≡ Less → lex b c ≡ Less → lex a c ≡ Less
trans a b c h k = lex_std a c ∙ (lists_total nat_cmp_total).trans a b c (sym (lex_std a b) ∙ h) (sym (lex_std b c) ∙ k)

same : (a b : List ℕ) → lex a b ≡ Equal → a ≡ b
same [] [] h = refl
same [] (y ∷ b) h = cc
same (x ∷ a) [] h = cc
same (x ∷ a) (y ∷ b) h = let (p, q) = then_equal (nat_cmp x y) (lex a b) h in cons (rank_says x y Equal p) (same a b q)

translate : (m a b : List ℕ) → length m ≡ length a → length a ≡ length b → lex (multiply m a) (multiply m b) ≡ lex a b
translate [] [] [] h k = refl
translate [] [] (y ∷ b) h k = absurd (omega arith)
translate [] (x ∷ a) b h k = absurd (omega arith)
translate (w ∷ m) [] b h k = absurd (omega arith)
translate (w ∷ m) (x ∷ a) [] h k = absurd (omega arith)
translate (w ∷ m) (x ∷ a) (y ∷ b) h k =
    let head : nat_cmp (w + x) (w + y) ≡ nat_cmp x y = rank_balanced (w + x) (w + y) x y (omega arith) in
    let tail = translate m a b (omega arith) (omega arith) in
    λ i. ordering_then (head i) (tail i)

unit_least : (n : ℕ) (a : List ℕ) → length a ≡ n → a ≢ unit n → lex (unit n) a ≡ Less
unit_least zero [] h ne = absurd (ne refl)
unit_least zero (x ∷ a) h ne = absurd (omega arith)
unit_least (suc n) [] h ne = absurd (omega arith)
unit_least (suc n) (x ∷ a) h ne = at (nat_cmp 0 x) refl (unit_least n a (omega arith))
  where
    at : (o : Ordering) → nat_cmp 0 x ≡ o → (a ≢ unit n → lex (unit n) a ≡ Less) → ordering_then o (lex (unit n) a) ≡ Less
    at Less e later = refl
    at Equal e later = later (λ q. ne (cons (sym (rank_says 0 x Equal e)) q))
    at Greater e later = absurd (omega (arith, rank_says 0 x Greater e))

abbrev Lower : (n : ℕ) → Monomial n → Monomial n → Type 0
Lower n a b = lex a.0 b.0 ≡ Less

-- the first exponent and the others
split : (n : ℕ) → Monomial (suc n) → ℕ × Monomial n
split n ([], p) = absurd (omega arith)
split n (x ∷ a, p) = (x, (a, omega arith))

split_lower : (n : ℕ) (a b : Monomial (suc n)) → Lower (suc n) a b → Prod.Lex ◌<◌ (Lower n) (split n a) (split n b)
unfolding split
split_lower n ([], p) b h = absurd (omega arith)
split_lower n (x ∷ a, p) ([], q) h = absurd (omega arith)
split_lower n (x ∷ a, p) (y ∷ b, q) h = ∣ Prod.Lexᴰ-def.1 (at (then_less (nat_cmp x y) (lex a b) h)) ∣₁
  where
    at : (nat_cmp x y ≡ Less) ⊎ ((nat_cmp x y ≡ Equal) × (lex a b ≡ Less)) → (x < y) ⊎ ((x ≡ y) × (lex a b ≡ Less))
    at (inl e) = inl (rank_says x y Less e)
    at (inr (e, later)) = inr (rank_says x y Equal e, later)

none_lower : (b : List ℕ) → lex b [] ≢ Less
none_lower [] h = let z : ◌≡◌ {A = ℕ} 0 1 = cc in omega arith
none_lower (y ∷ b) h = let z : ◌≡◌ {A = ℕ} 0 1 = cc in omega arith

ends : (n : ℕ) (a : Monomial n) → Acc (Lower n) a
ends zero ([], p) = Acc.intro ([], p) (λ b h. absurd (none_lower b.0 h))
ends zero (x ∷ a, p) = absurd (omega arith)
ends (suc n) a =
    Subrelation.accessible (split_lower n)
    (InvImage.accessible (split n) (Prod.lex_accessible (lt-wf_rel.wf.apply (split n a).0) (ends n) (split n a).1))

pub lex-laws : (n : ℕ) → OrderLaws n lex
lex-laws n = record {
  self = λ a. reversed_equal (lex a.0 a.0) (lex_flip a.0 a.0);
  same = λ a b. same a.0 b.0;
  greater = λ a b h. lex_flip b.0 a.0 ∙ ap ordering_reverse h;
  less = λ a b h. lex_flip b.0 a.0 ∙ ap ordering_reverse h;
  trans = λ a b c. trans a.0 b.0 c.0;
  translate = λ m a b. translate m.0 a.0 b.0 (m.1 ∙ sym a.1) (a.1 ∙ sym b.1);
  unit_least = λ a. unit_least n a.0 a.1;
  ends = ends n;
}
