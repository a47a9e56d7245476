-- Polynomials written as tables, a term at a time. Assumes nothing.
use Rattle.std.proofs.Common.{◌≡◌, ℕ, suc, ◌+◌, ◌-◌, ◌<◌, ◌≤◌, List, [], ◌∷◌, ◌++◌, length, get_or, take, drop, set, sym, refl, ap, ◌∙◌, ap₂, append_assoc, append-nil, arith}
use borrow.Rule.Slice.PartMut.{put_mid}
use lib.Seq.{take-append_seam, drop-append_seam}
use Rattle.std.proofs.lemmas.List.{take_more, take_all, drop_all, drop-drop, length-drop}
use Rattle.ideal.specs.Rings.{Raw}
use Rattle.polynomial.specs.Views.{term_of, view}
use Rattle.polynomial.specs.declared.term.Term.{Term}
use Rattle.polynomial.proofs.Viewing.{view-append, view_at}
use Rattle.run.specs.Calls.{flat}

-- a number and then others at the start of a table
pub put_first : (xs ys zs : List ℕ) (v k n : ℕ) → 0 < length xs → ys ≡ zs → n ≡ suc k → put_mid 1 k (set xs 0 v) ys ≡ (v ∷ zs) ++ drop n xs
put_first [] ys zs v k n h e c = absurd (omega arith)
put_first (x ∷ xs) ys zs v k n h e c = ap (λ y. v ∷ (y ++ drop k xs)) e ∙ ap (λ m. (v ∷ zs) ++ drop m (x ∷ xs)) (sym c)

flat_append : (p q : Raw) → flat (p ++ q) ≡ flat p ++ flat q
flat_append [] q = refl
flat_append (t ∷ p) q = ap (λ x. (t.0 ∷ t.1) ++ x) (flat_append p q) ∙ sym (append_assoc (t.0 ∷ t.1) (flat p) (flat q))

-- the term x at place i
module _ (ts : List Term) (i : ℕ) (x : Term) (within : i < length ts) (is : x ≡ get_or ts i x) where
  abbrev one : List ℕ
  one = (term_of x).0 ∷ (term_of x).1

  pub flat_taken : flat (view (take (i + 1) ts)) ≡ flat (view (take i ts)) ++ one
  flat_taken =
      ap (λ us. flat (view us)) (take_more ts i x within ∙ ap (λ y. take i ts ++ (y ∷ [])) (sym is))
      ∙ ap flat (view-append (take i ts) (x ∷ [])) ∙ flat_append (view (take i ts)) (view (x ∷ []))
      ∙ ap (λ z. flat (view (take i ts)) ++ z) (append-nil one)

  pub flat_dropped : flat (view (drop i ts)) ≡ one ++ flat (view (drop (i + 1) ts))
  flat_dropped = ap flat (view_at i ts x within is)

-- a table of which the front is written, up to `start`
module _ (before table xs : List ℕ) (start : ℕ) (at_start : start ≡ length before) (is : xs ≡ before ++ drop start table) where
  front : take start xs ≡ before
  front = ap₂ take at_start is ∙ take-append_seam before (drop start table)

  back : drop start xs ≡ drop start table
  back = ap₂ drop at_start is ∙ drop-append_seam before (drop start table)

  all : take (length xs - start) (drop start xs) ≡ drop start xs
  all = let l = length-drop start xs in take_all (length xs - start) (drop start xs) (omega arith)

  none : drop (length xs - start) (drop start xs) ≡ []
  none = let l = length-drop start xs in drop_all (length xs - start) (drop start xs) (omega arith)

  pub room : start + 0 ≤ length table → length (take (length xs - start) (drop start xs)) ≡ length table - start
  room h = ap length (all ∙ back) ∙ length-drop start table

  pub wrote : (more after : List ℕ) (k : ℕ) → k ≡ length more → after ≡ more ++ drop k (take (length xs - start) (drop start xs))
      → put_mid start (length xs - start) xs after ≡ (before ++ more) ++ drop (start + k) table
  wrote more after k l e =
      ap₂ (λ f n. f ++ (after ++ n)) front none
      ∙ ap (λ z. before ++ z) (append-nil after ∙ e ∙ ap (λ z. more ++ drop k z) (all ∙ back) ∙ ap (λ z. more ++ z) (drop-drop k start table))
      ∙ sym (append_assoc before more (drop (start + k) table))
