-- What lists of terms stand for, a term at a time. Assumes nothing.
use Rattle.std.proofs.Common.{◌≡◌, ℕ, suc, ◌+◌, ◌<◌, List, [], ◌∷◌, ◌++◌, length, get_or, drop, sym, refl, ap, ◌∙◌}
use Rattle.std.proofs.lemmas.List.{drop_more}
use Rattle.polynomial.specs.Views.{term_of, view}
use Rattle.polynomial.specs.declared.term.Term.{Term}

pub view-length : (ts : List Term) → length (view ts) ≡ length ts
view-length [] = refl
view-length (t ∷ ts) = ap suc (view-length ts)

pub view-append : (ss ts : List Term) → view (ss ++ ts) ≡ view ss ++ view ts
view-append [] ts = refl
view-append (s ∷ ss) ts = ap (λ r. term_of s ∷ r) (view-append ss ts)

-- what is left from place i on begins with the term there
pub view_at : (i : ℕ) (ts : List Term) (x : Term) → i < length ts → x ≡ get_or ts i x → view (drop i ts) ≡ term_of x ∷ view (drop (i + 1) ts)
view_at i ts x h e = ap view (drop_more ts i x h ∙ ap (λ y. y ∷ drop (i + 1) ts) (sym e))
