-- The fields of the second line and the third. Assumes nothing.
use Rattle.std.proofs.Common.{◌≡◌, ℕ, ◌+◌, ◌<◌, ◌≤◌, Bool, true, false, cond, List, [], ◌∷◌, Option, Some, None, Bor, length, get_or, drop, eqb, refl, ap, arith}
use Rattle.std.specs.Option.{is_some}
use Rattle.std.specs.List.{onto_first, list_all}
use Rattle.std.proofs.lemmas.List.{drop_more, drop_all}
use Rattle.text.specs.Grammar.{pieces}
use Rattle.text.specs.Heads.{is_name, values}
use Rattle.text.specs.Cuts.{others}

fields_more : (k s o xs : List ℕ) → values (k ∷ s ∷ o ∷ pieces 32 xs) ≡ None
fields_more k s o [] = refl
fields_more k s o (b ∷ bs) = either (eqb b 32) (pieces 32 bs)
  where
    either : (t : Bool) (ps : List (List ℕ)) → values (k ∷ s ∷ o ∷ cond t ([] ∷ ps) (onto_first b ps)) ≡ None
    either true ps = refl
    either false [] = refl
    either false (q ∷ qs) = refl

-- a fourth field is one too many
pub fourth_field : (k s o : List ℕ) (r : Option (Bor (List ℕ))) → true ≡ is_some r → values (k ∷ s ∷ o ∷ others 32 r) ≡ None
fourth_field k s o None e = grind arith
fourth_field k s o (Some rest) e = fields_more k s o rest.now

-- n names, and the ones that follow
abbrev pub counted : ℕ → List (List ℕ) → Option ℕ
counted n ns = cond (list_all is_name ns) (Some (n + length ns)) None

pub counted_more : (fields : List (List ℕ)) (i : ℕ) (field : List ℕ) → i < length fields → field ≡ get_or fields i field → true ≡ is_name field → counted i (drop i fields) ≡ counted (i + 1) (drop (i + 1) fields)
counted_more fields i field lt at is =
    rw (drop_more fields i field lt, ← at, ← is) (ap (λ k. cond (list_all is_name (drop (i + 1) fields)) (Some k) None) (omega arith))

pub counted_bad : (fields : List (List ℕ)) (i : ℕ) (field : List ℕ) → i < length fields → field ≡ get_or fields i field → false ≡ is_name field → counted i (drop i fields) ≡ None
counted_bad fields i field lt at is = rw (drop_more fields i field lt, ← at, ← is) refl

pub counted_end : (fields : List (List ℕ)) (i : ℕ) → length fields ≤ i → counted i (drop i fields) ≡ Some i
counted_end fields i out = rw (drop_all i fields out) (ap Some (omega arith))
