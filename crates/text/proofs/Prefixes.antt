-- Reading numbers one by one. Assumes nothing.
use Rattle.std.proofs.Common.{◌≡◌, ℕ, ◌+◌, ◌<◌, ◌≤◌, cond, List, [], ◌∷◌, ◌++◌, Option, Some, None, length, get_or, drop, sym, refl, ap, append_assoc, append-nil, arith, length-append}
use Rattle.std.proofs.lemmas.List.{drop_more, drop_all, length-take}
use Rattle.std.proofs.lemmas.Bool.{le-leb}
use Rattle.std.proofs.lemmas.Grind.{common_steps}
use Rattle.text.specs.Grammar.{number, number_list, and_then}
use Rattle.text.specs.Heard.{few, listed}
use Rattle.text.specs.declared.numbers.Numbers.{Numbers}

-- numbers before others, if these are numbers
abbrev pub prefixed : List ℕ → Option (List ℕ) → Option (List ℕ)
prefixed xs None = None
prefixed xs (Some ys) = Some (xs ++ ys)

prefixed_and : (xs : List ℕ) (v : ℕ) (o : Option (List ℕ)) → prefixed xs (and_then (Some v) o) ≡ prefixed (xs ++ v ∷ []) o
prefixed_and xs v None = refl
prefixed_and xs v (Some ys) = ap Some (sym (append_assoc xs (v ∷ []) ys))

-- one field more is a number
pub prefixed_more : (xs : List ℕ) (fields : List (List ℕ)) (i : ℕ) (field : List ℕ) (v : ℕ) → i < length fields → field ≡ get_or fields i field → Some v ≡ number field → prefixed xs (number_list (drop i fields)) ≡ prefixed (xs ++ v ∷ []) (number_list (drop (i + 1) fields))
prefixed_more xs fields i field v lt at is = rw (drop_more fields i field lt, ← at, ← is) (prefixed_and xs v (number_list (drop (i + 1) fields)))

-- one field more is no number
pub prefixed_bad : (xs : List ℕ) (fields : List (List ℕ)) (i : ℕ) (field : List ℕ) → i < length fields → field ≡ get_or fields i field → None ≡ number field → prefixed xs (number_list (drop i fields)) ≡ None
prefixed_bad xs fields i field lt at is = rw (drop_more fields i field lt, ← at, ← is) refl

pub prefixed_end : (xs : List ℕ) (fields : List (List ℕ)) (i : ℕ) → length fields ≤ i → prefixed xs (number_list (drop i fields)) ≡ Some xs
prefixed_end xs fields i out = rw (drop_all i fields out) (ap Some (append-nil xs))

-- too many numbers stay too many
pub few_stops : (xs : List ℕ) (o : Option (List ℕ)) → None ≡ few (Some xs) → few (prefixed xs o) ≡ None
few_stops xs None e = refl
few_stops xs (Some ys) e = let l = length-append xs ys in grind (arith, common_steps)

pub few_some : (xs ys : List ℕ) → Some ys ≡ few (Some xs) → ys ≡ xs
few_some xs ys e = grind (arith, common_steps)

pub few_listed : (ns : Numbers) → Some (listed ns) ≡ few (Some (listed ns))
few_listed ns = let a = ns.few in let b = ns.full in sym (ap (λ b. cond b (Some (listed ns)) None) (le-leb (length (listed ns)) 25 (simp length-take (omega arith))))
