-- Claims about small numbers: each is shown by a test of all the numbers that it speaks of.
use Rattle.std.specs.Prelude.{◌≡◌, ℕ, zero, suc, ◌<◌, ◌≤◌, Bool, true, ◌&&◌, ◌||◌, ◌≢◌, List, [], ◌∷◌, ◌==◌, nat_le, nat_lt, refl}
use Rattle.std.proofs.Common.{ap, ◌∙◌, inl, inr}
use Rattle.std.proofs.lemmas.Bool.{eqb-true, leb-true, ltb-true, and_parts, or_cases}
use Rattle.std.proofs.lemmas.Bool.Decides.{Decides-below_and}
use Rattle.field.specs.Fields.{Arithmetic}
use Rattle.field.specs.Searches.{among}

pub record Claim : Type 1 where
  pub Says : Type 0
  pub test : Bool
  pub shown : test ≡ true → Says

abbrev pub equal : ℕ → ℕ → Claim
equal x y = record { Says = x ≡ y; test = (x == y); shown = eqb-true x y }

abbrev pub at_most : ℕ → ℕ → Claim
at_most x y = record { Says = x ≤ y; test = nat_le x y; shown = leb-true x y }

abbrev pub below : ℕ → ℕ → Claim
below x y = record { Says = x < y; test = nat_lt x y; shown = ltb-true x y }

abbrev pub unless_zero : ℕ → Claim → Claim
unless_zero a p = record {
  Says = a ≢ 0 → p.Says;
  test = a == 0 || p.test;
  shown = λ e n. elim (or_cases (a == 0) p.test e) [ inl z ↦ absurd (n (eqb-true a 0 z)) | inr h ↦ p.shown h ];
}

-- a claim of every number below q
abbrev passes : ℕ → (ℕ → Bool) → Bool
passes zero f = true
passes (suc q) f = f q && passes q f

pub passed : (q : ℕ) (f : ℕ → Bool) → passes q f ≡ true → (a : ℕ) → a < q → f a ≡ true
passed q f = (Decides-below_and f (λ a. f a ≡ true) (λ n. passes n f) (λ a. (λ e. e, λ e. e)) refl (λ n. refl) q).0

abbrev pub each : ℕ → (ℕ → Claim) → Claim
each q p = record {
  Says = (a : (c : ℕ) × (c < q)) → (p a.0).Says;
  test = passes q (λ a. (p a).test);
  shown = λ e a. (p a.0).shown (passed q (λ a. (p a).test) e a.0 a.1);
}

-- a claim of every code of an arithmetic, of every two and of every three
abbrev pub one : (Arithmetic → ℕ → Claim) → Arithmetic → Claim
one p k = each k.size (p k)

abbrev pub two : (Arithmetic → ℕ → ℕ → Claim) → Arithmetic → Claim
two p = one (λ k a. each k.size (p k a))

abbrev pub three : (Arithmetic → ℕ → ℕ → ℕ → Claim) → Arithmetic → Claim
three p = two (λ k a b. each k.size (p k a b))

-- a claim of the arithmetic of every listed size
abbrev all_pass : List ℕ → (ℕ → Bool) → Bool
all_pass [] f = true
all_pass (x ∷ xs) f = f x && all_pass xs f

all-passed : (xs : List ℕ) (f : ℕ → Bool) → all_pass xs f ≡ true → (q : ℕ) → among xs q ≡ true → f q ≡ true
all-passed [] f e q l = cc
all-passed (x ∷ xs) f e q l = elim (or_cases (q == x) (among xs q) l) [
  | inl z ↦ ap f (eqb-true q x z) ∙ (and_parts (f x) (all_pass xs f) e).0
  | inr z ↦ all-passed xs f (and_parts (f x) (all_pass xs f) e).1 q z
]

pub tested : (sizes : List ℕ) (field : ℕ → Arithmetic) (q : ℕ) → among sizes q ≡ true
    → (p : Arithmetic → Claim) → all_pass sizes (λ s. (p (field s)).test) ≡ true → (p (field q)).Says
tested sizes field q l p e = (p (field q)).shown (all-passed sizes (λ s. (p (field s)).test) e q l)
