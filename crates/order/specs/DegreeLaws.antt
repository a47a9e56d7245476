-- graded and reverse are monomial orders, for every number of variables. Assumes nothing.
use Rattle.std.specs.Prelude.{◌≡◌, ℕ, suc, ◌+◌, List, [], ◌∷◌, ◌++◌, reverse as backward, length, refl}
use Rattle.std.specs.declared.cmp.Ordering.TheVariants.{Less, Equal, Greater}
use Rattle.std.specs.declared.cmp.Ordering.{Ordering}
use Rattle.std.proofs.Common.{sym, ap, ap₂, ◌∙◌, arith}
use mathlib.Core.List.{reverse-cons, reverse-reverse}
use Rattle.std.proofs.lemmas.List.{length-reverse}
use Rattle.std.specs.Ordering.{ordering_then, nat_cmp}
use Rattle.order.specs.Monomials.{Monomial, multiply}
use Rattle.order.specs.Orders.{OrderLaws}
use Rattle.order.specs.Listed.{degree, lex, by_degree, graded, reverse}
use Rattle.order.specs.MonomialsLemmas.{cons}
use Rattle.order.specs.Verdicts.{rank_says, rank_balanced}
use Rattle.order.specs.LexLaws.{lex-laws, lex_flip}
use Rattle.order.specs.Carried.{carried}

-- two monomials in equally many variables
long : {n : ℕ} (a b : Monomial n) → length a.0 ≡ length b.0
long a b = a.1 ∙ sym b.1

degree-multiply : (a b : List ℕ) → length a ≡ length b → degree (multiply a b) ≡ degree a + degree b
degree-multiply [] [] h = refl
degree-multiply [] (y ∷ b) h = absurd (omega arith)
degree-multiply (x ∷ a) [] h = absurd (omega arith)
degree-multiply (x ∷ a) (y ∷ b) h = let later = degree-multiply a b (omega arith) in omega arith

-- graded: lex with the degree put first
pub graded-laws : (n : ℕ) → OrderLaws n graded
graded-laws n =
    carried (lex-laws (suc n)) (λ a. degree a ∷ a)
    (λ a. ap suc a.1)
    (λ a b. cons (degree-multiply a.0 b.0 (long a b)) refl)
    (λ a b e. cc)
    graded (λ a b. refl)

-- reverse: lex on the sums of the exponents from the first to the last, to the last but one, and so on
abbrev sums : List ℕ → List ℕ
sums [] = []
sums (x ∷ a) = (x + degree a) ∷ sums a

length-sums : (a : List ℕ) → length (sums a) ≡ length a
length-sums [] = refl
length-sums (x ∷ a) = ap suc (length-sums a)

sums-multiply : (a b : List ℕ) → length a ≡ length b → sums (multiply a b) ≡ multiply (sums a) (sums b)
sums-multiply [] b h = refl
sums-multiply (x ∷ a) [] h = refl
sums-multiply (x ∷ a) (y ∷ b) h = let d = degree-multiply a b (omega arith) in cons (omega arith) (sums-multiply a b (omega arith))

sums_apart : (a b : List ℕ) → sums a ≡ sums b → a ≡ b
sums_apart [] [] h = refl
sums_apart [] (y ∷ b) h = cc
sums_apart (x ∷ a) [] h = cc
sums_apart (x ∷ a) (y ∷ b) h =
    let tail : sums a ≡ sums b = cc in
    let same = sums_apart a b tail in
    let d : degree a ≡ degree b = ap degree same in
    let total : x + degree a ≡ y + degree b = cc in
    cons (omega arith) same

-- where two sums are equal, the greater first exponent leaves the smaller sum of the others
tie_sums : (a b : List ℕ) → length a ≡ length b → ordering_then (by_degree a b) (lex b a) ≡ lex (sums a) (sums b)
tie_sums [] [] h = refl
tie_sums [] (y ∷ b) h = absurd (omega arith)
tie_sums (x ∷ a) [] h = absurd (omega arith)
tie_sums (x ∷ a) (y ∷ b) h = at (by_degree (x ∷ a) (y ∷ b)) refl (tie_sums a b (omega arith))
  where
    at : (o : Ordering) → by_degree (x ∷ a) (y ∷ b) ≡ o → ordering_then (by_degree a b) (lex b a) ≡ lex (sums a) (sums b)
        → ordering_then o (ordering_then (nat_cmp y x) (lex b a)) ≡ ordering_then o (lex (sums a) (sums b))
    at Less e later = refl
    at Equal e later =
        let total = rank_says (x + degree a) (y + degree b) Equal e in
        ap (λ o. ordering_then o (lex b a)) (rank_balanced y x (degree a) (degree b) (omega arith)) ∙ later
    at Greater e later = refl

degree_push : (a : List ℕ) (x : ℕ) → degree (a ++ (x ∷ [])) ≡ x + degree a
degree_push [] x = refl
degree_push (y ∷ a) x = let e = degree_push a x in omega arith

degree_backward : (a : List ℕ) → degree (backward a) ≡ degree a
degree_backward [] = refl
degree_backward (x ∷ a) = ap degree (reverse-cons x a) ∙ degree_push (backward a) x ∙ ap (λ d. x + d) (degree_backward a)

multiply_push : (a b : List ℕ) (x y : ℕ) → length a ≡ length b → multiply (a ++ (x ∷ [])) (b ++ (y ∷ [])) ≡ multiply a b ++ ((x + y) ∷ [])
multiply_push [] [] x y h = refl
multiply_push [] (v ∷ b) x y h = absurd (omega arith)
multiply_push (u ∷ a) [] x y h = absurd (omega arith)
multiply_push (u ∷ a) (v ∷ b) x y h = cons refl (multiply_push a b x y (omega arith))

long_backward : (a b : List ℕ) → length a ≡ length b → length (backward a) ≡ length (backward b)
long_backward a b h = length-reverse a ∙ h ∙ sym (length-reverse b)

backward_multiply : (a b : List ℕ) → length a ≡ length b → backward (multiply a b) ≡ multiply (backward a) (backward b)
backward_multiply [] [] h = refl
backward_multiply [] (y ∷ b) h = absurd (omega arith)
backward_multiply (x ∷ a) [] h = absurd (omega arith)
backward_multiply (x ∷ a) (y ∷ b) h =
    let l : length a ≡ length b = omega arith in
    reverse-cons (x + y) (multiply a b) ∙ ap (λ r. r ++ ((x + y) ∷ [])) (backward_multiply a b l)
    ∙ sym (multiply_push (backward a) (backward b) x y (long_backward a b l)) ∙ sym (ap₂ multiply (reverse-cons x a) (reverse-cons y b))

backward_apart : (a b : List ℕ) → backward a ≡ backward b → a ≡ b
backward_apart a b e = sym (reverse-reverse a) ∙ ap backward e ∙ reverse-reverse b

reverse-sums : (a b : List ℕ) → length a ≡ length b → reverse a b ≡ lex (sums (backward a)) (sums (backward b))
reverse-sums a b h =
    let d = sym (degree_backward a) in
    let e = sym (degree_backward b) in
    let turned = sym (lex_flip (backward b) (backward a)) in
    (λ i. ordering_then (nat_cmp (d i) (e i)) (turned i)) ∙ tie_sums (backward a) (backward b) (long_backward a b h)

pub reverse-laws : (n : ℕ) → OrderLaws n reverse
reverse-laws n =
    carried (lex-laws n) (λ a. sums (backward a))
    (λ a. length-sums (backward a.0) ∙ length-reverse a.0 ∙ a.1)
    (λ a b. ap sums (backward_multiply a.0 b.0 (long a b)) ∙ sums-multiply (backward a.0) (backward b.0) (long_backward a.0 b.0 (long a b)))
    (λ a b e. backward_apart a.0 b.0 (sums_apart (backward a.0) (backward b.0) e))
    reverse (λ a b. reverse-sums a.0 b.0 (long a b))
