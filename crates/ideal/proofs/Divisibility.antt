-- Quotients and least common multiples of monomials in equally many variables.
use Rattle.std.proofs.Common.{◌≡◌, ℕ, suc, ◌+◌, Bool, true, false, ◌&&◌, leb, List, [], ◌∷◌, length, Some, sym, refl, ap, ◌∙◌, arith, leb-false, leb-true}
use Rattle.order.specs.Monomials.{multiply}
use Rattle.order.specs.MonomialsLemmas.{cons}
use Rattle.ideal.specs.Divisibility.{divides, to_lcm, quotient}
use Rattle.ideal.proofs.Lists.{cond_some}

pub length-to_lcm : (a b : List ℕ) → length a ≡ length b → length (to_lcm a b) ≡ length a
length-to_lcm [] b h = refl
length-to_lcm (x ∷ a) [] h = sym h
length-to_lcm (x ∷ a) (y ∷ b) h = ap suc (length-to_lcm a b (omega arith))

-- both ways lead to one monomial, and no way to a common multiple is shorter
pub lcm_meets : (a b : List ℕ) → multiply (to_lcm a b) a ≡ multiply (to_lcm b a) b
lcm_meets [] [] = refl
lcm_meets [] (y ∷ b) = refl
lcm_meets (x ∷ a) [] = refl
lcm_meets (x ∷ a) (y ∷ b) = cons (omega arith) (lcm_meets a b)

pub lcm_least : (a b s t : List ℕ) → length b ≡ length a → length s ≡ length a → length t ≡ length a → multiply s a ≡ multiply t b
    → (s ≡ multiply (to_lcm (to_lcm a b) s) (to_lcm a b)) × (t ≡ multiply (to_lcm (to_lcm a b) s) (to_lcm b a))
lcm_least [] [] [] [] h i j e = (refl, refl)
lcm_least [] [] [] (w ∷ t) h i j e = absurd (omega arith)
lcm_least [] [] (z ∷ s) t h i j e = absurd (omega arith)
lcm_least [] (y ∷ b) s t h i j e = absurd (omega arith)
lcm_least (x ∷ a) [] s t h i j e = absurd (omega arith)
lcm_least (x ∷ a) (y ∷ b) [] t h i j e = absurd (omega arith)
lcm_least (x ∷ a) (y ∷ b) (z ∷ s) [] h i j e = absurd (omega arith)
lcm_least (x ∷ a) (y ∷ b) (z ∷ s) (w ∷ t) h i j e =
    let first : z + x ≡ w + y = cc in
    let rest : multiply s a ≡ multiply t b = cc in
    let (p, q) = lcm_least a b s t (omega arith) (omega arith) (omega arith) rest in
    (cons (omega arith) p, cons (omega arith) q)

-- a divides b exactly if b is a multiple of a, by one monomial
pub divides-multiple : (s a : List ℕ) → length s ≡ length a → divides a (multiply s a) ≡ true
divides-multiple [] [] h = refl
divides-multiple [] (y ∷ a) h = absurd (omega arith)
divides-multiple (x ∷ s) [] h = refl
divides-multiple (x ∷ s) (y ∷ a) h = at (leb y (x + y)) refl (divides-multiple s a (omega arith))
  where
    at : (b : Bool) → leb y (x + y) ≡ b → divides a (multiply s a) ≡ true → (b && divides a (multiply s a)) ≡ true
    at true e later = later
    at false e later = absurd (omega (arith, leb-false y (x + y) e))

pub quotient-multiple : (s a : List ℕ) → length s ≡ length a → to_lcm a (multiply s a) ≡ s
quotient-multiple [] [] h = refl
quotient-multiple [] (y ∷ a) h = absurd (omega arith)
quotient-multiple (x ∷ s) [] h = absurd (omega arith)
quotient-multiple (x ∷ s) (y ∷ a) h = cons (omega arith) (quotient-multiple s a (omega arith))

pub multiple-quotient : (a b : List ℕ) → length a ≡ length b → divides a b ≡ true → multiply (to_lcm a b) a ≡ b
multiple-quotient [] [] h e = refl
multiple-quotient [] (y ∷ b) h e = absurd (omega arith)
multiple-quotient (x ∷ a) [] h e = absurd (omega arith)
multiple-quotient (x ∷ a) (y ∷ b) h e = at (leb x y) refl e (multiple-quotient a b (omega arith))
  where
    at : (d : Bool) → leb x y ≡ d → (d && divides a b) ≡ true → (divides a b ≡ true → multiply (to_lcm a b) a ≡ b)
        → multiply (to_lcm (x ∷ a) (y ∷ b)) (x ∷ a) ≡ y ∷ b
    at true t e later = let le = leb-true x y t in cons (omega arith) (later e)
    at false t e later = let z : ◌≡◌ {A = ℕ} 0 1 = cc in absurd (omega arith)

-- what an answered quotient is
pub quotient_is : (b a s : List ℕ) → length a ≡ length b → quotient b a ≡ Some s → (multiply s a ≡ b) × (length s ≡ length a)
quotient_is b a s h e = let (d, z) = cond_some (divides a b) (to_lcm a b) s e in
    (ap (λ x. multiply x a) (sym z) ∙ multiple-quotient a b h d, ap length (sym z) ∙ length-to_lcm a b h)
