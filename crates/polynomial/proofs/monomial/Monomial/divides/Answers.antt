-- As long a list, and each pair in order.
use Rattle.std.proofs.Common.{◌≡◌, ℕ, ◌<◌, ◌≤◌, false, ◌&&◌, leb, List, [], ◌∷◌, length, sym, refl, ap, ◌∙◌, arith, rules, tests}
use Rattle.std.proofs.lemmas.Iterator.{YieldsList-from_slice, YieldsList-from_zip}
use Rattle.std.proofs.lemmas.Iterator.Search.{all_from_yields_List}
use Rattle.std.proofs.lemmas.Bool.{lt-leb, and_right}
use Rattle.std.specs.List.{zip, list_all}
use Rattle.ideal.specs.Divisibility.{divides}
use Rattle.polynomial.specs.Views.{exponents_of}
use Rattle.polynomial.proofs.Comparing.{exponents_length}
use Rattle.polynomial.proofs.monomial.Monomial.divides.Goals as goal

pairs_divide : (xs ys : List ℕ) → length xs ≤ length ys → list_all (λ (p : ℕ × ℕ). leb p.0 p.1) (zip xs ys) ≡ divides xs ys
pairs_divide [] ys h = refl
pairs_divide (x ∷ xs) [] h = absurd (omega arith)
pairs_divide (x ∷ xs) (y ∷ ys) h = ap (λ b. leb x y && b) (pairs_divide xs ys (omega arith))

longer_fails : (xs ys : List ℕ) → length ys < length xs → divides xs ys ≡ false
longer_fails [] ys h = absurd (omega arith)
longer_fails (x ∷ xs) [] h = refl
longer_fails (x ∷ xs) (y ∷ ys) h = and_right (leb x y) (divides xs ys) (longer_fails xs ys (omega arith))

pub returns-then-self-other : goal.returns-then-self-other
returns-then-self-other c =
    let a = exponents_of c.args.self.now in
    let b = exponents_of c.args.other.now in
    let la = exponents_length c.args.self.now in
    let lb = exponents_length c.args.other.now in
    all_from_yields_List (λ (p : ℕ × ℕ). leb p.0 p.1) c.all.new.self _ c.all.result c.all.ensures.ran (YieldsList-from_zip (YieldsList-from_slice a cc) (YieldsList-from_slice b cc)) (λ x b q k. search (rules, tests))
    ∙ pairs_divide a b (omega arith)

pub returns-else-self-other : goal.returns-else-self-other
returns-else-self-other c =
    let la = exponents_length c.args.self.now in
    let lb = exponents_length c.args.other.now in
    lt-leb c.args.self.now.variables c.args.other.now.variables (omega arith) ∙ sym (longer_fails (exponents_of c.args.self.now) (exponents_of c.args.other.now) (omega arith))
