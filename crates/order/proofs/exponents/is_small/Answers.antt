-- The call tests every exponent, as `small` does.
use Rattle.std.proofs.Common.{◌≡◌, ℕ, Bool, true, false, ◌&&◌, leb, List, [], ◌∷◌, refl, ◌∙◌, rules, tests}
use Rattle.std.proofs.lemmas.Iterator.{YieldsList-from_slice}
use Rattle.std.proofs.lemmas.Iterator.Consumers.{fold_from_yields_List}
use Rattle.std.specs.List.{fold}
use Rattle.order.specs.Monomials.{small}
use Rattle.order.proofs.exponents.is_small.Goals as goal

folded : (low : Bool) (m : List ℕ) → fold (λ b e. b && leb e 255) low m ≡ (low && small m)
folded false [] = refl
folded true [] = refl
folded false (e ∷ m) = folded false m
folded true (e ∷ m) = folded (leb e 255) m

pub returns : goal.returns
returns c =
    let m = c.args.monomial.now in
    fold_from_yields_List _ (λ b e. b && leb e 255) true _ c.fold.ensures.ran (YieldsList-from_slice m cc) (λ low x b q k. search (rules, tests))
    ∙ folded true m
