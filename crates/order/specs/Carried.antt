-- A comparison that is a monomial order at the images of an additive map that tells monomials apart is one too. Assumes nothing.
use Rattle.std.specs.Prelude.{◌≡◌, ℕ, List, length}
use Rattle.std.proofs.Common.{sym, ap, ap₂, ◌∙◌}
use mathlib.Core.WellFounded.InvImage
use mathlib.Core.WellFounded.Subrelation
use Rattle.order.specs.Monomials.{Monomial, unit, multiply}
use Rattle.order.specs.Orders.{Compare, OrderLaws}
use Rattle.order.specs.MonomialsLemmas.{times, one, multiply_unit, square_unit}

module _ {n p : ℕ} {cmp : Compare} (laws : OrderLaws p cmp) (f : List ℕ → List ℕ)
    (long : (a : Monomial n) → length (f a.0) ≡ p)
    (adds : (a b : Monomial n) → f (multiply a.0 b.0) ≡ multiply (f a.0) (f b.0))
    (apart : (a b : Monomial n) → f a.0 ≡ f b.0 → a.0 ≡ b.0)
    (cmp' : Compare) (agrees : (a b : Monomial n) → cmp' a.0 b.0 ≡ cmp (f a.0) (f b.0)) where
  abbrev image : Monomial n → Monomial p
  image a = (f a.0, long a)

  image-unit : f (unit n) ≡ unit p
  image-unit = square_unit p (f (unit n)) (long (one n)) (sym (adds (one n) (one n)) ∙ ap f (multiply_unit n (unit n) (one n).1))

  pub carried : OrderLaws n cmp'
  carried = record {
    self = λ a. agrees a a ∙ laws.self (image a);
    same = λ a b h. apart a b (laws.same (image a) (image b) (sym (agrees a b) ∙ h));
    greater = λ a b h. agrees b a ∙ laws.greater (image a) (image b) (sym (agrees a b) ∙ h);
    less = λ a b h. agrees b a ∙ laws.less (image a) (image b) (sym (agrees a b) ∙ h);
    trans = λ a b c h k. agrees a c ∙ laws.trans (image a) (image b) (image c) (sym (agrees a b) ∙ h) (sym (agrees b c) ∙ k);
    translate = λ m a b. agrees (times m a) (times m b) ∙ ap₂ cmp (adds m a) (adds m b) ∙ laws.translate (image m) (image a) (image b) ∙ sym (agrees a b);
    unit_least = λ a ne. agrees (one n) a ∙ ap (λ u. cmp u (f a.0)) image-unit ∙ laws.unit_least (image a) (λ e. ne (apart a (one n) (e ∙ sym image-unit)));
    ends = λ a. Subrelation.accessible (λ x y h. sym (agrees x y) ∙ h) (InvImage.accessible image (laws.ends (image a)));
  }
