-- What a verdict on two numbers says, and when two such verdicts agree. Assumes nothing.
use Rattle.std.specs.Prelude.{◌≡◌, ℕ, ◌+◌, ◌<◌, ◌⊎◌, refl}
use Rattle.std.specs.declared.cmp.Ordering.TheVariants.{Less, Equal, Greater}
use Rattle.std.specs.declared.cmp.Ordering.{Ordering}
use Rattle.std.proofs.Common.{subst, inl, inr, arith}
use Rattle.std.specs.Cmp.{ranks, nat_cmp_is}
use Rattle.std.specs.Ordering.{MatchOrdering, ordering_then, ordering_reverse, nat_cmp}

pub rank_says : (x y : ℕ) (o : Ordering) → nat_cmp x y ≡ o → MatchOrdering o (x < y) (x ≡ y) (y < x)
rank_says x y o e = subst (λ k. MatchOrdering k (x < y) (x ≡ y) (y < x)) e (ranks x y)

balanced : (a b c d : ℕ) → a + d ≡ c + b → (o : Ordering) → MatchOrdering o (a < b) (a ≡ b) (b < a) → MatchOrdering o (c < d) (c ≡ d) (d < c)
balanced a b c d e Less h = omega arith
balanced a b c d e Equal h = omega arith
balanced a b c d e Greater h = omega arith

-- the same difference, the same verdict
pub rank_balanced : (a b c d : ℕ) → a + d ≡ c + b → nat_cmp a b ≡ nat_cmp c d
rank_balanced a b c d e = nat_cmp_is c d (nat_cmp a b) (balanced a b c d e (nat_cmp a b) (ranks a b))

pub then_less : (o later : Ordering) → ordering_then o later ≡ Less → (o ≡ Less) ⊎ ((o ≡ Equal) × (later ≡ Less))
then_less Less later h = inl refl
then_less Equal later h = inr (refl, h)
then_less Greater later h = inl h

pub then_equal : (o later : Ordering) → ordering_then o later ≡ Equal → (o ≡ Equal) × (later ≡ Equal)
then_equal Less later h = (h, cc)
then_equal Equal later h = (refl, h)
then_equal Greater later h = (h, cc)

pub reversed_equal : (o : Ordering) → o ≡ ordering_reverse o → o ≡ Equal
reversed_equal Less h = cc
reversed_equal Equal h = refl
reversed_equal Greater h = cc
