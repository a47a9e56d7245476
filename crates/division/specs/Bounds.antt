-- What division and S-polynomials within limits promise. Assumes nothing.
--   Held                    a polynomial with exponents up to 255
--   Settles elements f x    in some number of turns, limited division of f comes to x: a remainder or a limit
--   Settled                 what limited division of f promises: it comes to `division`, in however many turns it ends;
--                           a remainder is the one that division without limits leaves, and has at most 512 terms if f has
--   DivisionLaw             limited division promises that of every held dividend, by held elements
--   PairLaw                 an S-polynomial within the limits is the S-polynomial, is held, and has at most 512 terms
use Rattle.std.specs.Prelude.{◌≡◌, ℕ, ◌≤◌, true, List, length, Some, Ok}
use Rattle.field.specs.Fields.{Arithmetic}
use Rattle.order.specs.Orders.{Compare}
use Rattle.ideal.specs.Lists.{Each}
use Rattle.ideal.specs.Polynomials.{Operations, whole}
use Rattle.ideal.specs.Rings.{Raw, RawElement, ring, Polynomial}
use Rattle.ideal.specs.Dividing.{Leaves, s_polynomial}
use Rattle.polynomial.specs.Limits.{all_small}
use Rattle.division.specs.Limits.{Outcome, divide_within, division, limited_s_polynomial}

abbrev pub Held : Arithmetic → ℕ → Compare → Raw → Type 0
Held k n cmp p = Polynomial k n cmp p × (all_small p ≡ true)

abbrev pub Settles : Operations ℕ (List ℕ) → List RawElement → Raw → Outcome → Type 0
Settles o elements f x = (i : ℕ) × (divide_within o i elements 0 f ≡ Some x)

pub record Settled (k : Arithmetic) (n : ℕ) (cmp : Compare) (elements : List RawElement) (f : Raw) : Type 0 where
  pub ends : Settles (ring k n cmp) elements f (division (ring k n cmp) n elements f)
  pub one : (x : Outcome) → Settles (ring k n cmp) elements f x → x ≡ division (ring k n cmp) n elements f
  pub remainder : (q : Raw) → division (ring k n cmp) n elements f ≡ Ok q → Leaves (ring k n cmp) elements f q × Held k n cmp q
  pub short : (q : Raw) → division (ring k n cmp) n elements f ≡ Ok q → length f ≤ 512 → length q ≤ 512

module _ (k : Arithmetic) (n : ℕ) (cmp : Compare) where
  abbrev pub DivisionLaw : Type 0
  DivisionLaw = (elements : List RawElement) → Each (λ g. Held k n cmp (whole g)) elements → (f : Raw) → Held k n cmp f
      → Settled k n cmp elements f

  abbrev pub PairLaw : Type 0
  PairLaw = (g h : RawElement) → Held k n cmp (whole g) → Held k n cmp (whole h) → (s : Raw)
      → limited_s_polynomial (ring k n cmp) g h ≡ Ok s → (s ≡ s_polynomial (ring k n cmp) g h) × Held k n cmp s × (length s ≤ 512)
