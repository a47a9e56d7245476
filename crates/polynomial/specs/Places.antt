-- Whether a list has a place for a polynomial. Assumes nothing.
--   place_for i c    for one of c terms, behind i others: that there is, or why there is none
use Rattle.std.specs.Prelude.{ℕ, Result, nat_le, nat_lt}
use Rattle.polynomial.specs.Results.{◌>>◌, check}
use Rattle.polynomial.specs.declared.flaw.Unkept.{Unkept}
use Rattle.polynomial.specs.declared.flaw.Unkept.TheVariants.{ListFull, TooLong}

abbrev pub place_for : ℕ → ℕ → Result (Unit {0}) Unkept
place_for i c = check (nat_lt i 32) ListFull >> check (nat_le c 32) TooLong
