-- How many polynomials a list keeps, and how many terms. Assumes nothing.
use Rattle.std.proofs.Common.{◌≡◌, ◌*◌, ◌≤◌, length, vec_items, vec_len, sym, ◌∙◌, arith}
use Rattle.polynomial.specs.Kept.{polynomials}
use Rattle.polynomial.specs.Views.{view}
use Rattle.polynomial.specs.declared.list.PolynomialList.{PolynomialList}
use Rattle.polynomial.proofs.Cutting.{cut-length, short-total}

-- as many polynomials as counts
pub numbered : (l : PolynomialList) → vec_len l.counts ≡ length (polynomials l)
numbered l = l.counts.ok.0 ∙ sym (cut-length (vec_items l.counts) (view (vec_items l.terms)))

-- at most 32 terms to each
pub few-terms : (l : PolynomialList) → length (vec_items l.terms) ≤ 32 * length (vec_items l.counts)
few-terms l = let s = short-total (vec_items l.counts) l.short in let w = l.whole in omega arith

-- there are at most 32 polynomials
pub few-polynomials : (l : PolynomialList) → length (polynomials l) ≤ 32
few-polynomials l = let h = cut-length (vec_items l.counts) (view (vec_items l.terms)) in let few = l.few in omega arith
