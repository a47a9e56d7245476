-- What a list of polynomials holds. Assumes nothing.
--   polynomials    the polynomials, in the order in which they were kept
use Rattle.std.specs.Prelude.{List, vec_items}
use Rattle.ideal.specs.Rings.{Raw}
use Rattle.polynomial.specs.Cuts.{cut}
use Rattle.polynomial.specs.Views.{view}
use Rattle.polynomial.specs.declared.list.PolynomialList.{PolynomialList}

abbrev pub polynomials : PolynomialList → List Raw
polynomials l = cut (vec_items l.counts) (view (vec_items l.terms))
