-- What is computed from polynomials is a polynomial.
use Rattle.ideal.proofs.Carried as carried
use Rattle.ideal.proofs.algebra_closed.Goals as goal

pub returns : goal.returns
returns c k F n cmp O = carried.closed F O
