-- Equal coefficients make equal polynomials.
use Rattle.ideal.proofs.Carried as carried
use Rattle.ideal.proofs.determined_by_coefficients.Goals as goal

pub returns : goal.returns
returns c k F n cmp O = carried.determined F O
