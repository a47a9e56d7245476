-- Coefficients add.
use Rattle.ideal.proofs.Carried as carried
use Rattle.ideal.proofs.sum_coefficients.Goals as goal

pub returns : goal.returns
returns c k F n cmp O = carried.sum_coefficients_lem F O
