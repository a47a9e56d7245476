-- A multiple's coefficients are products, at the multiplied monomials.
use Rattle.ideal.proofs.Carried as carried
use Rattle.ideal.proofs.multiple_coefficients.Goals as goal

pub returns : goal.returns
returns c k F n cmp O = carried.multiple_coefficients_lem F O
