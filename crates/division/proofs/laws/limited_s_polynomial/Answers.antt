-- An S-polynomial within the limits is the S-polynomial.
use Rattle.division.proofs.Settling as settling
use Rattle.division.proofs.laws.limited_s_polynomial.Goals as goal

pub returns : goal.returns
returns c k F n cmp O = settling.pair_law F O
