-- Limited division ends, with what division without limits leaves.
use Rattle.division.proofs.Settling as settling
use Rattle.division.proofs.laws.limited_division.Goals as goal

pub returns : goal.returns
returns c k F n cmp O = settling.division_law F O
