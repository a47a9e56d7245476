-- Every division ends, with one remainder.
use Rattle.ideal.proofs.Verdicts as verdicts
use Rattle.ideal.proofs.division_ends.Goals as goal

pub returns : goal.returns
returns c k F n cmp O = verdicts.division-ends F O
