-- What a division leaves.
use Rattle.ideal.proofs.Verdicts as verdicts
use Rattle.ideal.proofs.division_theorem.Goals as goal

pub returns : goal.returns
returns c k F n cmp O = verdicts.division_theorem_lem F O
