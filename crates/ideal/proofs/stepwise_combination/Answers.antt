-- One multiple after another makes the combination.
use Rattle.ideal.proofs.Carried as carried
use Rattle.ideal.proofs.stepwise_combination.Goals as goal

pub returns : goal.returns
returns c k F n cmp O = carried.stepwise F O
