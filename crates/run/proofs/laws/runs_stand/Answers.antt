-- What is held after any run stands.
use Rattle.run.proofs.Holds as holds
use Rattle.run.proofs.laws.runs_stand.Goals as goal

pub returns : goal.returns
returns c k F cmp O = holds.standing F O
