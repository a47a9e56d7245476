-- What every call promises.
use Rattle.run.proofs.RunLaws as laws
use Rattle.run.proofs.laws.call_law.Goals as goal

pub returns : goal.returns
returns c k F cmp O = laws.call_law_lem F O
