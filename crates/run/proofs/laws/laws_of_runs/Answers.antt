-- Every run keeps the laws.
use Rattle.run.proofs.RunLaws as laws
use Rattle.run.proofs.laws.laws_of_runs.Goals as goal

pub returns : goal.returns
returns c k F cmp O = laws.laws F O
