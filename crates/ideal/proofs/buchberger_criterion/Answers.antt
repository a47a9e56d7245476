-- S-polynomials that divide to 0 make a Gröbner basis.
use Rattle.ideal.proofs.Verdicts as verdicts
use Rattle.ideal.proofs.buchberger_criterion.Goals as goal

pub returns : goal.returns
returns c k F n cmp O = verdicts.buchberger F O
