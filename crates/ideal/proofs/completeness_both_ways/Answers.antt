-- All divides to 0 exactly by a Gröbner basis.
use Rattle.ideal.proofs.Verdicts as verdicts
use Rattle.ideal.proofs.completeness_both_ways.Goals as goal

pub returns : goal.returns
returns c k F n cmp O = verdicts.completeness_both_ways_lem F O
