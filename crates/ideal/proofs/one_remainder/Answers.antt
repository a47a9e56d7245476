-- One remainder for polynomials that differ by a member.
use Rattle.ideal.proofs.Verdicts as verdicts
use Rattle.ideal.proofs.one_remainder.Goals as goal

pub returns : goal.returns
returns c k F n cmp O = verdicts.one_remainder_lem F O
