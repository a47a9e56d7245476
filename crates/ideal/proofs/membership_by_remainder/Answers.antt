-- Membership by the remainder.
use Rattle.ideal.proofs.Verdicts as verdicts
use Rattle.ideal.proofs.membership_by_remainder.Goals as goal

pub returns : goal.returns
returns c k F n cmp O = verdicts.membership_decided F O
