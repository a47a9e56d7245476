-- The ideal is closed under sums, differences and multiples.
use Rattle.ideal.proofs.Membership as membership
use Rattle.ideal.proofs.members_closed.Goals as goal

pub returns : goal.returns
returns c k F n cmp O = membership.members_closed_lem F O
