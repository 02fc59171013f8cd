use Rattle.dgn_mend.proofs.MembersKept.{have_members}
use Rattle.dgn_mend.proofs.laws.changed_headers_have_members.Goals as goal

pub returns : goal.returns
returns c = have_members
