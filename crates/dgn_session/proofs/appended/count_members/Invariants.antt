use Rattle.std.proofs.Common.{◌+◌, ◌≤◌, length}
use Rattle.dgn_session.proofs.appended.count_members.Given as goal

-- each element that was counted has a byte, and those that are left have theirs
abbrev pub invariant-members : goal.invariant-members
invariant-members l = l.count + length l.rest ≤ length l.bytes

abbrev pub decreases-members : goal.decreases-members
decreases-members l = length l.rest
