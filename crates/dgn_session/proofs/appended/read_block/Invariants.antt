use Rattle.std.proofs.Common.{◌-◌, ◌≤◌, length}
use Rattle.dgn_session.proofs.SpelledRows.{AreLeft}
use Rattle.dgn_session.proofs.appended.read_block.Given as goal

pub record Reading (l : goal.Live-elements) : Type 0 where
  pub left : AreLeft l.bytes l.rows.items l.at
  pub few : length l.rows.items ≤ l.at
  pub within : l.at ≤ length l.bytes

abbrev pub invariant-elements : goal.invariant-elements
invariant-elements l = Reading l

abbrev pub decreases-elements : goal.decreases-elements
decreases-elements l = length l.bytes - l.at
