use Rattle.undo_log.proofs.EntriesBack.{undo_may_follow, undo_takes_back}
use Rattle.undo_log.proofs.laws.undo_takes_back.Goals as goal

pub returns : goal.returns
returns c = λ b edit es new d may. (undo_may_follow b edit es may, undo_takes_back b edit es new d may)
