use Rattle.undo_log.proofs.EntriesBack.{entry_restores, entry_fits, length-back}
use Rattle.undo_log.proofs.laws.entries_restore.Goals as goal

pub returns-clause-restores : goal.returns-clause-restores
returns-clause-restores c = λ b edit may. (entry_fits b edit may, entry_restores b edit may)

pub returns-clause-length : goal.returns-clause-length
returns-clause-length c = length-back
