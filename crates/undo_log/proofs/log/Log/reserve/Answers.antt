use Rattle.std.proofs.Common.{rules}
use Rattle.undo_log.proofs.log.Log.reserve.Goals as goal

pub returns-clause-has_room : goal.returns-clause-has_room
returns-clause-has_room c = search rules
