use Rattle.std.proofs.Common.{rules}
use Rattle.level_view.proofs.back.add.Goals as goal

pub returns-in-Group : goal.returns-in-Group
returns-in-Group c = search rules
