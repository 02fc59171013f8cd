use Rattle.patch_file.proofs.ReadAnswers.{reads_by_pieces}
use Rattle.patch_file.proofs.laws.reads_by_pieces.Goals as goal

pub returns : goal.returns
returns c = reads_by_pieces
