use Rattle.dgn_generator.proofs.GeneratedFile.{generated_opens}
use Rattle.dgn_generator.proofs.laws.generated_drawings_open.Goals as goal

pub returns : goal.returns
returns c = generated_opens
