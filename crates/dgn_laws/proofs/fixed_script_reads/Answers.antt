use Rattle.std.proofs.Common.{refl}
use Rattle.dgn_laws.proofs.fixed_script_reads.Goals as goal

pub returns : goal.returns
returns c = refl
