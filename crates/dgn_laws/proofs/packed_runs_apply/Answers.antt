use Rattle.dgn_laws.proofs.PackedRuns.{packed_runs_apply}
use Rattle.dgn_laws.proofs.packed_runs_apply.Goals as goal

pub returns : goal.returns
returns c = packed_runs_apply
