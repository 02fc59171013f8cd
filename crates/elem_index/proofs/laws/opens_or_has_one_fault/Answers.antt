use Rattle.elem_index.proofs.OpeningAnswers.{opens_or_faults}
use Rattle.elem_index.proofs.laws.opens_or_has_one_fault.Goals as goal

pub returns : goal.returns
returns c = opens_or_faults
