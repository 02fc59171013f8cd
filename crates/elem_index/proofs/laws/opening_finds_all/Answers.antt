use Rattle.elem_index.proofs.OpeningAnswers.{opens-opening, opening-opens, fault-opening, opening-fault}
use Rattle.elem_index.proofs.laws.opening_finds_all.Goals as goal

pub returns-clause-opens : goal.returns-clause-opens
returns-clause-opens c = λ f o bytes. (opens-opening f o bytes, opening-opens f o bytes)

pub returns-clause-faults : goal.returns-clause-faults
returns-clause-faults c = λ f fault bytes. (fault-opening f fault bytes, opening-fault f fault bytes)
