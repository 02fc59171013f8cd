use Rattle.patch_bytes.proofs.PutsLaid.{length-write, write_other, write_front}
use Rattle.patch_bytes.proofs.laws.untouched_bytes_stay.Goals as goal

pub returns-clause-within : goal.returns-clause-within
returns-clause-within c = λ b ps w. (length-write b ps w, λ k free. write_other b ps k 0 w free)

pub returns-clause-behind : goal.returns-clause-behind
returns-clause-behind c = write_front
