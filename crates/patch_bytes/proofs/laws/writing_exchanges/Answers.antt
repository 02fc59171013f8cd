use Rattle.patch_bytes.proofs.PutsLaid.{lay-old_of, old_of-old_of, lay_held, lay_other}
use Rattle.patch_bytes.proofs.laws.writing_exchanges.Goals as goal

pub returns-clause-exchanges : goal.returns-clause-exchanges
returns-clause-exchanges c = λ b p w. (lay-old_of b p w, old_of-old_of b p w)

pub returns-clause-local : goal.returns-clause-local
returns-clause-local c = λ b p k w. (lay_held b p k 0 w, lay_other b p k 0 w)
