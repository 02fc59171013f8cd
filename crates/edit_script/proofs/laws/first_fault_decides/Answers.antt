use Rattle.edit_script.specs.Lines.{lines_of}
use Rattle.edit_script.proofs.FirstFault.{means}
use Rattle.edit_script.proofs.laws.first_fault_decides.Goals as goal

pub returns : goal.returns
returns c = λ text. means (lines_of text) 1 0
