-- The file of the drawing that steps make.
use Rattle.std.specs.Prelude.{ℕ, List, length}
use Rattle.dgn_drawing.specs.Spelling.{spelling}
use Rattle.dgn_session.specs.State.{State}
use Rattle.dgn_answers.specs.Steps.{Step, after_all}
use Rattle.dgn_tool.specs.Filling.{file_made}

-- the file of the drawing that these steps make of an opened one with this tail
abbrev pub file_after : State → List ℕ → List Step → List ℕ
file_after s tail gs = file_made (length (spelling s.top)) tail (spelling (after_all gs s).top)
