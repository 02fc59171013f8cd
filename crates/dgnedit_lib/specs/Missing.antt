-- Which file isn't handed in that a run comes to read.
use Rattle.std.specs.Prelude.{ℕ, List, [], ◌∷◌, Option, is_some, if◌then◌else◌}
use Rattle.std.specs.FinMap as maps
use Rattle.dgn_desk.specs.Content.{Files}
use Rattle.dgn_tool.specs.Inputs.{commands_in, seconds_in}
use Rattle.dgn_tool.specs.Outcome.{reading_of}
use Rattle.dgn_tool.specs.Readings.{Source, ◌>>=◌}
use Rattle.dgn_tool.specs.Request.{Request}

-- the name of the first of these files that isn't there; none where each is there
abbrev pub first_missing : Files → List Source → List ℕ
first_missing files [] = []
first_missing files (s ∷ ss) = if is_some (maps.get files s.name) then first_missing files ss else s.name

-- of the files that a run with this request comes to read, the name of the first that isn't there
abbrev pub missing_name : Option Request → Files → List ℕ
missing_name request files = first_missing files (reading_of request files).sources

-- of these names, the first whose file isn't there
abbrev pub first_absent : Files → List (List ℕ) → List ℕ
first_absent files [] = []
first_absent files (name ∷ names) = if is_some (maps.get files name) then first_absent files names else name

-- the files that are read behind IN: SCRIPT, and the second files of its imports
abbrev pub sources_behind : Files → List ℕ → List Source
sources_behind files script = (commands_in files script >>= seconds_in files).sources
