-- Which file a run with such words writes that ended so: the one that the last of four words names, where all came to its end.
use Rattle.std.specs.Prelude.{ℕ, Bool, true, false, List, [], ◌∷◌, Option, Some, None}
use Rattle.std.specs.FinMap as maps
use Rattle.dgn_desk.specs.Content.{Files}
use Rattle.dgn_tool.specs.declared.status.Status.{Status}
use Rattle.dgn_tool.specs.declared.status.Status.TheVariants as statuses

-- the last of four words
abbrev pub last_of_four : List (List ℕ) → Option (List ℕ)
last_of_four (command ∷ second ∷ third ∷ fourth ∷ []) = Some fourth
last_of_four _ = None

-- a status with which a run that writes a file has written it
abbrev pub has_written : Status → Bool
has_written statuses.Done = true
has_written statuses.SomeRefused = true
has_written _ = false

-- the name of the file that is written
abbrev pub name_written : Bool → Option (List ℕ) → Option (List ℕ)
name_written true name = name
name_written false name = None

-- the bytes of the file of this name, if there is a name
abbrev pub bytes_at : Option (List ℕ) → Files → Option (List ℕ)
bytes_at None files = None
bytes_at (Some name) files = maps.get files name
