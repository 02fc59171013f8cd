-- The second files of a script's imports, which are read before its first command runs.
use Rattle.std.specs.Prelude.{ℕ, if◌then◌else◌, List, [], ◌∷◌, ◌++◌, map}
use Rattle.std.specs.List.{list_all}
use Rattle.dgn_desk.specs.Content.{Files, bytes_of}
use Rattle.dgn_drawing.specs.declared.command.Command.{Command}
use Rattle.dgn_drawing.specs.declared.command.Command.TheVariants as command
use Rattle.edit_script.specs.Imports.{is_name_byte}

-- the name of a second file as a desk is asked for it: each name in a script is such a text, and nothing else is one
abbrev pub text_named : List ℕ → List ℕ
text_named name = if list_all is_name_byte name then name else []

-- the name of the second file of a command, where it is an import
abbrev pub names_of : Command → List (List ℕ)
names_of (command.Import name by) = text_named name ∷ []
names_of other = []

-- the names of the second files, in the order of the imports
abbrev pub names_in : List Command → List (List ℕ)
names_in [] = []
names_in (c ∷ cs) = names_of c ++ names_in cs

-- the files of these names
abbrev pub files_named : List (List ℕ) → Files → List (List ℕ)
files_named names files = map (bytes_of files) names
