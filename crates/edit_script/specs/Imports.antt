-- The command that imports another drawing: the name of its file, and how far its trees are displaced, where that is
-- given; and how many such lines a script may have.
use Rattle.std.specs.Prelude.{ℕ, ◌+◌, ◌==◌, nat_le, Bool, true, false, not, ◌&&◌, if◌then◌else◌, List, [], ◌∷◌, length, Option, Some, None, option_map}
use Rattle.std.specs.List.{list_all}
use Rattle.dgn_drawing.specs.Values.{Displacement}
use Rattle.dgn_drawing.specs.declared.command.Command.{Command}
use Rattle.dgn_drawing.specs.declared.command.Command.TheVariants as command
use Rattle.edit_script.specs.declared.reading.Reading.{Reading}
use Rattle.edit_script.specs.declared.reading.Reading.TheVariants.{Asks, Bad}
use Rattle.edit_script.specs.Edits.{shift_named}

-- a byte that may stand in a name: 33 to 126
abbrev pub is_name_byte : ℕ → Bool
is_name_byte b = nat_le 33 b && nat_le b 126

-- a name is a word of 1 to 255 such bytes
abbrev pub is_name : List ℕ → Bool
is_name word = not (length word == 0) && (nat_le (length word) 255 && list_all is_name_byte word)

-- the displacement of these words: none where there are none, and else `D D` or `D D D`
abbrev pub given_shift : List (List ℕ) → Option (Option Displacement)
given_shift [] = Some None
given_shift (word ∷ words) = option_map Some (shift_named (word ∷ words))

-- `import NAME`, `import NAME D D`, `import NAME D D D`, by its words behind `import`
abbrev pub import_command : List (List ℕ) → Option Command
import_command [] = None
import_command (name ∷ words) = if is_name name then option_map (command.Import name) (given_shift words) else None

-- whether a line asks for an import
abbrev pub is_import : Reading → Bool
is_import (Asks (command.Import name by)) = true
is_import other = false

-- what a line says behind so many lines that ask for one: a fifth is bad
abbrev pub limited : ℕ → Reading → Reading
limited imports reading = if nat_le 4 imports && is_import reading then Bad else reading

-- how many there are with this one
abbrev pub imports_with : ℕ → Reading → ℕ
imports_with imports reading = if is_import reading then imports + 1 else imports
