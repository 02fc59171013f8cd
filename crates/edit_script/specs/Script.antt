-- What a whole script says: the commands of its lines in their order, or the fault of the first line that
-- is bad. Lines are numbered from 1, and every line counts. A fifth line that asks for an import is bad.
use Rattle.std.specs.Prelude.{ℕ, ◌+◌, ◌≡◌, List, [], ◌∷◌, Result, Ok, Err}
use Rattle.dgn_drawing.specs.declared.command.Command.{Command}
use Rattle.edit_script.specs.declared.fault.ScriptFault.{ScriptFault}
use Rattle.edit_script.specs.declared.fault.ScriptFault.TheVariants as fault
use Rattle.edit_script.specs.declared.reading.Reading.{Reading}
use Rattle.edit_script.specs.declared.reading.Reading.TheVariants.{Nothing, Asks, Bad}
use Rattle.edit_script.specs.Lines.{lines_of}
use Rattle.edit_script.specs.Imports.{limited, imports_with}
use Rattle.edit_script.specs.Grammar.{command_of}

-- a command before those of the lines behind it
abbrev pub with_first : Command → Result (List Command) ScriptFault → Result (List Command) ScriptFault
with_first c (Ok more) = Ok (c ∷ more)
with_first c (Err e) = Err e

-- what a line with this number says, before what those behind it say
abbrev pub with_line : ℕ → Reading → Result (List Command) ScriptFault → Result (List Command) ScriptFault
with_line number Nothing more = more
with_line number (Asks c) more = with_first c more
with_line number Bad more = Err (fault.Line number)

-- the commands of these lines, of which the first has this number and stands behind so many lines that ask for an import
abbrev pub commands_from : ℕ → ℕ → List (List ℕ) → Result (List Command) ScriptFault
commands_from number imports [] = Ok []
commands_from number imports (line ∷ lines) =
    with_line number (limited imports (command_of line)) (commands_from (number + 1) (imports_with imports (command_of line)) lines)

-- the commands of a script, or its first line that is bad
abbrev pub commands_of : List ℕ → Result (List Command) ScriptFault
commands_of text = commands_from 1 0 (lines_of text)

-- what a fault says of a script: Memory says nothing
abbrev pub TellsOfScript : List ℕ → ScriptFault → Type 0
TellsOfScript text (fault.Line number) = commands_of text ≡ Err (fault.Line number)
TellsOfScript text fault.Memory = Unit {0}
