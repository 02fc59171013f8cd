-- What the answer of a script means, in words of its lines: every line is read and the commands stand in
-- their order, or some line is bad, and it is the first.
use Rattle.std.specs.Prelude.{ℕ, ◌+◌, ◌≡◌, List, [], ◌∷◌, ◌++◌, length, Result, Ok, Err}
use Rattle.dgn_drawing.specs.declared.command.Command.{Command}
use Rattle.edit_script.specs.declared.fault.ScriptFault.{ScriptFault}
use Rattle.edit_script.specs.declared.fault.ScriptFault.TheVariants as fault
use Rattle.edit_script.specs.declared.reading.Reading.{Reading}
use Rattle.edit_script.specs.declared.reading.Reading.TheVariants.{Nothing, Asks, Bad}
use Rattle.edit_script.specs.Lines.{lines_of}
use Rattle.edit_script.specs.Imports.{limited, imports_with}
use Rattle.edit_script.specs.Grammar.{command_of}
use Rattle.edit_script.specs.Script.{commands_of}

-- a line that is read: it says nothing, or a command
abbrev pub IsRead : Reading → Type 0
IsRead Nothing = Unit {0}
IsRead (Asks c) = Unit {0}
IsRead Bad = ⊥

-- these lines are read, behind so many that ask for an import
abbrev pub AreRead : ℕ → List (List ℕ) → Type 0
AreRead imports [] = Unit {0}
AreRead imports (line ∷ lines) = IsRead (limited imports (command_of line)) × AreRead (imports_with imports (command_of line)) lines

-- how many ask for one, behind so many
abbrev pub imports_in : ℕ → List (List ℕ) → ℕ
imports_in imports [] = imports
imports_in imports (line ∷ lines) = imports_in (imports_with imports (command_of line)) lines

-- the command that a line says, where it says one, before some others
abbrev pub asked : Reading → List Command → List Command
asked (Asks c) more = c ∷ more
asked _ more = more

-- the commands that these lines say
abbrev pub commands_in : List (List ℕ) → List Command
commands_in [] = []
commands_in (line ∷ lines) = asked (command_of line) (commands_in lines)

-- the line with this number, where the first has number `from` and stands behind so many imports, is the first that is
-- bad: it is no command, or a fifth import
pub record IsFirst (number : ℕ) (from : ℕ) (imports : ℕ) (lines : List (List ℕ)) : Type 0 where
  pub before : List (List ℕ)
  pub line : List ℕ
  pub behind : List (List ℕ)
  pub parts : lines ≡ before ++ line ∷ behind
  pub counted : number ≡ from + length before
  pub read : AreRead imports before
  pub reads : limited (imports_in imports before) (command_of line) ≡ Bad

-- what an answer means for these lines, of which the first has number `from` and stands behind so many imports
abbrev pub Means : List (List ℕ) → ℕ → ℕ → Result (List Command) ScriptFault → Type 0
Means lines from imports (Ok commands) = AreRead imports lines × (commands ≡ commands_in lines)
Means lines from imports (Err (fault.Line number)) = IsFirst number from imports lines
Means lines from imports (Err fault.Memory) = ⊥

-- the answer of every script means what it says
abbrev pub FirstDecides : Type 0
FirstDecides = (text : List ℕ) → Means (lines_of text) 1 0 (commands_of text)
