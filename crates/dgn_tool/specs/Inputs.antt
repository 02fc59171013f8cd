-- What a run reads: the drawing of IN, the commands of SCRIPT, the second files of its imports, and the entries of PATCH.
use Rattle.std.specs.Prelude.{ℕ, ◌≡◌, ◌-◌, List, [], ◌∷◌, ◌++◌, length, codes, Result, Ok, Err}
use Rattle.dgn_desk.specs.Content.{Files}
use Rattle.dgn_drawing.specs.Opening.{Fault, NotDesign, Cut, Short, Attr}
use Rattle.elem_index.specs.Opened.{Opened, opening}
use Rattle.elem_index.specs.declared.open_fault.OpenFault.{OpenFault}
use Rattle.edit_script.specs.Script.{commands_of}
use Rattle.dgn_drawing.specs.declared.command.Command.{Command}
use Rattle.edit_script.specs.declared.fault.ScriptFault.{ScriptFault}
use Rattle.edit_script.specs.declared.fault.ScriptFault.TheVariants as faults
use Rattle.dgn_import.specs.Seconds.{SecondValue, second_of}
use Rattle.patch_file.specs.Spelling.{Packed}
use Rattle.patch_file.specs.Reading.{patch_of}
use Rattle.dgn_listing.specs.NumberedLines.{numbered}
use Rattle.dgn_answers.specs.Steps.{Step, steps_of}
use Rattle.dgn_tool.specs.Ended.{Outcome, ended}
use Rattle.dgn_tool.specs.Readings.{Reading, at_once, ◌>>=◌, file_in}
use Rattle.dgn_tool.specs.SecondFiles.{names_in}
use Rattle.dgn_tool.specs.declared.status.Status.TheVariants as statuses
use Rattle.dgn_drawing.specs.declared.limits.TheConstants.{MOST_DESIGN}
use Rattle.edit_script.specs.declared.limits.TheConstants.{MOST_SCRIPT}
use Rattle.patch_file.specs.declared.limits.TheConstants.{MOST_PATCH}

-- the line that says why a file isn't a design file, and where
abbrev pub fault_line : Fault → List ℕ
fault_line NotDesign = codes "bad design not-design at 0\n"
fault_line (Cut at) = numbered (codes "bad design cut at ") at
fault_line (Short at) = numbered (codes "bad design short at ") at
fault_line (Attr at) = numbered (codes "bad design attributes at ") at

-- the line that says a fault; want of memory has none
abbrev pub FaultSays : OpenFault → List ℕ → Type 0
FaultSays OpenFault.NotDesign line = line ≡ fault_line NotDesign
FaultSays (OpenFault.Cut at) line = line ≡ fault_line (Cut at)
FaultSays (OpenFault.Short at) line = line ≡ fault_line (Short at)
FaultSays (OpenFault.Attr at) line = line ≡ fault_line (Attr at)
FaultSays OpenFault.Memory line = ⊥

-- a drawing that opens; a fault ends the run
abbrev pub drawing_opened : Result Opened Fault → Result Opened Outcome
drawing_opened (Ok d) = Ok d
drawing_opened (Err fault) = Err (ended statuses.BadDesign (fault_line fault))

-- the bytes of a design file
abbrev pub design_in : Files → List ℕ → Reading (List ℕ)
design_in files input = file_in files input MOST_DESIGN (codes "too long design\n")

-- the drawing of IN
abbrev pub drawing_in : Files → List ℕ → Reading Opened
drawing_in files input = do
  bytes ← design_in files input
  at_once (drawing_opened (opening bytes))

-- commands that are read; a bad line ends the run, and reading alone never wants memory
abbrev pub commands_read : Result (List Command) ScriptFault → Result (List Command) Outcome
commands_read (Ok cs) = Ok cs
commands_read (Err (faults.Line number)) = Err (ended statuses.BadScript (numbered (codes "bad script line ") number))
commands_read (Err faults.Memory) = Err (ended statuses.Memory [])

-- the commands of SCRIPT
abbrev pub commands_in : Files → List ℕ → Reading (List Command)
commands_in files script = do
  text ← file_in files script MOST_SCRIPT (codes "too long script\n")
  at_once (commands_read (commands_of text))

-- what the second file of this name comes to
abbrev pub second_in : Files → List ℕ → Reading SecondValue
second_in files name = do
  bytes ← file_in files name MOST_DESIGN (codes "too long import\n")
  at_once (Ok (second_of bytes))

-- what those of these names come to, behind what was read before them
abbrev pub seconds_behind : Files → List SecondValue → List (List ℕ) → Reading (List SecondValue)
seconds_behind files before [] = at_once (Ok before)
seconds_behind files before (name ∷ names) = do
  v ← second_in files name
  seconds_behind files (before ++ v ∷ []) names

-- what the second files of the imports come to, in their order
abbrev pub seconds_in : Files → List Command → Reading (List SecondValue)
seconds_in files cs = seconds_behind files [] (names_in cs)

-- what a script is run with: the drawing, and the steps of its commands with their second files
pub record Inputs : Type 0 where
  pub drawing : Opened
  pub steps : List Step

-- IN, SCRIPT and the second files
abbrev pub inputs_in : Files → List ℕ → List ℕ → Reading Inputs
inputs_in files input script = do
  d ← drawing_in files input
  cs ← commands_in files script
  vs ← seconds_in files cs
  at_once (Ok (record { drawing = d; steps = steps_of cs vs }))

-- entries that are read of a patch file of so many bytes, up to where so many bytes are left; a bad piece ends the run
abbrev pub entries_read : ℕ → Result (List Packed) ℕ → Result (List Packed) Outcome
entries_read size (Ok es) = Ok es
entries_read size (Err left) = Err (ended statuses.BadPatch (numbered (codes "bad patch at ") (size - left)))

-- the entries of PATCH
abbrev pub entries_in : Files → List ℕ → Reading (List Packed)
entries_in files patch = do
  bytes ← file_in files patch MOST_PATCH (codes "too long patch\n")
  at_once (entries_read (length bytes) (patch_of bytes))
