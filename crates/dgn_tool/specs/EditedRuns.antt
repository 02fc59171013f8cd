-- What a run of `edit` leaves that has written OUT, over a desk that tells what it holds.
use Rattle.std.specs.Prelude.{ℕ, ◌≡◌, List, Option, Some, Ok, IfSome, ⊤}
use Rattle.dgn_desk.specs.Content.{Files, Content, bytes_of, with_file}
use Rattle.dgn_drawing.specs.Opening.{Opens}
use Rattle.edit_script.specs.Script.{commands_of}
use Rattle.dgn_drawing.specs.declared.command.Command.{Command}
use Rattle.elem_index.specs.Opened.{Opened}
use Rattle.dgn_answers.specs.Commands.{first_state}
use Rattle.dgn_answers.specs.Steps.{Step}
use Rattle.dgn_tool.specs.FileAfter.{file_after}
use Rattle.dgn_tool.specs.Laws.{steps_of_files, IsEditedFile}
use Rattle.dgn_tool.specs.Request.{Request, Edit}
use Rattle.dgn_tool.specs.SecondFiles.{names_in, files_named}
use Rattle.dgn_tool.specs.declared.status.Status.{Status}
use Rattle.dgn_tool.specs.declared.status.Status.TheVariants as statuses

-- a status with which a run of `edit` has written OUT
abbrev pub HasWritten : Status → Type 0
HasWritten statuses.Done = ⊤
HasWritten statuses.SomeRefused = ⊤
HasWritten _ = ⊥

-- the steps of these commands, with the second files that they name
abbrev pub steps_with : Files → List Command → List Step
steps_with files cs = steps_of_files cs (files_named (names_in cs) files)

-- what a run leaves that edited IN by SCRIPT into OUT: IN opens as a drawing, and SCRIPT reads to commands; OUT is the file
-- that their steps make of the drawing, and every other file is as before; and that file opens, and has IN's byte at each
-- place in IN's elements that is in no field of a remaining edit
pub record EditsFile (input script output : List ℕ) (files : Files) (now : Option Content) : Type 0 where
  pub drawing : Opened
  pub commands : List Command
  pub opens : Opens (bytes_of files input) drawing.dim drawing.elements drawing.tail
  pub reads : commands_of (bytes_of files script) ≡ Ok commands
  pub content : Content
  pub told_is : now ≡ Some content
  pub files_are : content.files ≡ with_file output (file_after (first_state drawing) drawing.tail (steps_with files commands)) files
  pub stays : IsEditedFile (bytes_of files input) (first_state drawing) drawing.tail (steps_with files commands)

-- a run with this request that has written OUT left that
abbrev pub EditsAsAsked : Option Request → Status → Option Content → Option Content → Type 0
EditsAsAsked request status old now =
    (input script output : List ℕ) → request ≡ Some (Edit input script output) → HasWritten status
    → IfSome old (λ c. EditsFile input script output c.files now)
