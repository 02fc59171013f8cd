-- What holds of every drawing that opens, every list of commands and every list of second files for their imports, each
-- the contract of a function in `laws`.
use Rattle.std.specs.Prelude.{ℕ, ◌≡◌, ◌<◌, ◌≤◌, List, ◌++◌, length, map, slice_index, All, IfSome}
use Rattle.dgn_drawing.specs.Spelling.{spelling}
use Rattle.dgn_drawing.specs.Opening.{Opens}
use Rattle.dgn_drawing.specs.Values.{IsShift}
use Rattle.dgn_drawing.specs.WellFormed.{IsBytes}
use Rattle.dgn_import.specs.Seconds.{second_of}
use Rattle.dgn_session.specs.State.{State}
use Rattle.edit_ops.specs.Applying.{IsEdit}
use Rattle.edit_ops.specs.Fields.{IsIn}
use Rattle.edit_ops.specs.Fenced.{IsFenceEdit}
use Rattle.dgn_drawing.specs.declared.command.Command.{Command}
use Rattle.dgn_drawing.specs.declared.command.Command.TheVariants as command
use Rattle.elem_index.specs.Opened.{Opened}
use Rattle.dgn_answers.specs.Remaining.{RemainingEdit, fields_made}
use Rattle.dgn_answers.specs.Commands.{first_state}
use Rattle.dgn_answers.specs.Steps.{Step, steps_of, after_all, remaining}
use Rattle.dgn_tool.specs.Filling.{filling}
use Rattle.dgn_tool.specs.FileAfter.{file_after}

-- the place is in no field that it writes
abbrev pub IsOutside : ℕ → ℕ → RemainingEdit → Type 0
IsOutside dim p m = All (λ f. ¬ IsIn f p) (fields_made dim m.on m.kind)

-- what its type keeps of the edit that a command may be
abbrev pub IsEditIn : Command → Type 0
IsEditIn (command.Edit e) = IsEdit e
IsEditIn (command.Fenced mode e) = IsFenceEdit e
IsEditIn (command.Import name by) = IfSome by IsShift
IsEditIn other = Unit {0}

-- the steps of these commands with these second files
abbrev pub steps_of_files : List Command → List (List ℕ) → List Step
steps_of_files cs files = steps_of cs (map second_of files)

-- what stands behind the elements in the file that the steps make: the tail, and what fills its last block
abbrev pub behind_after : State → List ℕ → List Step → List ℕ
behind_after s t gs = t ++ filling (length (spelling s.top)) t (length (spelling (after_all gs s).top))

-- the file that the steps make of an opened one opens with the elements after them and the same tail, with what fills
-- its last block behind; its elements have no fewer bytes; and it has the file's byte at each place in the elements of the
-- file that no remaining edit writes
pub record IsEditedFile (f : List ℕ) (s : State) (t : List ℕ) (gs : List Step) : Type 0 where
  pub opens : Opens (file_after s t gs) s.dim (after_all gs s).top (behind_after s t gs)
  pub long : length (spelling s.top) ≤ length (spelling (after_all gs s).top)
  pub stays : (p : ℕ) → p < length (spelling s.top) → All (IsOutside s.dim p) (remaining gs s)
      → slice_index (file_after s t gs) p ≡ slice_index f p

abbrev pub UntouchedBytesStay : Type 0
UntouchedBytesStay =
    (f : List ℕ) (d : Opened) (cs : List Command) (files : List (List ℕ))
    → Opens f d.dim d.elements d.tail → All IsEditIn cs → All IsBytes files → IsEditedFile f (first_state d) d.tail (steps_of_files cs files)
