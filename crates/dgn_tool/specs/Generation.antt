-- What a run comes to that generates a drawing: the fixed commands that are run on it, and the summary that is said.
use Rattle.std.specs.Prelude.{ℕ, ◌≡◌, ◌-◌, ℤ, pos, negsuc, Option, Some, None, Ok, List, [], ◌∷◌, ◌++◌, length, slice_index, codes}
use Rattle.plane_geom.specs.declared.pt.Pt.{Pt}
use Rattle.dgn_drawing.specs.declared.edit.Edit.TheVariants as edit
use Rattle.dgn_drawing.specs.declared.fence_edit.FenceEdit.TheVariants as fence
use Rattle.dgn_drawing.specs.declared.mode.Mode.{Mode}
use Rattle.dgn_drawing.specs.Values.{Displacement, LookChange}
use Rattle.dgn_drawing.specs.Shown.{shown}
use Rattle.dgn_drawing.specs.Spelling.{spelling}
use Rattle.dgn_session.specs.State.{State}
use Rattle.elem_index.specs.Opened.{Opened}
use Rattle.edit_script.specs.Script.{commands_of}
use Rattle.dgn_drawing.specs.declared.command.Command.{Command}
use Rattle.dgn_drawing.specs.declared.command.Command.TheVariants as command
use Rattle.dgn_answers.specs.Commands.{first_state}
use Rattle.dgn_answers.specs.Steps.{Step, steps_of, after_all, refused_count, trees_of_all}
use Rattle.dgn_tool.specs.Filling.{file_made}
use Rattle.dgn_generator.specs.Generator.{generated_elements}
use Rattle.dgn_listing.specs.NumberedLines.{numbered}
use Rattle.dgn_tool.specs.Ended.{Outcome, filed_then_said}
use Rattle.dgn_tool.specs.FileAfter.{file_after}
use Rattle.dgn_tool.specs.declared.status.Status.TheVariants as statuses

-- the fixed script
abbrev pub fixed_script : List ℕ
fixed_script =
    codes
    "move 1 5 -5\ncolor 1 7\ncopy 1 100 0\nfence 0,0 700000,0 700000,700000 0,700000\nfmove inside 1 1\nfsym overlap 3 2 1\nundo\nundo\ndelete 0\n"

-- a displacement in the plane
abbrev pub along : ℤ → ℤ → Displacement
along x y = record { axes = 2; by = x ∷ y ∷ pos 0 ∷ [] }

-- a look of which these are given
abbrev pub look : Option ℕ → Option ℕ → Option ℕ → LookChange
look color weight style = record { color = color; weight = weight; style = style }

-- a corner of a fence
abbrev pub corner : ℕ → ℕ → Pt
corner x y = record { x = pos x; y = pos y }

-- its commands
abbrev pub fixed_commands : List Command
fixed_commands =
    command.Edit (edit.Move 1 (along (pos 5) (negsuc 4)))
    ∷ command.Edit (edit.Sym 1 (look (Some 7) None None))
    ∷ command.Edit (edit.Copy 1 (along (pos 100) (pos 0)))
    ∷ command.Fence (corner 0 0 ∷ corner 700000 0 ∷ corner 700000 700000 ∷ corner 0 700000 ∷ [])
    ∷ command.Fenced Mode.Inside (fence.Move (along (pos 1) (pos 1)))
    ∷ command.Fenced Mode.Overlap (fence.Sym (look (Some 3) (Some 2) (Some 1)))
    ∷ command.Undo
    ∷ command.Undo
    ∷ command.Edit (edit.Delete 0)
    ∷ []

-- its steps: no command is an import
abbrev pub fixed_steps : List Step
fixed_steps = steps_of fixed_commands []

abbrev pub FixedScriptReads : Type 0
FixedScriptReads = commands_of fixed_script ≡ Ok fixed_commands

-- what is said of the state of a drawing with this tail, whose elements had so many bytes: how many elements there are,
-- how many bytes its file has, and how many items it shows
abbrev pub sizes_of : ℕ → List ℕ → State → List ℕ
sizes_of before tail s =
    numbered (codes "elements ") (length s.top)
    ++ (numbered (codes "bytes ") (length (file_made before tail (spelling s.top)))
    ++ numbered (codes "shown ") (length (shown s.dim s.mask s.top)))

-- and of commands, by how many trees each of them edited, how many there are, and how many were refused: the fifth and
-- the sixth of the fixed ones are edits of all that the fence chooses
abbrev pub counts_of : List ℕ → ℕ → ℕ → List ℕ
counts_of trees commands refused =
    numbered (codes "moved ") (slice_index trees 4)
    ++ (numbered (codes "marked ") (slice_index trees 5)
    ++ (numbered (codes "accepted ") (commands - refused)
    ++ numbered (codes "refused ") refused))

-- the summary of a drawing with this tail on which the fixed commands are run
abbrev pub summary : State → List ℕ → List ℕ
summary s tail =
    sizes_of (length (spelling s.top)) tail (after_all fixed_steps s)
    ++ counts_of (trees_of_all fixed_steps s) (length fixed_commands) (refused_count fixed_steps s)

-- what a drawing with this tail comes to that is generated: the fixed commands are run on it, and its summary is said
abbrev pub generated_from : State → List ℕ → List ℕ → Outcome
generated_from s tail output = filed_then_said statuses.Done (summary s tail) output (file_after s tail fixed_steps)

-- the drawing of a seed and a count
abbrev pub drawing_of : ℕ → ℕ → Opened
drawing_of seed count = record { dim = 2; elements = generated_elements seed count; tail = 255 ∷ 255 ∷ [] }

abbrev pub generation : ℕ → ℕ → List ℕ → Outcome
generation seed count output = generated_from (first_state (drawing_of seed count)) (255 ∷ 255 ∷ []) output
