-- What a session answers to a command, and the state with which a run begins.
use Rattle.std.specs.Prelude.{nat_lt, Bool, true, false, not, if◌then◌else◌, Some, None, List, [], length, codes}
use Rattle.dgn_drawing.specs.Shown.{shown}
use Rattle.dgn_session.specs.State as machine
use Rattle.dgn_audit.specs.Findings.{findings}
use Rattle.dgn_session.specs.Fits.{fit_applied}
use Rattle.dgn_session.specs.State.{State, edit_applied, selection, fence_applied, with_mask, with_fence}
use Rattle.dgn_listing.specs.ElementTexts.{elements_text}
use Rattle.dgn_listing.specs.FindingTexts.{findings_text}
use Rattle.dgn_listing.specs.ItemTexts.{items_text}
use Rattle.dgn_listing.specs.RefTexts.{refs_text}
use Rattle.dgn_drawing.specs.declared.command.Command.{Command}
use Rattle.dgn_drawing.specs.declared.command.Command.TheVariants as command
use Rattle.elem_index.specs.Opened.{Opened}
use Rattle.plane_geom.specs.declared.pt.Pt.{Pt}
use Rattle.dgn_answers.specs.Texts.{tree_said, links_said, selection_text, selection_refused, fence_text, fence_refused}
use Rattle.dgn_answers.specs.Remaining.{Alone, Fitted}
use Rattle.dgn_answers.specs.Answer.{Answer, tells, edits, edits_all, takes_back}

-- a run begins with the file's elements alone, all levels shown and no fence
abbrev pub first_state : Opened → State
first_state d = machine.first_state d.dim d.elements (length d.tail)

-- what `fence` leaves with these corners
abbrev pub fence_set : List Pt → State → State
fence_set corners s = if fence_refused corners then s else with_fence (Some corners) s

-- whether a command is an import, which is run with its second file, as a step of a run (`Step`): here it is none
abbrev pub is_import : Command → Bool
is_import (command.Import name by) = true
is_import other = false

-- what a session answers to a command in a state
abbrev pub answer_of : State → Command → Answer
answer_of s (command.Import name by) = tells s [] false
answer_of s (command.Edit e) = edits s (edit_applied e s) (Alone e)
answer_of s (command.Fenced mode e) = edits_all s (fence_applied mode e s) (selection mode s) e
answer_of s command.Undo = takes_back s
answer_of s (command.Levels mask) = tells (with_mask mask s) (codes "ok\n") false
answer_of s (command.Fence corners) = tells (fence_set corners s) (fence_text corners) (fence_refused corners)
answer_of s command.NoFence = tells (with_fence None s) (codes "ok\n") false
answer_of s command.Show = tells s (items_text (shown s.dim s.mask s.top)) false
answer_of s (command.Tree n) = tells s (tree_said s.top n) (not (nat_lt n (length s.top)))
answer_of s command.Elements = tells s (elements_text s.top) false
answer_of s command.Refs = tells s (refs_text s.top) false
answer_of s (command.Links n) = tells s (links_said s.top n) (not (nat_lt n (length s.top)))
answer_of s (command.Select mode) = tells s (selection_text (selection mode s)) (selection_refused (selection mode s))
answer_of s command.Audit = tells s (findings_text (findings s.dim s.top)) false
answer_of s (command.Fit n) = edits s (fit_applied n s) (Fitted n)
