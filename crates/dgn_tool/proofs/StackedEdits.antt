-- The stack of a state, whose lists are what the edits that are left have made, above those that they began with.
use Rattle.std.proofs.Common.{◌≡◌, ℕ, List, [], ◌∷◌, ◌++◌, map, Option, Some, None, refl, ap, ◌∙◌}
use Rattle.std.specs.Prelude.{option_map}
use Rattle.std.proofs.lemmas.Bool.{cond_both}
use Rattle.dgn_drawing.specs.declared.fence_edit.FenceEdit.{FenceEdit}
use Rattle.dgn_drawing.specs.Element.{Element}
use Rattle.dgn_drawing.specs.Opening.{elements_of}
use Rattle.edit_ops.specs.Applying.{Applied, Done, Refused}
use Rattle.edit_ops.specs.Fenced.{apply_all}
use Rattle.dgn_session.specs.Fits.{fit_applied}
use Rattle.dgn_session.specs.State.{State, edit_applied, push_made, push_if_made, selection, drop_top, is_none, with_fence}
use Rattle.dgn_drawing.specs.declared.command.Command.{Command}
use Rattle.dgn_drawing.specs.declared.command.Command.TheVariants as command
use Rattle.dgn_answers.specs.Texts.{fence_refused}
use Rattle.dgn_answers.specs.Imports.{Importing, Appends, Declines, importing_of, import_left}
use Rattle.dgn_answers.specs.Remaining.{RemainingEdit, EditKind, Alone, Fenced, Fitted, with_edit, with_fence_edit, without_newest, with_import}
use Rattle.dgn_answers.specs.Commands.{answer_of}
use Rattle.dgn_answers.specs.Steps.{Step, Plain, Import, after_all, step_answer, with_steps}

-- what the edits have made
abbrev pub lists_made : List RemainingEdit → List (List Element)
lists_made left = map (λ (m : RemainingEdit). m.made) left

-- a state has this stack
abbrev pub IsStacked : List Element → State → List RemainingEdit → Type 0
IsStacked base s left = s.top ∷ s.earlier ≡ lists_made left ++ base ∷ []

done_step : (base : List Element) (s : State) (left : List RemainingEdit) (kind : EditKind) (came : Applied) → IsStacked base s left
    → IsStacked base (push_made came s) (with_edit came s.top kind left)
done_step base s left kind (Done made) stacked = ap (λ (l : List (List Element)). made ∷ l) stacked
done_step base s left kind (Refused cause) stacked = stacked

fence_step : (base : List Element) (s : State) (left : List RemainingEdit) (e : FenceEdit) (came : List ℕ → Applied) (chosen : Option (List ℕ))
    → IsStacked base s left → IsStacked base (push_if_made (option_map came chosen) s) (with_fence_edit (option_map came chosen) chosen s.top e left)
fence_step base s left e came None stacked = stacked
fence_step base s left e came (Some ns) stacked = done_step base s left (Fenced e ns) (came ns) stacked

undo_step : (base : List Element) (s : State) (earlier : List (List Element)) (left : List RemainingEdit) → s.top ∷ earlier ≡ lists_made left ++ base ∷ []
    → s.earlier ≡ earlier → IsStacked base (drop_top earlier s) (without_newest (is_none earlier) left)
undo_step base s [] left stacked is = ap (λ (l : List (List Element)). s.top ∷ l) is ∙ stacked
undo_step base s (es ∷ earlier) [] stacked is = absurd (let x = stacked in cc)
undo_step base s (es ∷ earlier) (m ∷ left) stacked is = let x = stacked in cc

-- a command leaves such a stack
command_stacks : (base : List Element) (s : State) (left : List RemainingEdit) (c : Command) → IsStacked base s left
    → IsStacked base (answer_of s c).state ((answer_of s c).left left)
command_stacks base s left (command.Edit e) stacked = done_step base s left (Alone e) (edit_applied e s) stacked
command_stacks base s left (command.Fenced mode e) stacked = fence_step base s left e (apply_all s.dim s.top s.rest e) (selection mode s) stacked
command_stacks base s left command.Undo stacked = undo_step base s s.earlier left stacked refl
command_stacks base s left (command.Fence corners) stacked =
    cond_both (fence_refused corners) s (with_fence (Some corners) s) (λ (after : State). IsStacked base after left) (λ _. stacked) (λ _. stacked)
command_stacks base s left (command.Fit n) stacked = done_step base s left (Fitted n) (fit_applied n s) stacked
command_stacks base s left _ stacked = stacked

-- so does an import
import_step : (base : List Element) (s : State) (left : List RemainingEdit) (came : Importing) → IsStacked base s left
    → IsStacked base (import_left came s) (with_import came s left)
import_step base s left (Appends b count) stacked = ap (λ (l : List (List Element)). (s.top ++ elements_of s.dim b) ∷ l) stacked
import_step base s left (Declines line) stacked = stacked

-- so does a step
pub step_stacks : (base : List Element) (s : State) (left : List RemainingEdit) (g : Step) → IsStacked base s left
    → IsStacked base (step_answer s g).state ((step_answer s g).left left)
step_stacks base s left (Plain c) stacked = command_stacks base s left c stacked
step_stacks base s left (Import v by) stacked = import_step base s left (importing_of s v by) stacked

-- and so do all
pub steps_stack : (base : List Element) (gs : List Step) (s : State) (left : List RemainingEdit) → IsStacked base s left
    → IsStacked base (after_all gs s) (with_steps gs s left)
steps_stack base [] s left stacked = stacked
steps_stack base (g ∷ gs) s left stacked = steps_stack base gs (step_answer s g).state ((step_answer s g).left left) (step_stacks base s left g stacked)
