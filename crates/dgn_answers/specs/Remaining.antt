-- The edits that a run has done and not taken back, and what each kind of step leaves of them.
use Rattle.std.specs.Prelude.{ℕ, Bool, true, false, List, [], ◌∷◌, ◌++◌, drop, Option, Some}
use Rattle.dgn_drawing.specs.Element.{Element}
use Rattle.dgn_drawing.specs.Opening.{elements_of}
use Rattle.dgn_drawing.specs.declared.edit.Edit.{Edit}
use Rattle.dgn_drawing.specs.declared.fence_edit.FenceEdit.{FenceEdit}
use Rattle.dgn_session.specs.State.{State}
use Rattle.edit_ops.specs.Applying.{Applied, Done, Refused}
use Rattle.edit_ops.specs.Fields.{Field}
use Rattle.edit_ops.specs.EditedFields.{edited_fields}
use Rattle.edit_ops.specs.Fenced.{fenced_fields}
use Rattle.dgn_audit.specs.Fitting.{fit_fields}
use Rattle.dgn_answers.specs.Imports.{Importing, Appends, Declines}

-- what was made of a drawing: an edit, one of all that a fence chose, of these roots, a fit of the tree that holds an
-- element, or an import, which appended these elements
pub data EditKind : Type 0 where
  Alone : Edit → EditKind
  Fenced : FenceEdit → List ℕ → EditKind
  Fitted : ℕ → EditKind
  Imported : List Element → EditKind

-- the elements that it was made on, and those that came of them
pub record RemainingEdit : Type 0 where
  pub on : List Element
  pub kind : EditKind
  pub made : List Element

-- In what follows edits stand the newest first.

-- an edit is put before those that are left, where it is done
abbrev pub with_edit : Applied → List Element → EditKind → List RemainingEdit → List RemainingEdit
with_edit (Done made) on kind left = record { on = on; kind = kind; made = made } ∷ left
with_edit (Refused cause) on kind left = left

-- and so is an edit of all that a fence chooses
abbrev pub with_fence_edit : Option Applied → Option (List ℕ) → List Element → FenceEdit → List RemainingEdit → List RemainingEdit
with_fence_edit (Some applied) (Some ns) on e left = with_edit applied on (Fenced e ns) left
with_fence_edit applied ns on e left = left

-- an undo takes the newest away, unless it is refused
abbrev pub without_newest : Bool → List RemainingEdit → List RemainingEdit
without_newest true left = left
without_newest false left = drop 1 left

-- an import is put before them, where it isn't refused
abbrev pub with_import : Importing → State → List RemainingEdit → List RemainingEdit
with_import (Appends b count) s left =
    record { on = s.top; kind = Imported (elements_of s.dim b); made = s.top ++ elements_of s.dim b } ∷ left
with_import (Declines line) s left = left

-- the fields that it writes: an import has none
abbrev pub fields_made : ℕ → List Element → EditKind → List Field
fields_made dim on (Alone e) = edited_fields dim on e
fields_made dim on (Fenced e ns) = fenced_fields dim on e ns
fields_made dim on (Fitted n) = fit_fields dim on n
fields_made dim on (Imported new) = []
