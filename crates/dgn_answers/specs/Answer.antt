-- What a session answers to a step, and what it leaves.
use Rattle.std.specs.Prelude.{ℕ, Bool, List, Option}
use Rattle.dgn_drawing.specs.declared.fence_edit.FenceEdit.{FenceEdit}
use Rattle.edit_ops.specs.Applying.{Applied}
use Rattle.dgn_session.specs.State as machine
use Rattle.dgn_session.specs.State.{State, push_made, push_if_made, after_undo, undo_refused}
use Rattle.dgn_answers.specs.Texts.{edit_text, undo_text, fence_edit_text, fenced_refused, trees_edited}
use Rattle.dgn_answers.specs.Imports.{Importing, import_text, import_refused, import_left}
use Rattle.dgn_answers.specs.Remaining.{RemainingEdit, EditKind, with_edit, with_fence_edit, without_newest, with_import}

-- what it says, whether it is refused, how many trees it changed or copied, as an edit of all that a fence chooses, the
-- state behind it, and what it leaves of the edits that are left, which stand the newest first
pub record Answer : Type 0 where
  pub text : List ℕ
  pub refused : Bool
  pub trees : ℕ
  pub state : State
  pub left : List RemainingEdit → List RemainingEdit

-- that of a step which does nothing to the elements: this text, in this state
abbrev pub tells : State → List ℕ → Bool → Answer
tells s text refused = record { text = text; refused = refused; trees = 0; state = s; left = λ left. left }

-- that of an edit in a state, by what it came to
abbrev pub edits : State → Applied → EditKind → Answer
edits s came kind = record {
  text = edit_text came;
  refused = machine.is_refused came;
  trees = 0;
  state = push_made came s;
  left = with_edit came s.top kind;
}

-- that of an edit of all that a fence chooses, by what it came to and the roots that are chosen
abbrev pub edits_all : State → Option Applied → Option (List ℕ) → FenceEdit → Answer
edits_all s came chosen e = record {
  text = fence_edit_text came chosen;
  refused = fenced_refused came;
  trees = trees_edited came chosen;
  state = push_if_made came s;
  left = with_fence_edit came chosen s.top e;
}

-- that of an undo
abbrev pub takes_back : State → Answer
takes_back s = record {
  text = undo_text (undo_refused s);
  refused = undo_refused s;
  trees = 0;
  state = after_undo s;
  left = without_newest (undo_refused s);
}

-- that of an import, by what it came to
abbrev pub imports : State → Importing → Answer
imports s came = record {
  text = import_text came;
  refused = import_refused came;
  trees = 0;
  state = import_left came s;
  left = with_import came s;
}
