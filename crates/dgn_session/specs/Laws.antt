-- What holds of all sessions.
use Rattle.std.specs.Prelude.{ℕ, ◌≡◌, ◌<◌, false, Some, List, [], ◌∷◌, length, take, reverse, slice_get, slice_index}
use Rattle.std.specs.List.{AllByRecursion}
use Rattle.patch_bytes.specs.Puts.{Put, Holds}
use Rattle.undo_log.specs.declared.entry.Entry.{Entry}
use Rattle.undo_log.specs.Entries.{back_by}
use Rattle.dgn_drawing.specs.declared.edit.Edit.{Edit}
use Rattle.dgn_drawing.specs.declared.fence_edit.FenceEdit.{FenceEdit}
use Rattle.dgn_drawing.specs.declared.mode.Mode.{Mode}
use Rattle.dgn_drawing.specs.Element.{Element}
use Rattle.dgn_drawing.specs.Spelling.{spelling}
use Rattle.dgn_drawing.specs.Opening.{elements_of}
use Rattle.elem_index.specs.Offsets.{offset_of}
use Rattle.edit_ops.specs.Applying.{Done}
use Rattle.dgn_session.specs.State.{State, SessionValue, state_of, edit_applied, after_edit, fence_applied, after_fence_edit, after_undo, undo_refused}
use Rattle.dgn_session.specs.Imported.{imported}
use Rattle.dgn_session.specs.Kept.{rows_of, AreKept}

-- after an edit that is done an undo is not refused, and gives the state before
abbrev pub EditsAreUndone : Type 0
EditsAreUndone = (s : State) (e : Edit) (made : List Element) → edit_applied e s ≡ Done made
    → (after_undo (after_edit e s) ≡ s) × (undo_refused (after_edit e s) ≡ false)

-- and so it is after an edit that is done of all that a fence chooses
abbrev pub FenceEditsAreUndone : Type 0
FenceEditsAreUndone =
    (s : State) (mode : Mode) (e : FenceEdit) (made : List Element) → fence_applied mode e s ≡ Some (Done made)
    → (after_undo (after_fence_edit mode e s) ≡ s) × (undo_refused (after_fence_edit mode e s) ≡ false)

-- and so it is after an import
abbrev pub ImportsAreUndone : Type 0
ImportsAreUndone = (s : State) (new : List Element) → (after_undo (imported new s) ≡ s) × (undo_refused (imported new s) ≡ false)

-- the last list of a stack
abbrev pub last_of : List Element → List (List Element) → List Element
last_of top [] = top
last_of top (es ∷ earlier) = last_of es earlier

-- the opened elements
abbrev pub opened_in : State → List Element
opened_in s = last_of s.top s.earlier

-- they stay
abbrev pub OpenedStay : Type 0
OpenedStay =
    (s : State) → ((e : Edit) → opened_in (after_edit e s) ≡ opened_in s)
    × ((mode : Mode) (e : FenceEdit) → opened_in (after_fence_edit mode e s) ≡ opened_in s)
    × ((new : List Element) → opened_in (imported new s) ≡ opened_in s)
    × (opened_in (after_undo s) ≡ opened_in s)

-- a value of a session
abbrev pub IsSessionValue : SessionValue → Type 0
IsSessionValue v = AreKept v.dim v.tail v.body (reverse v.entries)

-- there is one list below the top for each entry
abbrev pub EntriesAreCounted : Type 0
EntriesAreCounted = (v : SessionValue) → length (state_of v).earlier ≡ length v.entries

-- the k newest entries, each written back in turn, give the exact bytes of the list that stands k below the top
abbrev pub EntriesLeadBack : Type 0
EntriesLeadBack =
    (v : SessionValue) → IsSessionValue v → (k : ℕ) (es : List Element) → slice_get ((state_of v).top ∷ (state_of v).earlier) k ≡ Some es
    → back_by k v.body (reverse v.entries) ≡ spelling es

-- what all entries lead back to: the opened body
abbrev pub opened_body : SessionValue → List ℕ
opened_body v = back_by (length (reverse v.entries)) v.body (reverse v.entries)

-- byte k is in no patch of these entries
abbrev pub IsUnheld : ℕ → List Entry → Type 0
IsUnheld k entries = AllByRecursion (λ (e : Entry). AllByRecursion (λ (p : Put). Holds p k → ⊥) e.patches) entries

-- of the opened body each element has the same row, so the same size, and the same offset; and each byte that is in no
-- patch of a remaining entry is the same
pub record StandsStill (dim : ℕ) (opened b : List ℕ) (entries : List Entry) : Type 0 where
  pub rows : rows_of dim opened ≡ take (length (rows_of dim opened)) (rows_of dim b)
  pub offsets : (n : ℕ) → n < length (elements_of dim opened) → offset_of (elements_of dim b) n ≡ offset_of (elements_of dim opened) n
  pub bytes : (k : ℕ) → k < length opened → IsUnheld k entries → slice_index b k ≡ slice_index opened k

abbrev pub OpenedStandsStill : Type 0
OpenedStandsStill = (v : SessionValue) → IsSessionValue v → StandsStill v.dim (opened_body v) v.body (reverse v.entries)
