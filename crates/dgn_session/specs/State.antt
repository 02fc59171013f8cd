-- The session machine: its states, with what an edit, an undo and a setting do to them, and the state that a
-- session's value stands for.
use Rattle.std.specs.Prelude.{ℕ, Bool, true, false, Option, Some, None, option_map, List, [], ◌∷◌, length, map, drop, reverse}
use Rattle.plane_geom.specs.declared.pt.Pt.{Pt}
use Rattle.dgn_drawing.specs.declared.edit.Edit.{Edit}
use Rattle.dgn_drawing.specs.declared.fence_edit.FenceEdit.{FenceEdit}
use Rattle.dgn_drawing.specs.declared.mask.Mask.{Mask}
use Rattle.dgn_drawing.specs.declared.mode.Mode.{Mode}
use Rattle.dgn_drawing.specs.Element.{Element}
use Rattle.dgn_drawing.specs.Spelling.{spelling}
use Rattle.dgn_drawing.specs.Opening.{elements_of}
use Rattle.dgn_fence.specs.Selected.{selected}
use Rattle.undo_log.specs.declared.entry.Entry.{Entry}
use Rattle.undo_log.specs.Entries.{bodies}
use Rattle.edit_ops.specs.Applying.{Applied, Done, Refused, apply}
use Rattle.edit_ops.specs.Fields.{Field, filled}
use Rattle.edit_ops.specs.EditedFields.{edited_fields}
use Rattle.edit_ops.specs.Fenced.{apply_all, fenced_fields}

-- a state: the dimension, the number of bytes of the tail, a stack of element lists, which is never empty: its top
-- and those below it, the newest first; the mask, and the fence, where there is one
pub record State : Type 0 where
  pub dim : ℕ
  pub rest : ℕ
  pub top : List Element
  pub earlier : List (List Element)
  pub mask : Mask
  pub fence : Option (List Pt)

-- all levels
abbrev pub all_levels : Mask
all_levels = record { 0 = 18446744073709551615 }

-- it begins with the opened elements alone, all levels and no fence
abbrev pub first_state : ℕ → List Element → ℕ → State
first_state dim es rest = record { dim = dim; rest = rest; top = es; earlier = []; mask = all_levels; fence = None }

-- the state with another stack
abbrev pub with_stack : List Element → List (List Element) → State → State
with_stack top earlier s = record s { top = top; earlier = earlier }

-- what an edit comes to in a state
abbrev pub edit_applied : Edit → State → Applied
edit_applied e s = apply s.dim s.top s.rest e

-- an edit that is done pushes what it makes, and one that is refused leaves the state
abbrev pub push_made : Applied → State → State
push_made (Done made) s = with_stack made (s.top ∷ s.earlier) s
push_made (Refused cause) s = s

abbrev pub after_edit : Edit → State → State
after_edit e s = push_made (edit_applied e s) s

-- whether it is refused
abbrev pub is_refused : Applied → Bool
is_refused (Done made) = false
is_refused (Refused cause) = true

-- the roots of the top that the fence chooses, where one is set
abbrev pub selection : Mode → State → Option (List ℕ)
selection mode s = option_map (λ fence. selected s.dim s.mask fence mode s.top) s.fence

-- what an edit of all that the fence chooses comes to, where one is set
abbrev pub fence_applied : Mode → FenceEdit → State → Option Applied
fence_applied mode e s = option_map (apply_all s.dim s.top s.rest e) (selection mode s)

-- what it leaves: where no fence is set it is refused
abbrev pub push_if_made : Option Applied → State → State
push_if_made None s = s
push_if_made (Some applied) s = push_made applied s

abbrev pub after_fence_edit : Mode → FenceEdit → State → State
after_fence_edit mode e s = push_if_made (fence_applied mode e s) s

-- the top is dropped, where a list is below it
abbrev pub drop_top : List (List Element) → State → State
drop_top [] s = s
drop_top (es ∷ earlier) s = with_stack es earlier s

-- an undo drops the top, and is refused where it is the only list
abbrev pub after_undo : State → State
after_undo s = drop_top s.earlier s

abbrev pub is_none : List (List Element) → Bool
is_none [] = true
is_none (es ∷ earlier) = false

abbrev pub undo_refused : State → Bool
undo_refused s = is_none s.earlier

-- a mask is set
abbrev pub with_mask : Mask → State → State
with_mask mask s = record s { mask = mask }

-- a fence is set, or cleared
abbrev pub with_fence : Option (List Pt) → State → State
with_fence fence s = record s { fence = fence }

-- a session's value, as plain data: dimension, body and tail, the entries of the log, the oldest first, the mask, and
-- the fence, where there is one
pub record SessionValue : Type 0 where
  pub dim : ℕ
  pub body : List ℕ
  pub tail : List ℕ
  pub entries : List Entry
  pub mask : Mask
  pub fence : Option (List Pt)

-- the element lists of the bodies that the entries of a body lead back to, the newest first. Those entries stand the
-- newest first too
abbrev pub earlier_of : ℕ → List ℕ → List Entry → List (List Element)
earlier_of dim b entries = drop 1 (map (elements_of dim) (bodies b entries))

-- the state that it stands for: the elements of its body on top, and below them those of each body that its entries
-- lead back to
abbrev pub state_of : SessionValue → State
state_of v = record {
  dim = v.dim;
  rest = length v.tail;
  top = elements_of v.dim v.body;
  earlier = earlier_of v.dim v.body (reverse v.entries);
  mask = v.mask;
  fence = v.fence;
}

-- the entry of what writes these fields of elements: the fields with the bytes that stand there, and how many bytes
-- there are
abbrev pub entry_with : List Element → List Field → Entry
entry_with es fields = record { patches = filled (spelling es) fields; len = length (spelling es) }

-- that of an edit of these elements
abbrev pub entry : ℕ → List Element → Edit → Entry
entry dim es e = entry_with es (edited_fields dim es e)

-- that of an edit of these roots
abbrev pub fence_entry : ℕ → List Element → FenceEdit → List ℕ → Entry
fence_entry dim es e ns = entry_with es (fenced_fields dim es e ns)

-- a session's value with another mask
abbrev pub value_with_mask : Mask → SessionValue → SessionValue
value_with_mask mask v = record v { mask = mask }

-- with another fence
abbrev pub value_with_fence : Option (List Pt) → SessionValue → SessionValue
value_with_fence fence v = record v { fence = fence }

-- and with another body and other entries
abbrev pub value_with : List ℕ → List Entry → SessionValue → SessionValue
value_with body entries v = record v { body = body; entries = entries }
