-- What one edit of several roots comes to: of all that a fence chooses. Each root's tree is edited as by an edit of its
-- own, on the elements as they were; the first cause of the first root that has one refuses all of them.
use Rattle.std.specs.Prelude.{ℕ, ◌≡◌, ◌+◌, ◌==◌, Bool, if◌then◌else◌, List, [], ◌∷◌, filter, map, Option, None}
use Rattle.std.specs.List.{flat_map, list_any}
use Rattle.std.specs.Option.{option_or}
use Rattle.dgn_drawing.specs.declared.edit.Edit.{Edit}
use Rattle.dgn_drawing.specs.declared.edit.Edit.TheVariants as edit
use Rattle.dgn_drawing.specs.declared.fence_edit.FenceEdit.{FenceEdit}
use Rattle.dgn_drawing.specs.declared.fence_edit.FenceEdit.TheVariants as fence
use Rattle.dgn_drawing.specs.Element.{Element}
use Rattle.dgn_drawing.specs.Rows.{row_of}
use Rattle.dgn_drawing.specs.Nesting.{Forest, NoTree, Tree, flat, forest, joined}
use Rattle.dgn_drawing.specs.Numbering.{end_of}
use Rattle.dgn_drawing.specs.Shown.{roots}
use Rattle.dgn_drawing.specs.Values.{IsShift, IsLook}
use Rattle.dgn_drawing.specs.Changes.{shift, recolour, mark}
use Rattle.edit_ops.specs.declared.causes.cause.Cause.{Cause}
use Rattle.edit_ops.specs.Trees.{live_map}
use Rattle.edit_ops.specs.Causes.{bytes_appended, cause_of}
use Rattle.edit_ops.specs.Applying.{Applied, copied, applied_unless}
use Rattle.edit_ops.specs.Fields.{Field}
use Rattle.edit_ops.specs.EditedFields.{edited_fields}
use Rattle.edit_ops.specs.Rules.{rule_of}

-- the edit of root n that it asks for
abbrev pub edit_at : FenceEdit → ℕ → Edit
edit_at (fence.Move by) n = edit.Move n by
edit_at (fence.Copy by) n = edit.Copy n by
edit_at (fence.Sym change) n = edit.Sym n change
edit_at fence.Delete n = edit.Delete n

-- and those of some roots
abbrev pub edits_at : FenceEdit → List ℕ → List Edit
edits_at e ns = map (edit_at e) ns

-- the first cause of the first of some edits that has one. `rest` is the number of bytes of the tail and of what is
-- pending; for each edit, the bytes that those before it append are pending too
abbrev pub cause_of_all : ℕ → List Element → ℕ → List Edit → Option Cause
cause_of_all dim es rest [] = None
cause_of_all dim es rest (e ∷ edits) = option_or (cause_of dim es rest e) (cause_of_all dim es (rest + bytes_appended es e) edits)

-- trees whose first element has number n, with the live elements changed of the tree of each root that is chosen
abbrev pub chosen_map : (Element → Element) → (ℕ → Bool) → ℕ → Forest Element → Forest Element
chosen_map change chosen n NoTree = NoTree
chosen_map change chosen n (Tree knot h below behind) =
    joined (if chosen n then live_map (λ e. e.deleted) change (Tree knot h below NoTree) else Tree knot h below NoTree)
    (chosen_map change chosen (end_of n below) behind)

-- the trees of a drawing with those of these roots changed
abbrev pub roots_changed : (Element → Element) → List Element → List ℕ → Forest Element
roots_changed change es ns = chosen_map change (λ n. list_any (λ m. m == n) ns) 0 (forest row_of es)

-- the copies of the trees of these roots, one behind the other
abbrev pub copies : ℕ → List Element → FenceEdit → List ℕ → Forest Element
copies dim es e [] = NoTree
copies dim es e (n ∷ ns) = joined (copied (rule_of dim (edit_at e n)) es n) (copies dim es e ns)

-- the trees that an accepted edit of these roots leaves
abbrev pub fenced_forest : ℕ → List Element → FenceEdit → List ℕ → Forest Element
fenced_forest dim es (fence.Move by) ns = roots_changed (shift dim by) es ns
fenced_forest dim es (fence.Copy by) ns = joined (forest row_of es) (copies dim es (fence.Copy by) ns)
fenced_forest dim es (fence.Sym change) ns = roots_changed (recolour change) es ns
fenced_forest dim es fence.Delete ns = roots_changed mark es ns

-- what an edit of these roots comes to on these elements of a file of that dimension
abbrev pub apply_all : ℕ → List Element → ℕ → FenceEdit → List ℕ → Applied
apply_all dim es rest e ns = applied_unless (cause_of_all dim es rest (edits_at e ns)) (flat (fenced_forest dim es e ns))

-- the fields that it writes: those of its roots, joined
abbrev pub fenced_fields : ℕ → List Element → FenceEdit → List ℕ → List Field
fenced_fields dim es e ns = flat_map (edited_fields dim es) (edits_at e ns)

-- how many bytes edits append
abbrev pub all_appended : List Element → List Edit → ℕ
all_appended es [] = 0
all_appended es (e ∷ edits) = bytes_appended es e + all_appended es edits

-- these are some of the roots of a drawing, in file order
abbrev pub AreRoots : List Element → List ℕ → Type 0
AreRoots es ns = (chosen : ℕ → Bool) × (ns ≡ filter chosen (roots 0 (forest row_of es)))

-- what the type of an edit of all that a fence chooses keeps of its values
abbrev pub IsFenceEdit : FenceEdit → Type 0
IsFenceEdit (fence.Move by) = IsShift by
IsFenceEdit (fence.Copy by) = IsShift by
IsFenceEdit (fence.Sym change) = IsLook change
IsFenceEdit fence.Delete = Unit {0}
