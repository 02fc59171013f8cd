-- What holds of every edit that is done.
use Rattle.std.specs.Prelude.{ℕ, ◌≡◌, ◌+◌, ◌<◌, ◌≤◌, ◌↔◌, List, [], ◌∷◌, ◌++◌, length, map, take, drop, slice_index, slice_get, Some, None, All}
use Rattle.patch_bytes.specs.Puts.{write}
use Rattle.dgn_drawing.specs.declared.edit.Edit.{Edit}
use Rattle.dgn_drawing.specs.Element.{Element}
use Rattle.dgn_drawing.specs.Spelling.{spelling, size_of}
use Rattle.dgn_drawing.specs.Rows.{row_of}
use Rattle.dgn_drawing.specs.Nesting.{Forest, forest, BeginsFree}
use Rattle.dgn_drawing.specs.Numbering.{span_of, root_of}
use Rattle.elem_index.specs.Offsets.{offset_of}
use Rattle.dgn_drawing.specs.Opening.{Opens}
use Rattle.edit_ops.specs.declared.causes.cause.Cause.{Cause}
use Rattle.edit_ops.specs.declared.causes.test.Test.{Test}
use Rattle.edit_ops.specs.Trees.{Live, reached, live_tree, above_tree, path_to}
use Rattle.edit_ops.specs.Causes.{target_of, cause_at, first_cause, bytes_appended}
use Rattle.edit_ops.specs.Applying.{Done, apply, changed_forest, IsEdit}
use Rattle.edit_ops.specs.Fields.{Field, IsIn, Rise, filled}
use Rattle.edit_ops.specs.EditedFields.{edited_fields}
use Rattle.edit_ops.specs.Rules.{rule_of}
use Rattle.dgn_drawing.specs.declared.limits.TheConstants.{MOST_DESIGN}

-- an edit that is done on the elements of a file: what it leaves opens in the same dimension, with the same tail
abbrev pub EditedDrawingsOpen : Type 0
EditedDrawingsOpen =
    (f : List ℕ) (dim : ℕ) (es : List Element) (t : List ℕ) (rest : ℕ) (e : Edit) (made : List Element)
    → IsEdit e → Opens f dim es t → apply dim es rest e ≡ Done made → Opens (spelling made ++ t) dim made t

-- and where the elements and the rest keep the limit of a design file, so do those that it makes and the rest
abbrev pub EditedDrawingsFit : Type 0
EditedDrawingsFit =
    (f : List ℕ) (dim : ℕ) (es : List Element) (t : List ℕ) (rest : ℕ) (e : Edit) (made : List Element)
    → IsEdit e → Opens f dim es t → apply dim es rest e ≡ Done made → length (spelling es) + rest ≤ MOST_DESIGN
    → length (spelling made) + rest ≤ MOST_DESIGN

-- other elements have the old bytes in none of these fields, and are the old bytes with these written; they are longer
-- by so many bytes, and only by whole elements, which begin without bit C, so by whole trees; and their trees are these
pub record ChangesFields (es made : List Element) (fields : List Field) (more : ℕ) (trees : Forest Element) : Type 0 where
  pub stays : (k : ℕ) → k < length (spelling es) → All (λ f. ¬ IsIn f k) fields → slice_index (spelling made) k ≡ slice_index (spelling es) k
  pub written : spelling made ≡ write (spelling es) (filled (spelling made) fields) ++ drop (length (spelling es)) (spelling made)
  pub long : length (spelling made) ≡ length (spelling es) + more
  pub rows : map row_of (take (length es) made) ≡ map row_of es
  pub appended : BeginsFree row_of (drop (length es) made)
  pub nested : forest row_of made ≡ trees

-- so does what an edit leaves that is done, with its fields, what it appends, and the trees that it leaves
abbrev pub ChangesItsFields : ℕ → List Element → Edit → List Element → Type 0
ChangesItsFields dim es e made = ChangesFields es made (edited_fields dim es e) (bytes_appended es e) (changed_forest dim es e)

abbrev pub EditsChangeTheirFields : Type 0
EditsChangeTheirFields =
    (f : List ℕ) (dim : ℕ) (es : List Element) (t : List ℕ) (rest : ℕ) (e : Edit) (made : List Element)
    → IsEdit e → Opens f dim es t → apply dim es rest e ≡ Done made → ChangesItsFields dim es e made

-- fields lie in the element that they are of
abbrev pub LieIn : (Live → List Field) → List Live → Type 0
LieIn fields vs = All (λ v. All (λ (f : Field). (v.place ≤ f.at) × (f.at + f.len ≤ v.place + size_of v.element)) (fields v)) vs

-- the fields that an edit writes rise within the elements, so no two share a byte; and they rise from the first
-- byte of the tree that holds its element to that tree's end; each lies in its element
pub record FieldsLieApart (dim : ℕ) (es : List Element) (e : Edit) : Type 0 where
  pub rise : Rise 0 (edited_fields dim es e) (length (spelling es))
  pub in_tree : (n root end : ℕ) → target_of e ≡ Some n → root_of row_of es n ≡ Some root
      → span_of row_of es root ≡ Some (root, end)
      → Rise (offset_of es root) (edited_fields dim es e) (offset_of es end)
  pub within : (n : ℕ) → target_of e ≡ Some n → LieIn (λ v. (rule_of dim e).fields v.place v.element) (reached (rule_of dim e).reach es n)
  pub above : (n : ℕ) → target_of e ≡ Some n → LieIn (λ v. (rule_of dim e).over v.place v.element) (above_tree es n)

abbrev pub EditedFieldsAreApart : Type 0
EditedFieldsAreApart =
    (f : List ℕ) (dim : ℕ) (es : List Element) (t : List ℕ) (rest : ℕ) (e : Edit) (made : List Element)
    → IsEdit e → Opens f dim es t → apply dim es rest e ≡ Done made → FieldsLieApart dim es e

-- numbers of elements rise from one on
abbrev pub NumbersRise : ℕ → List Live → Type 0
NumbersRise low [] = Unit {0}
NumbersRise low (v ∷ vs) = (low ≤ v.number) × NumbersRise (v.number + 1) vs

-- the headers above element n and the live elements of its part have rising numbers
abbrev pub LiveNumbersRise : Type 0
LiveNumbersRise = (es : List Element) (n : ℕ) → n < length es → NumbersRise 0 (above_tree es n ++ live_tree es n)

-- and so have these headers and the element
abbrev pub PathNumbersRise : Type 0
PathNumbersRise = (es : List Element) (n : ℕ) → n < length es → NumbersRise 0 (path_to es n)

-- the cause that a test has against one of these elements, and nothing against any of a smaller number
pub record IsLeastCause (dim : ℕ) (test : Test) (vs : List Live) (c : Cause) : Type 0 where
  pub place : ℕ
  pub one : Live
  pub there : slice_get vs place ≡ Some one
  pub stands : cause_at dim test one.number one.element ≡ Some c
  pub least : (k : ℕ) (v : Live) → slice_get vs k ≡ Some v → v.number < one.number → cause_at dim test v.number v.element ≡ None

-- of elements with rising numbers, the first cause is that of the least of them against which there is one
abbrev pub FirstCauseIsLeast : Type 0
FirstCauseIsLeast =
    (dim : ℕ) (test : Test) (vs : List Live) (c : Cause) → NumbersRise 0 vs
    → (first_cause dim test vs ≡ Some c) ↔ IsLeastCause dim test vs c
