-- Worked edits: of a cell with a line, and of the line alone, on the drawing whose first element is a silent one of four bytes.
use Rattle.std.proofs.Common.{◌≡◌, ℕ, List, [], ◌∷◌, map, take, refl, Bool, true, false, Some, None}
use Rattle.std.specs.Prelude.{ℤ, pos, replicate, Option}
use Rattle.dgn_drawing.specs.declared.edit.Edit.{Edit}
use Rattle.dgn_drawing.specs.declared.edit.Edit.TheVariants as edit
use Rattle.dgn_drawing.specs.Values.{Displacement}
use Rattle.dgn_drawing.specs.Element.{Display, Body, Silent, Shown, Cell, Line, Header, Plain, Element}
use Rattle.dgn_drawing.specs.Spelling.{display_bytes, parts_bytes, body_bytes, spell, spelling}
use Rattle.dgn_drawing.specs.Nesting.{nest_within, flat}
use Rattle.edit_ops.specs.declared.causes.cause.Cause.{Cause}
use Rattle.edit_ops.specs.declared.causes.cause.Cause.TheVariants as causes
use Rattle.edit_ops.specs.Causes.{cause_of}
use Rattle.edit_ops.specs.Applying.{Done, apply, copied}
use Rattle.edit_ops.specs.Rules.{displacing}
use Rattle.edit_ops.specs.EditedFields.{edited_fields}

-- a display part with these corners and this attribute index
abbrev display : List ℤ → List ℤ → ℕ → Display
display low high index = record { low = low; high = high; group = 0; index = index; properties = 0; style = 0; weight = 0; color = 0 }

abbrev element : Bool → ℕ → Body → Element
element cbit kind body = record { level = 1; bit6 = false; cbit = cbit; kind = kind; deleted = false; body = body }

abbrev point : ℤ → ℤ → List ℤ
point x y = x ∷ y ∷ []

abbrev corner : ℤ → ℤ → List ℤ
corner x y = x ∷ y ∷ pos 0 ∷ []

abbrev first : Element
first = element false 9 (Silent [])

-- the cell ABC of that total, moved so far, and the line that is its member
abbrev cell : ℕ → ℤ → ℤ → ℤ → ℤ → Element
cell total x y right top = element false 2 (Shown (display (corner x y) (corner right top) 30) (Cell total (1683 ∷ 0 ∷ []) (replicate 42 170) (point x y)) [])

abbrev member : ℤ → ℤ → ℤ → ℤ → Element
member x y right top = element true 3 (Shown (display (corner x y) (corner right top) 10) (Line (point x y ∷ point right top ∷ [])) [])

abbrev drawing : ℕ → List Element
drawing total = first ∷ cell total (pos 0) (pos 0) (pos 100) (pos 50) ∷ member (pos 0) (pos 0) (pos 100) (pos 50) ∷ []

abbrev by : List ℤ → ℕ → Displacement
by numbers axes = record { axes = axes; by = numbers }

-- the tree of the cell goes five to the right and seven up, and its run of bytes stays
move-cell : apply 2 (drawing 53) 2 (edit.Move 1 (by (pos 5 ∷ pos 7 ∷ pos 0 ∷ []) 2))
    ≡ Done (first ∷ cell 53 (pos 5) (pos 7) (pos 105) (pos 57) ∷ member (pos 5) (pos 7) (pos 105) (pos 57) ∷ [])
unfolding nest_within spell body_bytes display_bytes parts_bytes
move-cell = refl

-- fourteen fields are written: four of the range and two of the origin of the header, eight of the line
fields-cell : map (λ f. f.at) (edited_fields 2 (drawing 53) (edit.Move 1 (by (pos 5 ∷ pos 7 ∷ pos 0 ∷ []) 2)))
    ≡ 8 ∷ 12 ∷ 20 ∷ 24 ∷ 88 ∷ 92 ∷ 100 ∷ 104 ∷ 112 ∷ 116 ∷ 132 ∷ 136 ∷ 140 ∷ 144 ∷ []
unfolding nest_within spell body_bytes display_bytes parts_bytes
fields-cell = refl

-- the causes of refusals, by the number in each
abbrev refusal : ℕ → Edit → Option Cause
refusal total e = cause_of 2 (drawing total) 2 e

refused-edits : (refusal 53 (edit.Delete 9) ∷ refusal 52 (edit.Delete 1) ∷ refusal 52 (edit.Delete 2) ∷ refusal 53 (edit.Delete 0)
    ∷ refusal 53 (edit.Move 1 (by (pos 1 ∷ pos 1 ∷ pos 1 ∷ []) 3)) ∷ refusal 53 (edit.Move 1 (by (pos 2147483600 ∷ pos 0 ∷ pos 0 ∷ []) 2)) ∷ refusal 53
    (edit.Delete 1) ∷ [])
    ≡ Some (causes.Unknown 9) ∷ Some (causes.Broken 1) ∷ Some (causes.Broken 2) ∷ Some (causes.Opaque 0)
    ∷ Some causes.Dimension ∷ Some (causes.OffPlane 1) ∷ None ∷ []
unfolding nest_within spell body_bytes display_bytes parts_bytes
refused-edits = refl

-- a complex chain over a silent element of type 127 that begins FF 7F: marked deleted it would be the mark that
-- ends a file's elements, and it has no look
abbrev chain : List Element
chain = first ∷ element false 12 (Shown (display (corner (pos 0) (pos 0)) (corner (pos 0) (pos 0)) 4) (Header 3 1) [])
    ∷ record { level = 63; bit6 = true; cbit = true; kind = 127; deleted = false; body = Silent [] } ∷ []

no_mark-made : (cause_of 2 chain 2 (edit.Delete 1) ∷ cause_of 2 chain 2 (edit.Sym 1 (record { color = Some 1; weight = Some 1; style = Some 1 })) ∷ [])
    ≡ Some (causes.Opaque 2) ∷ Some (causes.Opaque 2) ∷ []
unfolding nest_within spell body_bytes display_bytes parts_bytes
no_mark-made = refl

-- a member moved alone: the range of the cell above it holds it afterwards, and the cell's origin stays
abbrev one_one : Displacement
one_one = by (pos 1 ∷ pos 1 ∷ pos 0 ∷ []) 2

move-member : apply 2 (drawing 53) 2 (edit.Move 2 one_one)
    ≡ Done (first ∷ cell 53 (pos 0) (pos 0) (pos 101) (pos 51) ∷ member (pos 1) (pos 1) (pos 101) (pos 51) ∷ [])
unfolding nest_within spell body_bytes display_bytes parts_bytes
move-member = refl

-- twelve fields are written: the range of the header, and all eight of the line
fields-member : map (λ f. f.at) (edited_fields 2 (drawing 53) (edit.Move 2 one_one)) ≡ 8 ∷ 12 ∷ 20 ∷ 24 ∷ 100 ∷ 104 ∷ 112 ∷ 116 ∷ 132 ∷ 136 ∷ 140 ∷ 144 ∷ []
unfolding nest_within spell body_bytes display_bytes parts_bytes
fields-member = refl

-- a member marked deleted: one byte of it, and nothing of the cell above it
abbrev dead : Element → Element
dead e = record { level = e.level; bit6 = e.bit6; cbit = e.cbit; kind = e.kind; deleted = true; body = e.body }

delete-member : apply 2 (drawing 53) 2 (edit.Delete 2)
    ≡ Done (first ∷ cell 53 (pos 0) (pos 0) (pos 100) (pos 50) ∷ dead (member (pos 0) (pos 0) (pos 100) (pos 50)) ∷ [])
unfolding nest_within spell body_bytes display_bytes parts_bytes
delete-member = refl

fields-deleted : map (λ f. f.at) (edited_fields 2 (drawing 53) (edit.Delete 2)) ≡ 97 ∷ []
unfolding nest_within spell body_bytes display_bytes parts_bytes
fields-deleted = refl

-- the member is locked: a move, another look and a deletion of its cell or of it itself are refused, and a copy isn't
abbrev locked_drawing : List Element
locked_drawing =
    first ∷ cell 53 (pos 0) (pos 0) (pos 100) (pos 50)
    ∷ element true 3 (Shown (record {
      low = corner (pos 0) (pos 0);
      high = corner (pos 100) (pos 50);
      group = 0;
      index = 10;
      properties = 256;
      style =
          0;
      weight = 0;
      color = 0;
    }) (Line (point (pos 0) (pos 0) ∷ point (pos 100) (pos 50) ∷ [])) [])
    ∷ []

locked-member : (cause_of 2 locked_drawing 2 (edit.Move 1 one_one) ∷ cause_of 2 locked_drawing 2
    (edit.Sym 2 (record { color = Some 1; weight = None; style = None }))
    ∷ cause_of 2 locked_drawing 2 (edit.Delete 1) ∷ cause_of 2 locked_drawing 2 (edit.Copy 1 one_one) ∷ [])
    ≡ Some (causes.Locked 2) ∷ Some (causes.Locked 2) ∷ Some (causes.Locked 2) ∷ None ∷ []
unfolding nest_within spell body_bytes display_bytes parts_bytes
locked-member = refl

-- a member copied alone stands behind the others without bit C
copy-member : apply 2 (drawing 53) 2 (edit.Copy 2 one_one)
    ≡ Done (first ∷ cell 53 (pos 0) (pos 0) (pos 100) (pos 50) ∷ member (pos 0) (pos 0) (pos 100) (pos 50)
    ∷ element false 3 (Shown (display (corner (pos 1) (pos 1)) (corner (pos 101) (pos 51)) 10)
    (Line (point (pos 1) (pos 1) ∷ point (pos 101) (pos 51) ∷ [])) []) ∷ [])
unfolding nest_within spell body_bytes display_bytes parts_bytes
copy-member = refl

-- so its first byte is 01, where that of the member is 81
first_byte-copied : (take 1 (spelling (flat (copied (displacing 2 one_one) (drawing 53) 2))) ≡ 1 ∷ [])
    × (take 1 (spell (member (pos 0) (pos 0) (pos 100) (pos 50))) ≡ 129 ∷ [])
unfolding nest_within spell body_bytes display_bytes parts_bytes
first_byte-copied = (refl, refl)

-- the range of a shared cell definition isn't read, so none of its parts is moved alone; one may be deleted or copied
abbrev shared : List Element
shared = first ∷ element false 34 (Shown (display (corner (pos 0) (pos 0)) (corner (pos 100) (pos 50)) 4) Plain []) ∷ member (pos 0) (pos 0) (pos 100)
    (pos 50) ∷ []

shared-member : (cause_of 2 shared 2 (edit.Move 2 one_one) ∷ cause_of 2 shared 2 (edit.Delete 2) ∷ cause_of 2 shared 2 (edit.Copy 2 one_one) ∷ [])
    ≡ Some (causes.Opaque 1) ∷ None ∷ None ∷ []
unfolding nest_within spell body_bytes display_bytes parts_bytes
shared-member = refl
