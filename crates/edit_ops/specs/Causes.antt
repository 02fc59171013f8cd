-- The causes of a refusal, in their order. Of each cause that an element can have, the least number decides.
use Rattle.std.specs.Prelude.{ℕ, ◌+◌, ◌/◌, ◌%◌, ◌==◌, nat_lt, Bool, false, if◌then◌else◌, List, [], ◌∷◌, ◌++◌, length, slice_get, Option, Some, None}
use Rattle.std.specs.Option.{option_or}
use Rattle.dgn_layout.specs.declared.types.Class.{Class}
use Rattle.dgn_layout.specs.Classes.{class_of, is_silent}
use Rattle.dgn_drawing.specs.declared.edit.Edit.{Edit}
use Rattle.dgn_drawing.specs.declared.edit.Edit.TheVariants as edit
use Rattle.dgn_drawing.specs.Element.{Body, Silent, Shown, Element}
use Rattle.dgn_drawing.specs.Spelling.{spelling, size_of}
use Rattle.dgn_drawing.specs.Rows.{row_of}
use Rattle.dgn_drawing.specs.Nesting.{flat, forest}
use Rattle.dgn_drawing.specs.Numbering.{root_of, first_broken_of}
use Rattle.dgn_drawing.specs.Changes.{stays_on_plane}
use Rattle.dgn_drawing.specs.NewElements.{element_made}
use Rattle.edit_ops.specs.declared.causes.cause.Cause.{Cause}
use Rattle.edit_ops.specs.declared.causes.cause.Cause.TheVariants as causes
use Rattle.edit_ops.specs.declared.causes.test.Test.{Test}
use Rattle.edit_ops.specs.declared.causes.test.Test.TheVariants as tests
use Rattle.edit_ops.specs.Trees.{Live, tree_at, live_tree, above_tree, path_to}
use Rattle.dgn_drawing.specs.declared.limits.TheConstants.{MOST_DESIGN}
use Rattle.dgn_layout.specs.declared.TheConstants.{END_MARK}

-- there is no element n
abbrev pub unknown : ℕ → List Element → Option Cause
unknown n es = if nat_lt n (length es) then None else Some (causes.Unknown n)

-- the tree holds a broken number, of which this is the least
abbrev pub broken : Option (Option ℕ) → Option Cause
broken (Some (Some least)) = Some (causes.Broken least)
broken other = None

-- the least broken number of the tree of a root
abbrev pub broken_in : List Element → Option ℕ → Option (Option ℕ)
broken_in es (Some root) = first_broken_of row_of es root
broken_in es None = None

-- it is marked deleted
abbrev pub deleted : ℕ → Element → Option Cause
deleted m e = if e.deleted then Some (causes.Deleted m) else None

-- whether properties say that an element is locked: bit 8, 0x0100
abbrev pub says_locked : ℕ → Bool
says_locked properties = properties / 256 % 2 == 1

-- whether an element is locked; of a silent one nothing is read
abbrev pub is_locked : Body → Bool
is_locked (Silent rest) = false
is_locked (Shown display parts rest) = says_locked display.properties

-- it is locked
abbrev pub locked : ℕ → Body → Option Cause
locked m body = if is_locked body then Some (causes.Locked m) else None

-- the edit is given for other axes than the file's
abbrev pub other_axes : ℕ → ℕ → Option Cause
other_axes dim axes = if axes == dim then None else Some causes.Dimension

-- nothing is read of element n
abbrev pub silent : ℕ → Option Element → Option Cause
silent n (Some e) = if is_silent (class_of e.kind) then Some (causes.Opaque n) else None
silent n None = None

-- a header's range isn't one of the class's coordinates, so it can't be made wider
abbrev pub unwidened : ℕ → Class → Option Cause
unwidened m Class.Run = Some (causes.Opaque m)
unwidened m other = None

-- an element has coordinates that aren't read, so it can't be moved
abbrev pub unmovable : ℕ → Class → Option Cause
unmovable m Class.Floating = Some (causes.Floating m)
unmovable m Class.Boxed = Some (causes.Opaque m)
unmovable m Class.Run = Some (causes.Opaque m)
unmovable m Class.Silent = Some (causes.Opaque m)
unmovable m read = None

-- an element has no look that can be changed
abbrev pub lookless : ℕ → Class → Option Cause
lookless m Class.Run = Some (causes.Opaque m)
lookless m Class.Silent = Some (causes.Opaque m)
lookless m other = None

-- an element of type 127, marked deleted, could begin with the mark that ends a file's elements
abbrev pub unmarkable : ℕ → ℕ → Option Cause
unmarkable m kind = if kind == END_MARK then Some (causes.Opaque m) else None

-- a coordinate would leave the design plane
abbrev pub off_plane : ℕ → Bool → Option Cause
off_plane m stays = if stays then None else Some (causes.OffPlane m)

-- what a test has against element m
abbrev pub cause_at : ℕ → Test → ℕ → Element → Option Cause
cause_at dim tests.NotDeleted m e = deleted m e
cause_at dim tests.Unlocked m e = locked m e.body
cause_at dim tests.Widens m e = unwidened m (class_of e.kind)
cause_at dim tests.Moves m e = unmovable m (class_of e.kind)
cause_at dim tests.Looks m e = lookless m (class_of e.kind)
cause_at dim tests.Marks m e = unmarkable m e.kind
cause_at dim (tests.StaysOnPlane by) m e = off_plane m (stays_on_plane dim by e)

-- what it has against the first of these elements against which it has something
abbrev pub first_cause : ℕ → Test → List Live → Option Cause
first_cause dim test [] = None
first_cause dim test (v ∷ vs) = option_or (cause_at dim test v.number v.element) (first_cause dim test vs)

-- the file would be longer than a design file may be
abbrev pub too_long : ℕ → Option Cause
too_long bytes = if nat_lt MOST_DESIGN bytes then Some causes.TooLong else None

-- how many bytes an edit appends: a copy as many as the part that it copies has
abbrev pub bytes_appended : List Element → Edit → ℕ
bytes_appended es (edit.Copy n by) = length (spelling (flat (tree_at n (forest row_of es))))
bytes_appended es (edit.Append new) = size_of (element_made new)
bytes_appended es other = 0

-- the first of some causes that stands
abbrev pub first_of : List (Option Cause) → Option Cause
first_of [] = None
first_of (c ∷ cs) = option_or c (first_of cs)

-- what keeps the part of element n from any edit, once there is such an element: its tree is broken, or it or a
-- header above it is marked deleted
abbrev pub part_cause : ℕ → List Element → ℕ → Option Cause
part_cause dim es n =
    option_or (broken (broken_in es (root_of row_of es n)))
    (first_cause dim tests.NotDeleted (path_to es n))

-- what is against an edit of the part of element n, in the order in which it is asked, once there is such an
-- element and nothing keeps it from any edit. `rest` is the number of bytes of the tail and of what is pending
abbrev pub causes_of : ℕ → List Element → ℕ → Edit → List (Option Cause)
causes_of dim es rest (edit.Move n by) =
    first_cause dim tests.Unlocked (above_tree es n ++ live_tree es n)
    ∷ other_axes dim by.axes
    ∷ first_cause dim tests.Widens (above_tree es n)
    ∷ first_cause dim tests.Moves (live_tree es n)
    ∷ first_cause dim (tests.StaysOnPlane by) (live_tree es n)
    ∷ []
causes_of dim es rest (edit.Copy n by) =
    other_axes dim by.axes
    ∷ first_cause dim tests.Moves (live_tree es n)
    ∷ first_cause dim (tests.StaysOnPlane by) (live_tree es n)
    ∷ too_long (length (spelling es) + rest + bytes_appended es (edit.Copy n by))
    ∷ []
causes_of dim es rest (edit.Sym n change) =
    first_cause dim tests.Unlocked (above_tree es n ++ live_tree es n)
    ∷ first_cause dim tests.Looks (live_tree es n)
    ∷ []
causes_of dim es rest (edit.Delete n) =
    first_cause dim tests.Unlocked (above_tree es n ++ live_tree es n)
    ∷ silent n (slice_get es n)
    ∷ first_cause dim tests.Marks (live_tree es n)
    ∷ []
causes_of dim es rest (edit.Append new) =
    other_axes dim new.axes
    ∷ too_long (length (spelling es) + rest + bytes_appended es (edit.Append new))
    ∷ []

-- the element whose part an edit changes or copies; an append has none
abbrev pub target_of : Edit → Option ℕ
target_of (edit.Move n by) = Some n
target_of (edit.Copy n by) = Some n
target_of (edit.Sym n change) = Some n
target_of (edit.Delete n) = Some n
target_of (edit.Append new) = None

-- what keeps that element from any edit: there is none, or its part is kept from them
abbrev pub target_cause : ℕ → List Element → Option ℕ → Option Cause
target_cause dim es (Some n) = option_or (unknown n es) (part_cause dim es n)
target_cause dim es None = None

-- the first cause of a refusal, if one stands
abbrev pub cause_of : ℕ → List Element → ℕ → Edit → Option Cause
cause_of dim es rest e = option_or (target_cause dim es (target_of e)) (first_of (causes_of dim es rest e))
