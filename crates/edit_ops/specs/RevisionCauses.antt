-- Why a revision is refused, in the order in which it is asked. Of each cause that an element can have, the least number
-- decides.
use Rattle.std.specs.Prelude.{ℕ, ◌+◌, ◌==◌, nat_lt, Bool, true, false, if◌then◌else◌, List, [], ◌∷◌, ◌++◌, length, filter, slice_get, option_map, Option, Some, None}
use Rattle.std.specs.Option.{option_or}
use Rattle.dgn_layout.specs.declared.types.Class.{Class}
use Rattle.dgn_layout.specs.Classes.{class_of}
use Rattle.dgn_drawing.specs.Element.{Element}
use Rattle.dgn_drawing.specs.Spelling.{spelling}
use Rattle.dgn_drawing.specs.Rows.{row_of}
use Rattle.dgn_drawing.specs.Numbering.{root_of}
use Rattle.dgn_revision.specs.declared.revision.Revision.{Revision}
use Rattle.dgn_revision.specs.declared.revision.Revision.TheVariants as revision
use Rattle.dgn_revision.specs.Revising.{longer_size, row_of_points}
use Rattle.edit_ops.specs.declared.causes.cause.Cause.{Cause}
use Rattle.edit_ops.specs.declared.causes.cause.Cause.TheVariants as causes
use Rattle.edit_ops.specs.declared.causes.revise_cause.ReviseCause.{ReviseCause}
use Rattle.edit_ops.specs.declared.causes.revise_cause.ReviseCause.TheVariants as revise
use Rattle.edit_ops.specs.declared.causes.test.Test.TheVariants as tests
use Rattle.edit_ops.specs.Trees.{Live, Every, reached, live_tree, above_tree, path_to}
use Rattle.edit_ops.specs.Causes.{unknown, broken, broken_in, silent, other_axes, too_long, first_cause}
use Rattle.edit_ops.specs.RevisionRules.{has_room, made_behind}

-- a cause that edits have too
abbrev pub given : Option Cause → Option ReviseCause
given c = option_map revise.Given c

-- the tree that holds element n has a broken number
abbrev pub broken_at : List Element → ℕ → Option Cause
broken_at es n = broken (broken_in es (root_of row_of es n))

-- element n isn't of that type, so it has nothing that could be changed
abbrev pub unlike : ℕ → ℕ → Option Element → Option Cause
unlike n kind (Some e) = if e.kind == kind then None else Some (causes.Opaque n)
unlike n kind None = None

-- element n has no row of points that is read
abbrev pub unpointed_in : ℕ → Class → Option Cause
unpointed_in n Class.Vertices = None
unpointed_in n Class.Floating = Some (causes.Floating n)
unpointed_in n other = Some (causes.Opaque n)

abbrev pub unpointed : ℕ → Option Element → Option Cause
unpointed n (Some e) = unpointed_in n (class_of e.kind)
unpointed n None = None

-- element n, the headers above it and its part
abbrev pub whole_line : List Element → ℕ → List Live
whole_line es n = above_tree es n ++ reached Every es n

-- those of some elements that are marked deleted
abbrev pub marked_of : List Live → List Live
marked_of vs = filter (λ v. v.element.deleted) vs

-- nothing is marked deleted
abbrev pub all_live : ℕ → List Live → Option ReviseCause
all_live n [] = Some (revise.Live n)
all_live n (v ∷ vs) = None

-- element n hasn't so many points
abbrev pub no_vertex : ℕ → ℕ → Option Element → Option ReviseCause
no_vertex n index (Some e) = if nat_lt (length (row_of_points e.body)) index then Some (revise.NoVertex n) else None
no_vertex n index None = None

-- an element can have no more bytes: as many words as a word says, behind two
abbrev pub MOST_ELEMENT : ℕ
MOST_ELEMENT = 131074

-- the characters have no room in text n, which belongs to a header, or the text that would be made has more bytes than an
-- element can have
abbrev pub no_room : ℕ → List Live → List ℕ → ℕ → Option Element → Option ReviseCause
no_room dim above chars n (Some e) =
    if has_room dim chars (Some e) then None
    else if nat_lt 0 (length above) then Some (revise.NoRoom n)
    else if nat_lt MOST_ELEMENT (longer_size dim (length chars) e) then Some (revise.NoRoom n) else None
no_room dim above chars n None = None

-- the file would be longer than a design file may be with what a revision makes behind it
abbrev pub too_long_with : List Element → ℕ → List Element → Option Cause
too_long_with es rest [] = None
too_long_with es rest (e ∷ more) = too_long (length (spelling es) + rest + length (spelling (e ∷ more)))

-- what is against a revision of element n, which there is. `rest` is the number of bytes of the tail and of what is pending
abbrev pub revision_causes : ℕ → List Element → ℕ → ℕ → Revision → List (Option ReviseCause)
revision_causes dim es rest n (revision.Relevel level) =
    given (broken_at es n)
    ∷ given (first_cause dim tests.NotDeleted (path_to es n))
    ∷ given (first_cause dim tests.Unlocked (above_tree es n ++ live_tree es n))
    ∷ given (silent n (slice_get es n))
    ∷ []
revision_causes dim es rest n revision.Lock = given (first_cause dim tests.NotDeleted (path_to es n)) ∷ given (silent n (slice_get es n)) ∷ []
revision_causes dim es rest n revision.Unlock = given (first_cause dim tests.NotDeleted (path_to es n)) ∷ given (silent n (slice_get es n)) ∷ []
revision_causes dim es rest n revision.Undelete =
    given (broken_at es n)
    ∷ given (first_cause dim tests.Unlocked (above_tree es n ++ marked_of (reached Every es n)))
    ∷ all_live n (marked_of (whole_line es n))
    ∷ []
revision_causes dim es rest n (revision.Rename name) =
    given (broken_at es n)
    ∷ given (first_cause dim tests.NotDeleted (path_to es n))
    ∷ given (first_cause dim tests.Unlocked (path_to es n))
    ∷ given (unlike n 2 (slice_get es n))
    ∷ []
revision_causes dim es rest n (revision.Retext chars) =
    given (broken_at es n)
    ∷ given (first_cause dim tests.NotDeleted (path_to es n))
    ∷ given (first_cause dim tests.Unlocked (path_to es n))
    ∷ given (unlike n 17 (slice_get es n))
    ∷ no_room dim (above_tree es n) chars n (slice_get es n)
    ∷ given (too_long_with es rest (made_behind dim es n (revision.Retext chars)))
    ∷ []
revision_causes dim es rest n (revision.Vertex index point axes) =
    given (broken_at es n)
    ∷ given (first_cause dim tests.NotDeleted (path_to es n))
    ∷ given (first_cause dim tests.Unlocked (path_to es n))
    ∷ given (first_cause dim tests.Widens (above_tree es n))
    ∷ given (unpointed n (slice_get es n))
    ∷ given (other_axes dim axes)
    ∷ no_vertex n index (slice_get es n)
    ∷ []

-- the first of some causes that stands
abbrev pub first_standing : List (Option ReviseCause) → Option ReviseCause
first_standing [] = None
first_standing (c ∷ cs) = option_or c (first_standing cs)

-- the first cause of a refusal, if one stands
abbrev pub revise_cause : ℕ → List Element → ℕ → ℕ → Revision → Option ReviseCause
revise_cause dim es rest n r = option_or (given (unknown n es)) (first_standing (revision_causes dim es rest n r))
