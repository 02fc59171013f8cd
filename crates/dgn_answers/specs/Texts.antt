-- What the commands of a script say of what they came to.
use Rattle.std.specs.Prelude.{ℕ, nat_lt, Bool, true, false, ◌||◌, if◌then◌else◌, Option, Some, None, List, length, slice_get, codes}
use Rattle.dgn_drawing.specs.Element.{Element}
use Rattle.dgn_session.specs.State as machine
use Rattle.dgn_listing.specs.CauseTexts.{cause_text}
use Rattle.dgn_listing.specs.LinkTexts.{links_text}
use Rattle.dgn_listing.specs.SelectedTexts.{selected_text}
use Rattle.dgn_listing.specs.TreeTexts.{tree_text}
use Rattle.dgn_listing.specs.NumberedLines.{numbered}
use Rattle.edit_ops.specs.Applying.{Applied, Done, Refused}
use Rattle.edit_ops.specs.declared.causes.cause.Cause.TheVariants as causes
use Rattle.plane_geom.specs.declared.pt.Pt.{Pt}

-- what `tree` says of element n
abbrev pub tree_said : List Element → ℕ → List ℕ
tree_said es n = if nat_lt n (length es) then tree_text es n else cause_text (causes.Unknown n)

-- what `links` says of element n
abbrev pub links_said_of : ℕ → Option Element → List ℕ
links_said_of n None = cause_text (causes.Unknown n)
links_said_of n (Some e) = links_text e

abbrev pub links_said : List Element → ℕ → List ℕ
links_said es n = links_said_of n (slice_get es n)

-- what is said of what an edit came to
abbrev pub edit_text : Applied → List ℕ
edit_text (Done made) = codes "ok\n"
edit_text (Refused cause) = cause_text cause

-- what is said of an undo that is refused, or is not
abbrev pub undo_text : Bool → List ℕ
undo_text refused = if refused then codes "refused nothing\n" else codes "ok\n"

-- what is said where a fence is wanted and none is set
abbrev pub no_fence_line : List ℕ
no_fence_line = codes "refused no-fence\n"

-- what is said of what an edit of these roots came to, where a fence chose them
abbrev pub fence_edit_text : Option Applied → Option (List ℕ) → List ℕ
fence_edit_text (Some (Done made)) (Some ns) = numbered (codes "ok ") (length ns)
fence_edit_text (Some (Refused cause)) ns = cause_text cause
fence_edit_text applied ns = no_fence_line

-- and whether it is refused
abbrev pub fenced_refused : Option Applied → Bool
fenced_refused None = true
fenced_refused (Some applied) = machine.is_refused applied

-- what `select` says of the roots that a fence chose
abbrev pub selection_text : Option (List ℕ) → List ℕ
selection_text None = no_fence_line
selection_text (Some ns) = selected_text ns

abbrev pub selection_refused : Option (List ℕ) → Bool
selection_refused None = true
selection_refused (Some ns) = false

-- a fence has 3 corners at least and 256 at most
abbrev pub has_few : List Pt → Bool
has_few corners = nat_lt (length corners) 3

abbrev pub has_many : List Pt → Bool
has_many corners = nat_lt 256 (length corners)

-- what `fence` says with these corners
abbrev pub fence_text : List Pt → List ℕ
fence_text corners = if has_few corners then codes "refused few\n" else if has_many corners then codes "refused many\n" else codes "ok\n"

abbrev pub fence_refused : List Pt → Bool
fence_refused corners = has_few corners || has_many corners

-- how many trees an edit of all that a fence chooses has changed or copied, where it is done
abbrev pub trees_edited : Option Applied → Option (List ℕ) → ℕ
trees_edited (Some (Done made)) (Some ns) = length ns
trees_edited applied ns = 0
