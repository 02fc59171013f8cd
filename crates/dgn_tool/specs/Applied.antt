-- What a patch file comes to on a drawing: its entries are put on the drawing's elements, one after the other.
use Rattle.std.specs.Prelude.{ℕ, ◌≡◌, ◌≤◌, ◌+◌, ◌==◌, ◌&&◌, nat_lt, not, Bool, if◌then◌else◌, List, [], ◌∷◌, length, take, drop, codes, Result, Ok, Err}
use Rattle.std.specs.List.{list_all}
use Rattle.std.specs.Str.{bytes_eq}
use Rattle.dgn_drawing.specs.Spelling.{spelling}
use Rattle.elem_index.specs.Opened.{Opened}
use Rattle.patch_file.specs.Exchanges.{Exchange}
use Rattle.patch_file.specs.Spelling.{Packed}
use Rattle.patch_file.specs.Standing.{put_on}
use Rattle.dgn_tool.specs.Filling.{file_made}
use Rattle.dgn_listing.specs.NumberedLines.{numbered}
use Rattle.dgn_tool.specs.Ended.{Outcome, ended, filed_then_said}
use Rattle.dgn_tool.specs.declared.put_end.PutEnd.{PutEnd}
use Rattle.dgn_tool.specs.declared.put_end.PutEnd.TheVariants as ends
use Rattle.dgn_tool.specs.declared.status.Status.TheVariants as statuses
use Rattle.dgn_drawing.specs.declared.limits.TheConstants.{MOST_DESIGN}

-- whether the field's old bytes stand at its place
abbrev pub holds_old : List ℕ → Exchange → Bool
holds_old b f = bytes_eq (take (length f.was) (drop f.at b)) f.was

-- whether the entry stands on the body
abbrev pub does_stand : List ℕ → Packed → Bool
does_stand b e = length b == e.len && list_all (holds_old b) e.fields

-- what entries make of a body: the body after the last of them, or the number of the first that doesn't stand, or a
-- drawing that is too long
pub data Patched : Type 0 where
  Made : List ℕ → Patched
  Differs : ℕ → Patched
  Overruns : Patched

-- put on in order, the first of them being number k, before a tail of so many bytes
abbrev pub put_from : ℕ → ℕ → List ℕ → List Packed → Patched
put_from tail k b [] = Made b
put_from tail k b (e ∷ es) =
    if not (does_stand b e) then Differs k
    else if nat_lt MOST_DESIGN (length (put_on b e) + tail) then Overruns
    else put_from tail (k + 1) (put_on b e) es

-- what a run comes to with that, of so many entries, where the elements had so many bytes before
abbrev pub patched_outcome : ℕ → List ℕ → ℕ → Patched → List ℕ → Outcome
patched_outcome before tail count (Made b) output = filed_then_said statuses.Done (numbered (codes "applied ") count) output (file_made before tail b)
patched_outcome before tail count (Differs k) output = ended statuses.PatchRefused (numbered (codes "refused entry ") k)
patched_outcome before tail count Overruns output = ended statuses.TooLong (codes "too long design\n")

-- what entries come to on a body with this tail
abbrev pub entries_outcome : List ℕ → List ℕ → List Packed → List ℕ → Outcome
entries_outcome b tail es output = patched_outcome (length b) tail (length es) (put_from (length tail) 1 b es) output

-- and on a drawing
abbrev pub patched : Opened → List Packed → List ℕ → Outcome
patched d es output = entries_outcome (spelling d.elements) d.tail es output

-- what each of the entries makes, put on in order, keeps the limit of a design file with a tail of so many bytes
abbrev pub AllFit : ℕ → List ℕ → List Packed → Type 0
AllFit tail b [] = Unit {0}
AllFit tail b (e ∷ es) = (length (put_on b e) + tail ≤ MOST_DESIGN) × AllFit tail (put_on b e) es

-- what a call that puts entries on a body answers, and leaves
abbrev pub Puts : Result (Unit {0}) PutEnd → Patched → List ℕ → Type 0
Puts (Ok x) made now = made ≡ Made now
Puts (Err (ends.Refused number)) made now = made ≡ Differs number
Puts (Err ends.TooLong) made now = made ≡ Overruns
Puts (Err ends.Memory) made now = Unit {0}
