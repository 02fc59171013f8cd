-- What `pack` comes to: the patch file of the edits that a run leaves.
use Rattle.std.specs.Prelude.{ℕ, ◌≡◌, nat_lt, if◌then◌else◌, List, [], ◌∷◌, ◌++◌, length, map, codes}
use Rattle.dgn_drawing.specs.Spelling.{spelling}
use Rattle.undo_log.specs.declared.entry.Entry.{Entry}
use Rattle.undo_log.specs.Entries.{back}
use Rattle.patch_file.specs.Spelling.{Packed, patch_spelling}
use Rattle.patch_file.specs.Standing.{taken_of}
use Rattle.elem_index.specs.Opened.{Opened}
use Rattle.dgn_session.specs.State.{State, SessionValue}
use Rattle.dgn_answers.specs.Remaining.{RemainingEdit}
use Rattle.dgn_answers.specs.Commands.{first_state}
use Rattle.dgn_answers.specs.Steps.{Step, refused_count, remaining}
use Rattle.dgn_answers.specs.Logs.{entry_made}
use Rattle.dgn_tool.specs.Ended.{Outcome, ended, filed_then_said}
use Rattle.dgn_tool.specs.Ended.{status_with}
use Rattle.dgn_listing.specs.NumberedLines.{numbered}
use Rattle.dgn_tool.specs.declared.status.Status.TheVariants as statuses
use Rattle.patch_file.specs.declared.limits.TheConstants.{MOST_PATCH}

-- its packed entry: that, with the bytes that it put there, and those that it appended
abbrev pub packed_made : ℕ → RemainingEdit → Packed
packed_made dim m = taken_of (spelling m.made) (entry_made dim m)

-- those of all edits that the steps leave, in order
abbrev pub packed_after : List Step → State → List Packed
packed_after gs s = map (packed_made s.dim) (remaining gs s)

-- the patch file of entries is written, and it is said how many there are; so many steps were refused
abbrev pub filed_patch : List Packed → ℕ → List ℕ → Outcome
filed_patch es refused patch = filed_then_said (status_with refused) (numbered (codes "entries ") (length es)) patch (patch_spelling es)

-- where it isn't too long; the texts of the steps aren't said
abbrev pub packed_from : State → List Step → List ℕ → Outcome
packed_from s gs patch =
    if nat_lt MOST_PATCH (length (patch_spelling (packed_after gs s))) then ended statuses.TooLong (codes "too long patch\n")
    else filed_patch (packed_after gs s) (refused_count gs s) patch

-- and on a drawing
abbrev pub packed : Opened → List Step → List ℕ → Outcome
packed d gs patch = packed_from (first_state d) gs patch

-- the last entry was taken off a log and written back, and this is what it took back
pub record TakesLast (old new : SessionValue) (taken : Packed) : Type 0 where
  pub last : Entry
  pub dropped : old.entries ≡ new.entries ++ last ∷ []
  pub body : new.body ≡ back old.body last
  pub is : taken ≡ taken_of old.body last
