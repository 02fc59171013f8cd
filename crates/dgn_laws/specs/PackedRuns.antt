-- What holds of a run of `pack` and a run of `apply` behind it, over desks that tell what they hold, by the clauses `outcome` and
-- `bytes` of `run` alone, the contract of a function in `laws`.
use Rattle.std.specs.Prelude.{ℕ, ◌≡◌, ◌≤◌, List, length, codes, Option, Some, Ok, IfSome}
use Rattle.dgn_desk.specs.Content.{Files, Content, bytes_of}
use Rattle.dgn_drawing.specs.Opening.{Opens}
use Rattle.dgn_drawing.specs.Spelling.{spelling}
use Rattle.dgn_drawing.specs.declared.command.Command.{Command}
use Rattle.dgn_drawing.specs.declared.limits.TheConstants.{MOST_DESIGN}
use Rattle.edit_script.specs.Script.{commands_of}
use Rattle.elem_index.specs.Opened.{Opened, opening}
use Rattle.patch_file.specs.Spelling.{Packed, patch_spelling}
use Rattle.dgn_listing.specs.NumberedLines.{numbered}
use Rattle.dgn_answers.specs.Commands.{first_state}
use Rattle.dgn_tool.specs.Ended.{Outcome, filed_then_said}
use Rattle.dgn_tool.specs.Leaving.{Leaves}
use Rattle.dgn_tool.specs.Request.{Pack, Apply, request_of}
use Rattle.dgn_tool.specs.declared.status.Status.{Status}
use Rattle.dgn_tool.specs.declared.status.Status.TheVariants as statuses
use Rattle.dgn_tool.specs.FileAfter.{file_after}
use Rattle.dgn_tool.specs.EditedRuns.{HasWritten, steps_with}
use Rattle.dgn_tool.specs.Outcome.{outcome, EndsAs, IsEnding, FilesInBytes}
use Rattle.dgn_tool.specs.Packing.{packed_after}
use Rattle.dgn_laws.specs.PatchLaws.{DiffersAt, refused_at}

-- what a run of `apply` comes to that writes the file which `edit` would have written, and says how many entries there were
abbrev pub as_edited : Opened → List Command → Files → List ℕ → Outcome
as_edited d cs files output =
    filed_then_said statuses.Done (numbered (codes "applied ") (length (packed_after (steps_with files cs) (first_state d)))) output
    (file_after (first_state d) d.tail (steps_with files cs))

-- the drawing of these bytes is within the limit and differs from what entry k of these wants, and from no entry's before it
pub record Differs (bytes : List ℕ) (es : List Packed) (k : ℕ) : Type 0 where
  pub drawing : Opened
  pub few : length bytes ≤ MOST_DESIGN
  pub opens : opening bytes ≡ Ok drawing
  pub at : DiffersAt (length drawing.tail) (spelling drawing.elements) es k

-- a run packed what SCRIPT does to IN, before it there were these files and behind it this was held; then a run applied that to a
-- drawing, and ended so. The patch file has the entries of the edits that remain. Applied to a drawing of the same bytes as IN, the
-- second run wrote the very file that `edit` would have written; and on any drawing it refused entry k exactly where that is the
-- first that differs.
pub record AppliesPacked (input script patch other output : List ℕ) (files : Files) (mid : Content) (status : Status) (now : Option Content) : Type 0 where
  pub drawing : Opened
  pub commands : List Command
  pub opens : Opens (bytes_of files input) drawing.dim drawing.elements drawing.tail
  pub reads : commands_of (bytes_of files script) ≡ Ok commands
  pub packs : bytes_of mid.files patch ≡ patch_spelling (packed_after (steps_with files commands) (first_state drawing))
  pub same : bytes_of mid.files other ≡ bytes_of files input → Leaves (as_edited drawing commands files output) status mid now
  pub differs : (k : ℕ) → Differs (bytes_of mid.files other) (packed_after (steps_with files commands) (first_state drawing)) k
      → Leaves (refused_at k) status mid now
  pub only : status ≡ statuses.PatchRefused
      → (k : ℕ) × Differs (bytes_of mid.files other) (packed_after (steps_with files commands) (first_state drawing)) k × Leaves (refused_at k) status mid now

-- the clauses `outcome` and `bytes` of a run
pub record RanSo (words : List (List ℕ)) (status : Status) (old now : Option Content) : Type 0 where
  pub outcome_is : EndsAs status (outcome words) old now
  pub bytes : IsEnding status → IfSome old (λ c. FilesInBytes (request_of words) c.files)

abbrev pub PackedRunsApply : Type 0
PackedRunsApply =
    (pack apply : List (List ℕ)) (input script patch other output : List ℕ) (packed applied : Status) (old mid now : Option Content)
    → request_of pack ≡ Some (Pack input script patch) → RanSo pack packed old mid → HasWritten packed
    → request_of apply ≡ Some (Apply other patch output) → RanSo apply applied mid now → IsEnding applied
    → IfSome old (λ c. IfSome mid (λ m. AppliesPacked input script patch other output c.files m applied now))
