-- What is packed, applied to the same file, writes the file that `edit` writes.
use Rattle.std.proofs.Common.{◌≡◌, ◌≤◌, ℕ, List, length, Ok, ap, ◌∙◌, subst}
use Rattle.dgn_desk.specs.Content.{bytes_of}
use Rattle.dgn_drawing.specs.Spelling.{spelling}
use Rattle.elem_index.proofs.OpeningAnswers.{opens-opening}
use Rattle.patch_file.specs.Spelling.{Packed}
use Rattle.patch_file.specs.Reading.{patch_of}
use Rattle.patch_file.proofs.SpellingsRead.{patch_again}
use Rattle.dgn_answers.specs.Commands.{first_state}
use Rattle.dgn_tool.specs.Filling.{file_made}
use Rattle.dgn_listing.specs.NumberedLines.{numbered}
use Rattle.dgn_tool.specs.Ended.{Outcome, filed_then_said}
use Rattle.dgn_tool.specs.Packing.{packed_after}
use Rattle.dgn_tool.specs.Laws.{steps_of_files}
use Rattle.dgn_laws.specs.PatchLaws.{Applies, WritesTheSame}
use Rattle.dgn_tool.specs.declared.status.Status.TheVariants as statuses
use Rattle.std.specs.Prelude.{codes}
use Rattle.patch_file.specs.declared.limits.TheConstants.{MOST_PATCH}
use Rattle.dgn_laws.proofs.PatchesApplied.{applies_all}
use Rattle.dgn_laws.proofs.PackedAgain.{applied_gives_the_same}

pub writes_the_same : WritesTheSame
writes_the_same words files d cs seconds output a fits bytes =
    let es : List Packed = packed_after (steps_of_files cs seconds) (first_state d) in
    let again = applied_gives_the_same (bytes_of files a.input) d cs seconds (opens-opening (bytes_of files a.input) d a.bytes a.opens) a.few fits bytes in
    let short = subst (λ (f : List ℕ). length f ≤ MOST_PATCH) a.packed a.short in
    let reads : patch_of (bytes_of files a.patch) ≡ Ok es = ap patch_of a.packed ∙ patch_again es (again.entries short) in
    let so : Applies words files d es output = record {
      input = a.input;
      patch = a.patch;
      asked = a.asked;
      few = a.few;
      opens = a.opens;
      short = a.short;
      reads = reads;
    } in
    let made : List ℕ → Outcome =
    λ b. filed_then_said statuses.Done (numbered (codes "applied ") (length es)) output (file_made (length (spelling d.elements)) d.tail b) in
    applies_all words files d es output so again.stand again.fit ∙ ap made again.gives
