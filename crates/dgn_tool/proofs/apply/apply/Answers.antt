use Rattle.std.proofs.Common.{◌≡◌, List, ℕ, Ok, ap, sym, ◌∙◌}
use Rattle.dgn_desk.specs.Content.{Files}
use Rattle.elem_index.specs.Answers.{opened_of}
use Rattle.elem_index.specs.Opened.{Opened}
use Rattle.patch_file.specs.PatchView.{all_packed}
use Rattle.patch_file.specs.declared.patch_entry.PatchEntry.{PatchEntry}
use Rattle.dgn_tool.specs.Applied.{entries_outcome, patched}
use Rattle.dgn_tool.specs.Ended.{Outcome}
use Rattle.dgn_tool.specs.Inputs.{drawing_in, entries_in}
use Rattle.dgn_tool.specs.Readings.{Reading, at_once, ◌>>=◌}
use Rattle.dgn_tool.proofs.PatchOutcomes.{patched_as}
use Rattle.dgn_tool.proofs.ReadingsInTurn.{run_ends_first, run_then_ends, run_comes}
use Rattle.dgn_tool.proofs.RunParts.{named_so}
use Rattle.dgn_tool.proofs.apply.apply.Goals as goal

-- what is read behind IN
abbrev behind_input : List ℕ → List ℕ → Files → Opened → Reading Outcome
behind_input patch output files d = entries_in files patch >>= λ es. at_once (Ok (patched d es output))

pub returns-in-Err : goal.returns-in-Err
returns-in-Err g c =
    run_ends_first (λ files. drawing_in files c.args.input.now) (behind_input c.args.patch.now c.args.output.now) c.in-Err.end _ _ c.in-Err.ensures.read

pub returns-in-Err-read_entries : goal.returns-in-Err-read_entries
returns-in-Err-read_entries g c =
    let patch = c.args.patch.now in
    let output = c.args.output.now in
    let d = opened_of c.in-Ok.design in
    let end = c.in-Err-read_entries.end in
    run_then_ends (λ files. drawing_in files c.args.input.now) (behind_input patch output) d end _ _ _ c.in-Ok.ensures.read
    (run_ends_first (λ files. entries_in files patch) (λ _ es. at_once (Ok (patched d es output))) end _ _ c.in-Err-read_entries.ensures.read)

pub returns-in-Ok-read_entries : goal.returns-in-Ok-read_entries
returns-in-Ok-read_entries g c =
    let patch = c.args.patch.now in
    let output = c.args.output.now in
    let design = c.in-Ok.design in
    let d = opened_of design in
    let es = all_packed c.in-Ok-read_entries.entries.items in
    let end = c.of.result in
    let tail_is : c.deref.result.now ≡ design.tail.items = c.deref.ensures.value in
    let entries_are : c.deref-in-Ok-read_entries.result.now ≡ c.in-Ok-read_entries.entries.items = c.deref-in-Ok-read_entries.ensures.value in
    let o = patched_as design es output c.in-Ok.ensures.whole
    ∙ ap (λ (t : List ℕ). entries_outcome design.body.items t es output) (sym tail_is)
    ∙ ap (λ (l : List PatchEntry). entries_outcome design.body.items c.deref.result.now (all_packed l) output) (sym entries_are) in
    run_then_ends (λ files. drawing_in files c.args.input.now) (behind_input patch output) d end _ _ _ c.in-Ok.ensures.read
    (run_comes (λ files. entries_in files patch) (λ ps. patched d ps output) es c.apply_entries.result end _ _ _ c.in-Ok-read_entries.ensures.read c.of.ensures
    (named_so (patched d es output) _ c.apply_entries.result _ _ o c.apply_entries.ensures))
