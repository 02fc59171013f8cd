use Rattle.std.proofs.Common.{ℕ, List, ◌+◌, length, min, ap, sym, ◌∙◌}
use Rattle.std.specs.List.{flat_map}
use Rattle.std.proofs.lemmas.List.{take_all}
use Rattle.patch_file.specs.declared.patch_entry.PatchEntry.{PatchEntry}
use Rattle.patch_file.specs.Spelling.{entry_spelling}
use Rattle.patch_file.specs.PatchView.{all_packed}
use Rattle.patch_file.proofs.Lengths.{length-patch}
use Rattle.patch_file.proofs.sizes.patch_len.Goals as goal

pub returns : goal.returns
returns c =
    c.loop-entry.invariant
    ∙ ap (λ (l : List PatchEntry). min (12 + length (flat_map entry_spelling (all_packed l))) 18446744073709551615)
    (take_all c.loop-entry.entry-index c.args.entries.now c.loop-entry-test.false)
    ∙ ap (λ (k : ℕ). min k 18446744073709551615) (sym (length-patch (all_packed c.args.entries.now)))
