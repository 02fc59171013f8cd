use Rattle.std.proofs.Common.{ℕ, List, ◌≡◌, ◌+◌, length, map, take, min, ap, sym, ◌∙◌}
use Rattle.std.specs.List.{flat_map}
use Rattle.std.proofs.lemmas.List.{take_all}
use Rattle.patch_file.specs.declared.field.Field.{Field}
use Rattle.patch_file.specs.Exchanges.{Exchange}
use Rattle.patch_file.specs.FieldView.{exchange_of}
use Rattle.patch_file.specs.Spelling.{field_spelling}
use Rattle.patch_file.specs.PatchView.{packed_of}
use Rattle.patch_file.proofs.Lengths.{length-entry, capped}
use Rattle.patch_file.proofs.sizes.entry_len.Goals as goal

-- all fields are counted, and the appended bytes come to them
pub returns : goal.returns
returns c =
    let e = c.args.e.now in
    let items : List Field = c.as_slice-field-items.result.now in
    let whole : length (flat_map field_spelling (map exchange_of (take c.loop-field.field-index items))) ≡ length (flat_map field_spelling e.fields) =
    ap (λ (l : List Field). length (flat_map field_spelling (map exchange_of l))) (take_all c.loop-field.field-index items c.loop-field-test.false)
    ∙ ap (λ (l : List Exchange). length (flat_map field_spelling l)) c.as_slice-field-items.ensures in
    c.saturating_add.ensures
    ∙ ap (λ (k : ℕ). min (c.loop-field.len + k) 18446744073709551615) c.len.ensures
    ∙ capped c.loop-field.len (length e.append) (12 + length (flat_map field_spelling (map exchange_of (take c.loop-field.field-index items))))
    18446744073709551615 c.loop-field.invariant
    ∙ ap (λ (k : ℕ). min (12 + k + length e.append) 18446744073709551615) whole
    ∙ ap (λ (k : ℕ). min k 18446744073709551615) (sym (length-entry (packed_of e)))
