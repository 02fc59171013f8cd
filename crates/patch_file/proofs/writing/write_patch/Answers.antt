use Rattle.std.proofs.Common.{◌≡◌, ◌++◌, length, arith}
use Rattle.std.specs.List.{flat_map}
use Rattle.std.proofs.lemmas.List.{length-map}
use Rattle.patch_file.specs.Spelling.{mark, number, entry_spelling}
use Rattle.patch_file.specs.PatchView.{packed_of, all_packed}
use Rattle.patch_bytes.proofs.Fronts.{next, stopped, as_text, as_old}
use Rattle.patch_file.proofs.Lengths.{few_entries, short_appends}
use Rattle.patch_file.proofs.writing.write_patch.Goals as goal
use Rattle.patch_file.specs.declared.limits.TheConstants.{MOST_PATCH}

pub put_entries-requires : goal.put_entries-requires
put_entries-requires c = short_appends c.args.entries.now MOST_PATCH (omega arith) c.requires

pub overflow_cast-entries : goal.overflow_cast-entries
overflow_cast-entries c =
    let few = few_entries c.args.entries.now MOST_PATCH c.requires in
    record { fits = omega arith }

pub returns-in_err-put_bytes : goal.returns-in_err-put_bytes
returns-in_err-put_bytes c =
    as_old (stopped {a = mark} (number (length (all_packed c.args.entries.now)) ++ flat_map entry_spelling (all_packed c.args.entries.now))
    c.in_err-put_bytes.ensures c.from_residual-in_err-put_bytes.ensures.0) c.in_ok-reserve_exact.ensures.items

pub returns-in_err-put_number : goal.returns-in_err-put_number
returns-in_err-put_number c =
    let count : length (all_packed c.args.entries.now) ≡ length c.args.entries.now = length-map c.args.entries.now packed_of in
    as_text (as_old (next {a = mark} c.in_ok-put_bytes.ensures (stopped (flat_map entry_spelling (all_packed c.args.entries.now))
    c.in_err-put_number.ensures c.from_residual-in_err-put_number.ensures.0)) c.in_ok-reserve_exact.ensures.items) (cc)

pub returns : goal.returns
returns c =
    let count : length (all_packed c.args.entries.now) ≡ length c.args.entries.now = length-map c.args.entries.now packed_of in
    as_text (as_old (next {a = mark} c.in_ok-put_bytes.ensures (next c.in_ok-put_number.ensures c.put_entries.ensures))
    c.in_ok-reserve_exact.ensures.items) (cc)
