use Rattle.patch_file.specs.PatchView.{packed_of}
use Rattle.patch_file.specs.Spelling.{entry_spelling}
use Rattle.patch_bytes.proofs.Fronts.{as_text}
use Rattle.patch_bytes.proofs.Loops.{among, all_written}
use Rattle.patch_file.proofs.WrittenPieces.{viewed}
use Rattle.patch_file.proofs.writing.put_entries.Goals as goal

pub returns-in_err-put_entry : goal.returns-in_err-put_entry
returns-in_err-put_entry c =
    as_text (among _ c.loop-entry.invariant c.loop-entry-test.true c.entry-item.is c.in_err-put_entry.ensures c.from_residual.ensures.0)
    (viewed entry_spelling packed_of c.args.entries.now)

pub returns : goal.returns
returns c = as_text (all_written c.loop-entry.invariant c.loop-entry-test.false) (viewed entry_spelling packed_of c.args.entries.now)
