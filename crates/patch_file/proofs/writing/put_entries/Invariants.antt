use Rattle.patch_bytes.proofs.Loops.{HasWritten}
use Rattle.patch_file.proofs.WrittenPieces.{spelling_of_entry}
use Rattle.patch_file.proofs.writing.put_entries.Given as goal

abbrev pub invariant-loop-entry : goal.invariant-loop-entry
invariant-loop-entry l = HasWritten spelling_of_entry l.entries l.entry-index l.fn.out.items l.out.items
