use Rattle.patch_bytes.proofs.Loops.{HasWritten}
use Rattle.patch_file.proofs.WrittenPieces.{spelling_of_field}
use Rattle.patch_file.proofs.writing.put_fields.Given as goal

abbrev pub invariant-loop-field : goal.invariant-loop-field
invariant-loop-field l = HasWritten spelling_of_field l.fields l.field-index l.fn.out.items l.out.items
