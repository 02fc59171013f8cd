use Rattle.patch_bytes.proofs.Loops.{HasWritten}
use Rattle.dgn_listing.specs.Lines.{field_text}
use Rattle.dgn_listing.proofs.pieces.put_fields.Given as goal

abbrev pub invariant-loop-n : goal.invariant-loop-n
invariant-loop-n l = HasWritten field_text l.numbers l.n-index l.fn.out.items l.out.items
