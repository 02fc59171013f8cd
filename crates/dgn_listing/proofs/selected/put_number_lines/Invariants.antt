use Rattle.patch_bytes.proofs.Loops.{HasWritten}
use Rattle.dgn_listing.specs.SelectedTexts.{number_line}
use Rattle.dgn_listing.proofs.selected.put_number_lines.Given as goal

abbrev pub invariant-loop-n : goal.invariant-loop-n
invariant-loop-n l = HasWritten number_line l.numbers l.n-index l.fn.out.items l.out.items
