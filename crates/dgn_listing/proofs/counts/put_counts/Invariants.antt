use Rattle.patch_bytes.proofs.Loops.{HasWritten}
use Rattle.dgn_listing.specs.Counts.{count_line}
use Rattle.dgn_listing.proofs.counts.put_counts.Given as goal

abbrev pub invariant-loop-i : goal.invariant-loop-i
invariant-loop-i l = HasWritten (count_line l.word) l.counts.entries l.i l.fn.out.items l.out.items
