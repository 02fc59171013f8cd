use Rattle.patch_bytes.proofs.Loops.{HasWritten}
use Rattle.dgn_listing.specs.ItemTexts.{next_point_text}
use Rattle.dgn_listing.proofs.items.put_points.Given as goal

abbrev pub invariant-loop-point : goal.invariant-loop-point
invariant-loop-point l = HasWritten (next_point_text l.axes) l.points l.point-index l.fn.out.items l.out.items
