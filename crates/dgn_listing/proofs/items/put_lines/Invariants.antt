use Rattle.patch_bytes.proofs.Loops.{HasWritten}
use Rattle.dgn_listing.specs.ItemTexts.{item_text}
use Rattle.dgn_listing.proofs.items.put_lines.Given as goal

abbrev pub invariant-loop-item : goal.invariant-loop-item
invariant-loop-item l = HasWritten item_text l.items l.item-index l.fn.out.items l.out.items
