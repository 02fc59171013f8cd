use Rattle.patch_bytes.proofs.Loops.{HasWritten}
use Rattle.dgn_listing.specs.ItemTexts.{char_text}
use Rattle.dgn_listing.proofs.items.put_chars.Given as goal

abbrev pub invariant-loop-char : goal.invariant-loop-char
invariant-loop-char l = HasWritten char_text l.chars l.char-index l.fn.out.items l.out.items
