use Rattle.std.proofs.Common.{refl}
use Rattle.patch_bytes.proofs.Loops.{among, one_more, all_written}
use Rattle.dgn_listing.proofs.items.put_chars.Goals as goal

pub returns-in_err-put_char : goal.returns-in_err-put_char
returns-in_err-put_char c = among 0 c.loop-char.invariant c.loop-char-test.true refl c.in_err-put_char.ensures c.from_residual.ensures.0

pub loop-char-preserved : goal.loop-char-preserved
loop-char-preserved c = one_more 0 c.loop-char.invariant c.loop-char-test.true refl c.in_ok-put_char.ensures

pub returns : goal.returns
returns c = all_written c.loop-char.invariant c.loop-char-test.false
