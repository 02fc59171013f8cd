use Rattle.std.proofs.Common.{arith}
use Rattle.patch_bytes.proofs.PatchEquality.{puts_tell}
use Rattle.patch_bytes.proofs.laws.puts_tell.Goals as goal

pub returns : goal.returns
returns c = puts_tell c.args.p c.args.q (omega arith) (omega arith)
