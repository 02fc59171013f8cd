use Rattle.std.proofs.Common.{arith}
use Rattle.patch_file.proofs.FieldEquality.{exchanges_tell}
use Rattle.patch_file.proofs.laws.exchanges_tell.Goals as goal

pub returns : goal.returns
returns c = exchanges_tell c.args.f c.args.g (omega arith) (omega arith)
