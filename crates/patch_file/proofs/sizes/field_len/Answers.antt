use Rattle.std.proofs.Common.{arith, length-take}
use Rattle.patch_file.specs.FieldView.{exchange_of}
use Rattle.patch_file.proofs.Lengths.{length-field}
use Rattle.patch_file.proofs.sizes.field_len.Goals as goal

pub returns : goal.returns
returns c =
    let f = c.args.field in
    omega (arith, length-field (exchange_of f), length-take f.len f.was, length-take f.len f.put)
