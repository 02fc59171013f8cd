use Rattle.std.proofs.Common.{◌≡◌, ◌++◌, length, take, arith, length-take}
use Rattle.patch_bytes.proofs.Fronts.{next, stopped, as_text}
use Rattle.patch_file.proofs.writing.put_field.Goals as goal

pub returns-in_err-put_bytes : goal.returns-in_err-put_bytes
returns-in_err-put_bytes c =
    let f = c.args.field.now in
    let long : f.len ≡ length (take f.len f.was) = omega (arith, length-take f.len f.was) in
    as_text (next c.in_ok-put_number.ensures (stopped (take f.len f.was ++ take f.len f.put) c.in_err-put_bytes.ensures
    c.from_residual-in_err-put_bytes.ensures.0)) (cc)

pub returns-in_err-put_bytes-2 : goal.returns-in_err-put_bytes-2
returns-in_err-put_bytes-2 c =
    let f = c.args.field.now in
    let long : f.len ≡ length (take f.len f.was) = omega (arith, length-take f.len f.was) in
    as_text (next c.in_ok-put_number.ensures (next c.in_ok-put_bytes.ensures (stopped (take f.len f.put) c.in_err-put_bytes-2.ensures
    c.from_residual-in_err-put_bytes-2.ensures.0))) (cc)

pub returns : goal.returns
returns c =
    let f = c.args.field.now in
    let long : f.len ≡ length (take f.len f.was) = omega (arith, length-take f.len f.was) in
    as_text (next c.in_ok-put_number.ensures (next c.in_ok-put_bytes.ensures (next c.in_ok-put_bytes-2.ensures c.put_bytes-3.ensures))) (cc)
