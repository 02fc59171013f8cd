use Rattle.std.proofs.Common.{arith}
use Rattle.patch_bytes.proofs.Fronts.{next, stopped, as_text}
use Rattle.patch_file.proofs.SpellingsRead.{few_fields}
use Rattle.patch_file.proofs.writing.put_entry.Goals as goal

-- there are no more fields than bytes in the old length
pub overflow_cast-len : goal.overflow_cast-len
overflow_cast-len c =
    let e = c.args.e.now in
    let few = few_fields 0 e.len e.fields (omega arith) e.rules in
    record { fits = omega arith }

pub returns-in_err-put_fields : goal.returns-in_err-put_fields
returns-in_err-put_fields c =
    let e = c.args.e.now in
    as_text (next c.in_ok-put_head.ensures (stopped e.append c.in_err-put_fields.ensures c.from_residual-in_err-put_fields.ensures.0)) (cc)

pub returns : goal.returns
returns c = as_text (next c.in_ok-put_head.ensures (next c.in_ok-put_fields.ensures c.put_bytes.ensures)) (cc)
