use Rattle.patch_bytes.proofs.Fronts.{next, stopped}
use Rattle.patch_file.proofs.writing.put_head.Goals as goal

pub returns-in_err-put_number-2 : goal.returns-in_err-put_number-2
returns-in_err-put_number-2 c = next c.in_ok-put_number.ensures (stopped _ c.in_err-put_number-2.ensures c.from_residual-in_err-put_number-2.ensures.0)

pub returns : goal.returns
returns c = next c.in_ok-put_number.ensures (next c.in_ok-put_number-2.ensures c.put_number-3.ensures)
