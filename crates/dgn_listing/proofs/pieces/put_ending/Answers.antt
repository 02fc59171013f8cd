use Rattle.patch_bytes.proofs.Fronts.{next, stopped}
use Rattle.dgn_listing.proofs.pieces.put_ending.Goals as goal

pub returns-in_err-put-2 : goal.returns-in_err-put-2
returns-in_err-put-2 c = next c.in_ok-put.ensures (stopped _ c.in_err-put-2.ensures c.from_residual-in_err-put-2.ensures.0)

pub returns-in_err-put_number : goal.returns-in_err-put_number
returns-in_err-put_number c =
    next c.in_ok-put.ensures (next c.in_ok-put-2.ensures (stopped _ c.in_err-put_number.ensures c.from_residual-in_err-put_number.ensures.0))

pub returns : goal.returns
returns c = next c.in_ok-put.ensures (next c.in_ok-put-2.ensures (next c.in_ok-put_number.ensures c.put-3.ensures))
