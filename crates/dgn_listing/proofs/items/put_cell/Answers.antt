use Rattle.patch_bytes.proofs.Fronts.{next, stopped}
use Rattle.dgn_listing.proofs.items.put_cell.Goals as goal

pub returns-in_err-put : goal.returns-in_err-put
returns-in_err-put c = stopped _ c.in_err-put.ensures c.from_residual.ensures.0

pub returns-in_err-put_name : goal.returns-in_err-put_name
returns-in_err-put_name c = next c.in_ok-put.ensures (stopped _ c.in_err-put_name.ensures c.from_residual-in_err-put_name.ensures.0)

pub returns-in_err-put-2 : goal.returns-in_err-put-2
returns-in_err-put-2 c =
    next c.in_ok-put.ensures (next c.in_ok-put_name.ensures (stopped _ c.in_err-put-2.ensures c.from_residual-in_err-put-2.ensures.0))

pub returns : goal.returns
returns c = next c.in_ok-put.ensures (next c.in_ok-put_name.ensures (next c.in_ok-put-2.ensures c.put_point.ensures))
