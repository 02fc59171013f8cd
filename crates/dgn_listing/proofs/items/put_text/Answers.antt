use Rattle.patch_bytes.proofs.Fronts.{next, stopped}
use Rattle.dgn_listing.proofs.items.put_text.Goals as goal

pub returns-in_err-put : goal.returns-in_err-put
returns-in_err-put c = stopped _ c.in_err-put.ensures c.from_residual.ensures.0

pub returns-in_err-put_point : goal.returns-in_err-put_point
returns-in_err-put_point c = next c.in_ok-put.ensures (stopped _ c.in_err-put_point.ensures c.from_residual-in_err-put_point.ensures.0)

pub returns-in_err-put-2 : goal.returns-in_err-put-2
returns-in_err-put-2 c =
    next c.in_ok-put.ensures (next c.in_ok-put_point.ensures (stopped _ c.in_err-put-2.ensures c.from_residual-in_err-put-2.ensures.0))

pub returns : goal.returns
returns c = next c.in_ok-put.ensures (next c.in_ok-put_point.ensures (next c.in_ok-put-2.ensures c.put_chars.ensures))
