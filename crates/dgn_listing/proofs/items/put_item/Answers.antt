use Rattle.patch_bytes.proofs.Fronts.{next, stopped}
use Rattle.dgn_listing.proofs.items.put_item.Goals as goal

pub returns-in_err-put_body : goal.returns-in_err-put_body
returns-in_err-put_body c = next c.in_ok-put_numbers.ensures (stopped _ c.in_err-put_body.ensures c.from_residual-in_err-put_body.ensures.0)

pub returns : goal.returns
returns c = next c.in_ok-put_numbers.ensures (next c.in_ok-put_body.ensures c.put.ensures)
