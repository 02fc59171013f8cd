use Rattle.patch_bytes.proofs.Fronts.{next, stopped}
use Rattle.dgn_listing.proofs.items.put_node.Goals as goal

pub returns-in_err-put : goal.returns-in_err-put
returns-in_err-put c = stopped _ c.in_err-put.ensures c.from_residual.ensures.0

pub returns : goal.returns
returns c = next c.in_ok-put.ensures c.put_point.ensures
