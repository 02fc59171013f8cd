use Rattle.patch_bytes.proofs.Fronts.{next, stopped}
use Rattle.dgn_listing.proofs.elements.put_listed.Goals as goal

pub returns-in_err-put_signs : goal.returns-in_err-put_signs
returns-in_err-put_signs c = next c.in_ok-put_places.ensures (stopped _ c.in_err-put_signs.ensures c.from_residual-in_err-put_signs.ensures.0)

pub returns : goal.returns
returns c = next c.in_ok-put_places.ensures (next c.in_ok-put_signs.ensures c.put.ensures)
