use Rattle.patch_bytes.proofs.Fronts.{next}
use Rattle.dgn_listing.proofs.items.put_next_point.Goals as goal

pub returns : goal.returns
returns c = next c.in_ok-put.ensures c.put_point.ensures
