use Rattle.patch_bytes.proofs.Fronts.{next}
use Rattle.dgn_listing.proofs.pieces.put_field.Goals as goal

pub returns : goal.returns
returns c = next c.in_ok-put_number.ensures c.put.ensures
