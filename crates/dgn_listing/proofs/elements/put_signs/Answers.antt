use Rattle.patch_bytes.proofs.Fronts.{next}
use Rattle.dgn_listing.proofs.elements.put_signs.Goals as goal

pub returns : goal.returns
returns c = next c.in_ok-put_sign.ensures c.put_sign-2.ensures
