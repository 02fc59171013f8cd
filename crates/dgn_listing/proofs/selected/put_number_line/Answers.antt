use Rattle.patch_bytes.proofs.Fronts.{next, as_text}
use Rattle.dgn_listing.proofs.selected.put_number_line.Goals as goal

pub returns : goal.returns
returns c = as_text (next c.in_ok-put_number.ensures c.put.ensures) (cc)
