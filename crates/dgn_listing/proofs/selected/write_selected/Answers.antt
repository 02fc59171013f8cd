use Rattle.patch_bytes.proofs.Fronts.{next}
use Rattle.dgn_listing.proofs.selected.write_selected.Goals as goal

pub returns : goal.returns
returns c = next c.in_ok-put_number_lines.ensures c.put_ending.ensures
