use Rattle.patch_bytes.proofs.Fronts.{next, as_text}
use Rattle.dgn_listing.proofs.refs.write_refs.Goals as goal

pub returns : goal.returns
returns c = as_text (next c.in_ok-put_refs.ensures c.put_ending.ensures) (cc)
