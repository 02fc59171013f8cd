use Rattle.patch_bytes.proofs.Fronts.{next, stopped}
use Rattle.dgn_listing.proofs.links.put_link.Goals as goal

pub returns-in_err-put_form : goal.returns-in_err-put_form
returns-in_err-put_form c = next c.in_ok-put_fields.ensures (stopped _ c.in_err-put_form.ensures c.from_residual-in_err-put_form.ensures.0)

pub returns : goal.returns
returns c = next c.in_ok-put_fields.ensures (next c.in_ok-put_form.ensures c.put.ensures)
