use Rattle.patch_bytes.proofs.Fronts.{next, stopped, as_text}
use Rattle.dgn_listing.proofs.elements.write_elements.Goals as goal

pub returns-in_err-put_totals : goal.returns-in_err-put_totals
returns-in_err-put_totals c =
    next c.in_ok-put_elements.ensures (stopped _ c.in_err-put_totals.ensures c.from_residual-in_err-put_totals.ensures.0)

pub returns : goal.returns
returns c = as_text (next c.in_ok-put_elements.ensures (next c.in_ok-put_totals.ensures c.put_ending.ensures)) (cc)
