use Rattle.patch_bytes.proofs.Fronts.{next, stopped, as_text}
use Rattle.dgn_listing.specs.Lines.{line_feed}
use Rattle.dgn_listing.proofs.causes.put_refused.Goals as goal

pub returns-in_err-put_number : goal.returns-in_err-put_number
returns-in_err-put_number c =
    as_text (next c.in_ok-put.ensures (stopped line_feed c.in_err-put_number.ensures c.from_residual-in_err-put_number.ensures.0)) (cc)

pub returns : goal.returns
returns c = as_text (next c.in_ok-put.ensures (next c.in_ok-put_number.ensures c.put-2.ensures)) (cc)
