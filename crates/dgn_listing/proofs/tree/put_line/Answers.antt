use Rattle.patch_bytes.proofs.Fronts.{next, stopped}
use Rattle.dgn_listing.proofs.tree.put_line.Goals as goal

pub returns-in_err-put_knot : goal.returns-in_err-put_knot
returns-in_err-put_knot c = next c.in_ok-put_numbers.ensures (stopped _ c.in_err-put_knot.ensures c.from_residual-in_err-put_knot.ensures.0)

pub returns-in_err-put_state : goal.returns-in_err-put_state
returns-in_err-put_state c =
    next c.in_ok-put_numbers.ensures (next c.in_ok-put_knot.ensures
    (stopped _ c.in_err-put_state.ensures c.from_residual-in_err-put_state.ensures.0))

pub returns-in_err-put_orphan : goal.returns-in_err-put_orphan
returns-in_err-put_orphan c =
    next c.in_ok-put_numbers.ensures (next c.in_ok-put_knot.ensures (next c.in_ok-put_state.ensures
    (stopped _ c.in_err-put_orphan.ensures c.from_residual-in_err-put_orphan.ensures.0)))

pub returns : goal.returns
returns c =
    next c.in_ok-put_numbers.ensures (next c.in_ok-put_knot.ensures (next c.in_ok-put_state.ensures (next c.in_ok-put_orphan.ensures c.put.ensures)))
