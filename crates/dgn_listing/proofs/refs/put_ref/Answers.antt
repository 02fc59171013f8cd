use Rattle.patch_bytes.proofs.Fronts.{next, stopped}
use Rattle.dgn_listing.proofs.refs.put_ref.Goals as goal

pub returns-in_err-put_number : goal.returns-in_err-put_number
returns-in_err-put_number c = next c.in_ok-put_place.ensures (stopped _ c.in_err-put_number.ensures c.from_residual-in_err-put_number.ensures.0)

pub returns-in_err-put_state : goal.returns-in_err-put_state
returns-in_err-put_state c =
    next c.in_ok-put_place.ensures (next c.in_ok-put_number.ensures
    (stopped _ c.in_err-put_state.ensures c.from_residual-in_err-put_state.ensures.0))

pub returns : goal.returns
returns c = next c.in_ok-put_place.ensures (next c.in_ok-put_number.ensures (next c.in_ok-put_state.ensures c.put.ensures))
