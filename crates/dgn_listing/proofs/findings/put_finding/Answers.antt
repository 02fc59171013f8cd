use Rattle.patch_bytes.proofs.Fronts.{next, stopped}
use Rattle.dgn_listing.proofs.findings.put_finding.Goals as goal

pub returns-in_err-put_its_number : goal.returns-in_err-put_its_number
returns-in_err-put_its_number c = stopped _ c.in_err-put_its_number.ensures c.from_residual.ensures.0

pub returns-in_err-put_corners : goal.returns-in_err-put_corners
returns-in_err-put_corners c =
    next c.in_ok-put_its_number.ensures (stopped _ c.in_err-put_corners.ensures c.from_residual-in_err-put_corners.ensures.0)

pub returns-in_err-put : goal.returns-in_err-put
returns-in_err-put c =
    next c.in_ok-put_its_number.ensures (next c.in_ok-put_corners.ensures (stopped _ c.in_err-put.ensures c.from_residual-in_err-put.ensures.0))

pub returns-in_err-put_corners-2 : goal.returns-in_err-put_corners-2
returns-in_err-put_corners-2 c =
    next c.in_ok-put_its_number.ensures (next c.in_ok-put_corners.ensures (next c.in_ok-put.ensures
    (stopped _ c.in_err-put_corners-2.ensures c.from_residual-in_err-put_corners-2.ensures.0)))

pub returns : goal.returns
returns c =
    next c.in_ok-put_its_number.ensures (next c.in_ok-put_corners.ensures (next c.in_ok-put.ensures
    (next c.in_ok-put_corners-2.ensures c.put-2.ensures)))
