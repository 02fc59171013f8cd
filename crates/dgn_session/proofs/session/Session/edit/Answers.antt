use Rattle.std.proofs.Common.{subst}
use Rattle.std.proofs.lemmas.Result.{err_from_is_err_and}
use Rattle.dgn_session.specs.Laws.{IsSessionValue}
use Rattle.dgn_session.specs.SessionParts.{plan_of}
use Rattle.dgn_session.proofs.EditCarriedOut.{IsEdited, plan_seen, known_seen, edit_known, edit_sound, edit_made}
use Rattle.dgn_session.proofs.session.Session.edit.Goals as goal
use Rattle.dgn_session.proofs.session.Session.edit.Goals.{In_ok-carry_out}

-- what the session comes to
edited : (c : goal.In_ok-carry_out) → IsEdited c.args.e.now c.args.self.now c.carry_out.new.self
edited c =
    edit_made c.args.self.now (subst IsSessionValue c.self.view_is c.self.invariant.back) c.args.e.now
    (plan_of c.in_ok-plan.plan.patches c.as_slice.result.now) c.in_ok-plan.ensures.kept
    (plan_seen c.drawing.result c.args.self.now c.drawing.ensures.value c.args.e.now
    c.in_ok-plan.plan c.as_slice.result.now c.as_slice.ensures c.in_ok-plan.ensures.planned) c.carry_out.new.self c.in_ok-carry_out.ensures.carried

pub carry_out-requires : goal.carry_out-requires
carry_out-requires c =
    edit_sound c.args.self.now (subst IsSessionValue c.self.view_is c.self.invariant.back) c.args.e.now
    (plan_of c.in_ok-plan.plan.patches c.as_slice.result.now) c.in_ok-plan.ensures.kept
    (plan_seen c.drawing.result c.args.self.now c.drawing.ensures.value c.args.e.now
    c.in_ok-plan.plan c.as_slice.result.now c.as_slice.ensures c.in_ok-plan.ensures.planned)

pub returns-clause-done : goal.returns-clause-done
returns-clause-done c = (edited (goal.at.returns-clause-done c).In_ok-carry_out).has.done

pub returns-clause-accepted : goal.returns-clause-accepted
returns-clause-accepted c = (edited (goal.at.returns-clause-accepted c).In_ok-carry_out).has.accepted

pub returns-clause-value : goal.returns-clause-value
returns-clause-value c = (edited (goal.at.returns-clause-value c).In_ok-carry_out).has.value

pub returns-clause-changed : goal.returns-clause-changed
returns-clause-changed c = (edited (goal.at.returns-clause-changed c).In_ok-carry_out).changed

pub returns-in_err-plan-clause-known : goal.returns-in_err-plan-clause-known
returns-in_err-plan-clause-known c =
    let p = err_from_is_err_and c.from_residual.result c.from_residual.ensures.1 in
    rw (p.1, p.2) (λ memory. known_seen c.drawing.result c.args.self.now c.drawing.ensures.value c.args.e.now (c.in_err-plan.ensures.known
    (let e = memory in cc)))

pub returns-in_err-carry_out-clause-known : goal.returns-in_err-carry_out-clause-known
returns-in_err-carry_out-clause-known c = λ _.
    edit_known c.args.self.now (subst IsSessionValue c.self.view_is c.self.invariant.back) c.args.e.now
    (plan_of c.in_ok-plan.plan.patches c.as_slice.result.now) c.in_ok-plan.ensures.kept
    (plan_seen c.drawing.result c.args.self.now c.drawing.ensures.value c.args.e.now
    c.in_ok-plan.plan c.as_slice.result.now c.as_slice.ensures c.in_ok-plan.ensures.planned)
