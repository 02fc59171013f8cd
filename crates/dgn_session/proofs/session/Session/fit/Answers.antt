use Rattle.std.proofs.Common.{subst}
use Rattle.dgn_audit.specs.Planned.{IsFitPlan}
use Rattle.dgn_drawing.specs.Opening.{elements_of}
use Rattle.dgn_session.proofs.DesignSeen.{as_seen}
use Rattle.dgn_session.specs.Laws.{IsSessionValue}
use Rattle.dgn_session.proofs.FitCarriedOut.{IsFitted, fit_sound, fit_made}
use Rattle.dgn_session.proofs.session.Session.fit.Goals as goal
use Rattle.dgn_session.proofs.session.Session.fit.Goals.{In_ok-carry_out}

-- what the session comes to
fitted : (c : goal.In_ok-carry_out) → IsFitted c.args.n c.args.self.now c.carry_out.new.self
fitted c =
    fit_made c.args.self.now (subst IsSessionValue c.self.view_is c.self.invariant.back) c.args.n c.in_ok-patches.patches
    (as_seen c.args.self.now c.drawing.result c.drawing.ensures.value (λ dim b t. IsFitPlan dim (elements_of dim b) c.args.n c.in_ok-patches.patches)
    c.in_ok-patches.ensures.planned)
    c.carry_out.new.self c.in_ok-carry_out.ensures.carried

pub carry_out-requires : goal.carry_out-requires
carry_out-requires c =
    fit_sound c.args.self.now (subst IsSessionValue c.self.view_is c.self.invariant.back) c.args.n c.in_ok-patches.patches
    (as_seen c.args.self.now c.drawing.result c.drawing.ensures.value (λ dim b t. IsFitPlan dim (elements_of dim b) c.args.n c.in_ok-patches.patches)
    c.in_ok-patches.ensures.planned)

pub returns-clause-done : goal.returns-clause-done
returns-clause-done c = (fitted (goal.at.returns-clause-done c).In_ok-carry_out).has.done

pub returns-clause-accepted : goal.returns-clause-accepted
returns-clause-accepted c = (fitted (goal.at.returns-clause-accepted c).In_ok-carry_out).has.accepted

pub returns-clause-value : goal.returns-clause-value
returns-clause-value c = (fitted (goal.at.returns-clause-value c).In_ok-carry_out).has.value

pub returns-clause-fitted : goal.returns-clause-fitted
returns-clause-fitted c = (fitted (goal.at.returns-clause-fitted c).In_ok-carry_out).fitted
