use Rattle.std.proofs.Common.{◌≡◌, subst}
use Rattle.dgn_session.specs.State.{SessionValue, state_of, after_undo}
use Rattle.dgn_session.specs.SessionParts.{value_of}
use Rattle.dgn_session.proofs.PlanCarriedOut.{undone_value}
use Rattle.dgn_session.proofs.session.Session.undo.Goals as goal

pub returns-clause-done : goal.returns-clause-done
returns-clause-done c =
    subst (λ (v : SessionValue). state_of (value_of c.take_back.new.design c.take_back.new.log c.self.inside.mask c.self.inside.fence)
    ≡ after_undo (state_of v)) c.self.view_is
    (undone_value c.self.inside.design c.take_back.new.design c.self.inside.log c.take_back.new.log c.self.inside.mask c.self.inside.fence
    c.take_back.ensures.dim c.take_back.ensures.tail c.take_back.ensures.undone)
