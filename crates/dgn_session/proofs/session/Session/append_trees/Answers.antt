use Rattle.std.proofs.Common.{◌≡◌, ◌+◌, length, sym, ◌∙◌, subst}
use Rattle.std.specs.Prelude.{None}
use Rattle.edit_ops.specs.Causes.{too_long}
use Rattle.dgn_session.specs.State.{SessionValue}
use Rattle.dgn_session.specs.Laws.{IsSessionValue}
use Rattle.dgn_session.proofs.AppendedTrees.{IsImported, trees_sound, trees_made}
use Rattle.dgn_session.proofs.session.Session.append_trees.Goals as goal
use Rattle.dgn_session.proofs.session.Session.append_trees.Goals.{In_ok-carry_out}

-- what the session comes to
imported : (c : goal.In_ok-carry_out) → IsImported c.args.bytes.now c.args.self.now c.carry_out.new.self
imported c =
    trees_made c.args.self.now (subst IsSessionValue c.self.view_is c.self.invariant.back) c.args.bytes.now c.requires.trees
    (subst (λ (v : SessionValue). too_long (length v.body + length v.tail + length c.args.bytes.now) ≡ None) c.self.view_is
    (sym c.growth_cause.ensures ∙ c.in_default.is)) c.new-patches.result c.new-patches.ensures
    c.carry_out.new.self c.in_ok-carry_out.ensures.carried

pub carry_out-requires : goal.carry_out-requires
carry_out-requires c =
    trees_sound c.args.self.now (subst IsSessionValue c.self.view_is c.self.invariant.back) c.args.bytes.now c.requires.trees
    (subst (λ (v : SessionValue). too_long (length v.body + length v.tail + length c.args.bytes.now) ≡ None) c.self.view_is
    (sym c.growth_cause.ensures ∙ c.in_default.is)) c.new-patches.result c.new-patches.ensures

pub returns-clause-done : goal.returns-clause-done
returns-clause-done c = (imported (goal.at.returns-clause-done c).In_ok-carry_out).done

pub returns-clause-value : goal.returns-clause-value
returns-clause-value c = (imported (goal.at.returns-clause-value c).In_ok-carry_out).value
