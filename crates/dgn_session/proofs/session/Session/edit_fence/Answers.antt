use Rattle.std.proofs.Common.{ℕ, ◌≡◌, Some, length, sym, ap, ◌∙◌, subst, arith}
use Rattle.dgn_drawing.specs.Shown.{tree_shown}
use Rattle.dgn_fence.specs.Taken.{takes}
use Rattle.elem_index.specs.Design.{elements}
use Rattle.elem_index.proofs.Places.{few_elements}
use Rattle.level_view.proofs.TakenRoots.{chosen_few}
use Rattle.dgn_session.specs.State.{SessionValue, state_of, selection}
use Rattle.dgn_session.specs.Laws.{IsSessionValue}
use Rattle.dgn_session.specs.SessionParts.{plan_of}
use Rattle.dgn_session.proofs.FenceEditCarriedOut.{IsFenceEdited, plan_seen, roots_seen, fence_sound, fence_made}
use Rattle.dgn_session.proofs.session.Session.edit_fence.Goals as goal
use Rattle.dgn_session.proofs.session.Session.edit_fence.Goals.{In_ok-carry_out}

-- what the session comes to
edited : (c : goal.In_ok-carry_out) → IsFenceEdited c.args.e.now c.args.self.now c.carry_out.new.self c.deref.result.now
    (selection c.args.mode (state_of c.args.self.now))
edited c =
    fence_made c.args.self.now (subst IsSessionValue c.self.view_is c.self.invariant.back) c.in-Some.fence c.args.mode
    (sym (ap (λ (v : SessionValue). v.fence) c.self.view_is) ∙ c.in-Some.is) c.deref.result.now
    (roots_seen c.drawing-drawing.result c.args.self.now c.drawing-drawing.ensures.value c.self.inside.mask
    (ap (λ (v : SessionValue). v.mask) c.self.view_is) c.args.mode
    c.in-Some.fence c.deref.result.now (c.deref.ensures.value ∙ c.in_ok-roots.ensures))
    c.args.e.now (plan_of c.in_ok-plan.plan.patches c.as_slice.result.now) c.in_ok-plan.ensures.kept
    (plan_seen c.drawing-drawing.result c.args.self.now c.drawing-drawing.ensures.value c.args.e.now
    c.deref.result.now c.in_ok-plan.plan c.as_slice.result.now c.as_slice.ensures c.in_ok-plan.ensures.planned)
    c.carry_out.new.self c.in_ok-carry_out.ensures.carried

pub carry_out-requires : goal.carry_out-requires
carry_out-requires c =
    fence_sound c.args.self.now (subst IsSessionValue c.self.view_is c.self.invariant.back) c.in-Some.fence c.args.mode
    (sym (ap (λ (v : SessionValue). v.fence) c.self.view_is) ∙ c.in-Some.is) c.deref.result.now
    (roots_seen c.drawing-drawing.result c.args.self.now c.drawing-drawing.ensures.value c.self.inside.mask
    (ap (λ (v : SessionValue). v.mask) c.self.view_is) c.args.mode
    c.in-Some.fence c.deref.result.now (c.deref.ensures.value ∙ c.in_ok-roots.ensures))
    c.args.e.now (plan_of c.in_ok-plan.plan.patches c.as_slice.result.now) c.in_ok-plan.ensures.kept
    (plan_seen c.drawing-drawing.result c.args.self.now c.drawing-drawing.ensures.value c.args.e.now
    c.deref.result.now c.in_ok-plan.plan c.as_slice.result.now c.as_slice.ensures c.in_ok-plan.ensures.planned)

pub overflow_cast-result : goal.overflow_cast-result
overflow_cast-result c =
    omega (
      arith,
      c.len.ensures,
      ap (length {A = ℕ}) c.in_ok-roots.ensures,
      few_elements c.drawing-drawing.result c.drawing-drawing.ensures.whole,
      chosen_few (elements c.drawing-drawing.result)
          (λ (n : ℕ). takes c.args.mode c.in-Some.fence (tree_shown c.drawing-drawing.result.dim c.self.inside.mask (elements c.drawing-drawing.result) n)),
    )

pub returns-clause-done : goal.returns-clause-done
returns-clause-done c =
    let so = edited (goal.at.returns-clause-done c).In_ok-carry_out in
    let count : c.len.result ≡ length c.deref.result.now = omega (arith, c.len.ensures, c.in_ok-roots.roots.ok.0, ap (length {A = ℕ}) c.deref.ensures.value) in
    record { accepted = so.accepted; state = so.done; count_is = ap (λ (n : ℕ). Some n) count ∙ so.count }

pub returns-clause-value : goal.returns-clause-value
returns-clause-value c = (edited (goal.at.returns-clause-value c).In_ok-carry_out).value

pub returns-clause-changed : goal.returns-clause-changed
returns-clause-changed c = (edited (goal.at.returns-clause-changed c).In_ok-carry_out).changed
