-- What a session comes to when the plan of an edit is carried out on it.
use Rattle.std.proofs.Common.{◌≡◌, ℕ, ◌+◌, ◌<◌, List, ◌++◌, length, reverse, sym, ap, subst, arith}
use Rattle.std.specs.Prelude.{IfSome}
use Rattle.dgn_drawing.specs.declared.edit.Edit.{Edit}
use Rattle.dgn_drawing.specs.Spelling.{spelling}
use Rattle.dgn_drawing.proofs.Fronts.{body_spelled}
use Rattle.elem_index.specs.declared.design.Design.{Design}
use Rattle.elem_index.specs.Design.{elements}
use Rattle.edit_ops.specs.declared.types.plan.Plan.{Plan}
use Rattle.edit_ops.specs.Causes.{target_of}
use Rattle.edit_ops.specs.Applying.{Done, apply, IsEdit}
use Rattle.edit_ops.specs.EditedFields.{edited_fields}
use Rattle.edit_ops.specs.Planned.{IsPlan}
use Rattle.edit_ops.specs.Laws.{ChangesItsFields}
use Rattle.edit_ops.proofs.CauseOrder.{target_known}
use Rattle.edit_ops.proofs.EditLaws.{changes_fields}
use Rattle.dgn_drawing.specs.Opening.{elements_of}
use Rattle.dgn_session.proofs.DesignSeen.{as_seen}
use Rattle.dgn_session.specs.SessionParts.{IsDesignOf}
use Rattle.dgn_session.specs.State.{SessionValue, state_of, edit_applied}
use Rattle.dgn_session.specs.Laws.{IsSessionValue}
use Rattle.dgn_session.specs.Kept.{OpensAt}
use Rattle.dgn_session.specs.SessionParts.{IsSoundPlan, plan_of, value_after}
use Rattle.dgn_session.proofs.EditedBody.{edit_becomes}
use Rattle.dgn_session.proofs.PlannedBody.{IsPlanned, plan_sound}
use Rattle.dgn_session.proofs.PlanCarriedOut.{HasMade, has_made}
use Rattle.dgn_session.proofs.LastEditBack.{opens_kept}

-- a plan of an edit of a session's drawing, by its value
pub plan_seen : (d : Design) (old : SessionValue) → IsDesignOf old d
    → (e : Edit) (p : Plan) (append : List ℕ) → append ≡ p.append → IsPlan d.dim (elements d) (length d.tail.items + 0) e p
    → IsPlan old.dim (state_of old).top (length old.tail + 0) e (plan_of p.patches append)
plan_seen d old seen e p append is plan =
    as_seen old d seen (λ dim b t. IsPlan dim (elements_of dim b) (length t + 0) e (plan_of p.patches append))
    (subst (λ (b : List ℕ). IsPlan d.dim (elements d) (length d.tail.items + 0) e (plan_of p.patches b)) (sym is) plan)

-- the element that an edit names, by its value
pub known_seen : (d : Design) (old : SessionValue) → IsDesignOf old d → (e : Edit) → IfSome (target_of e) (λ n. n < length (elements d))
    → IfSome (target_of e) (λ n. n < length (state_of old).top)
known_seen d old seen e known = as_seen old d seen (λ dim b t. IfSome (target_of e) (λ n. n < length (elements_of dim b))) known

-- a session before and after an edit that is done
pub record IsEdited (e : Edit) (old new : SessionValue) : Type 0 where
  pub has : HasMade (edit_applied e (state_of old)) (edited_fields old.dim (state_of old).top e) old new
  pub changed : ChangesItsFields old.dim (state_of old).top e (state_of new).top

module _ (old : SessionValue) (sound : IsSessionValue old) (e : Edit) (p : Plan) (fits : IsEdit e)
    (plan : IsPlan old.dim (state_of old).top (length old.tail + 0) e p) where
  opens : OpensAt old.dim old.tail old.body
  opens = opens_kept old.dim old.tail old.body (reverse old.entries) sound

  is_done : edit_applied e (state_of old) ≡ Done plan.made
  is_done =
      let all : length old.tail + 0 ≡ length old.tail = omega arith in
      subst (λ (n : ℕ). apply old.dim (state_of old).top n e ≡ Done plan.made) all plan.done

  -- its element, where it names one, is there
  pub edit_known : IfSome (target_of e) (λ n. n < length (state_of old).top)
  edit_known = target_known old.dim (state_of old).top (length old.tail) e plan.made is_done

  planned : IsPlanned old.dim old.tail old.body (edited_fields old.dim (state_of old).top e) plan.made p
  planned =
      let body : spelling (state_of old).top ≡ old.body = body_spelled old.body old.tail old.dim (state_of old).top opens.opens in
      record {
        opens = opens;
        becomes = edit_becomes (old.body ++ old.tail) old.dim (state_of old).top old.tail e plan.made fits opens.opens
            (omega (arith, opens.few, ap (length {A = ℕ}) body)) is_done;
        patches = plan.patches;
        append = plan.append;
      }

  -- it may be carried out
  pub edit_sound : IsSoundPlan old.dim old.tail old.body p
  edit_sound = plan_sound old.dim old.tail old.body (edited_fields old.dim (state_of old).top e) plan.made p planned

  -- and where it is, the session is edited
  pub edit_made : (new : SessionValue) → new ≡ value_after p.patches p.append old → IsEdited e old new
  edit_made new is =
      let has = has_made old (edited_fields old.dim (state_of old).top e) plan.made p planned (edit_applied e (state_of old)) is_done new is in
      record {
        has = has;
        changed = changes_fields (old.body ++ old.tail) old.dim (state_of old).top old.tail (length old.tail) e (state_of new).top fits opens.opens
            has.accepted;
      }
