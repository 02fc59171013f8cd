-- What a session comes to when the plan of an edit of all that a fence chooses is carried out on it.
use Rattle.std.proofs.Common.{◌≡◌, ℕ, List, [], ◌∷◌, ◌++◌, length, reverse, Option, refl, sym, ap, ◌∙◌, subst, arith}
use Rattle.std.specs.Prelude.{Some, IfSome, option_map}
use Rattle.plane_geom.specs.declared.pt.Pt.{Pt}
use Rattle.dgn_drawing.specs.declared.fence_edit.FenceEdit.{FenceEdit}
use Rattle.dgn_drawing.specs.declared.mask.Mask.{Mask}
use Rattle.dgn_drawing.specs.declared.mode.Mode.{Mode}
use Rattle.dgn_drawing.specs.Spelling.{spelling}
use Rattle.dgn_drawing.specs.Shown.{tree_shown}
use Rattle.dgn_drawing.proofs.Fronts.{body_spelled}
use Rattle.dgn_fence.specs.Selected.{selected}
use Rattle.dgn_fence.specs.Taken.{takes}
use Rattle.elem_index.specs.declared.design.Design.{Design}
use Rattle.elem_index.specs.Design.{elements}
use Rattle.edit_ops.specs.declared.types.plan.Plan.{Plan}
use Rattle.edit_ops.specs.Applying.{Done}
use Rattle.edit_ops.specs.Fenced.{apply_all, fenced_fields, AreRoots, IsFenceEdit}
use Rattle.edit_ops.specs.FenceLaws.{ChangesFencedFields}
use Rattle.edit_ops.specs.Planned.{IsFencePlan}
use Rattle.edit_ops.proofs.FenceLaws.{fenced_changes}
use Rattle.dgn_drawing.specs.Opening.{elements_of}
use Rattle.dgn_session.proofs.DesignSeen.{as_seen}
use Rattle.dgn_session.specs.SessionParts.{IsDesignOf}
use Rattle.dgn_session.specs.State.{SessionValue, state_of, selection, push_if_made, fence_entry, value_with}
use Rattle.dgn_session.specs.Laws.{IsSessionValue}
use Rattle.dgn_session.specs.Kept.{OpensAt}
use Rattle.dgn_session.specs.SessionParts.{IsSoundPlan, plan_of, value_after}
use Rattle.dgn_session.proofs.EditedBody.{fence_becomes}
use Rattle.dgn_session.proofs.PlannedBody.{IsPlanned, plan_sound}
use Rattle.dgn_session.proofs.PlanCarriedOut.{has_made}
use Rattle.dgn_session.proofs.LastEditBack.{opens_kept}

-- a plan of an edit of these roots of a session's drawing, by its value
pub plan_seen : (d : Design) (old : SessionValue) → IsDesignOf old d
    → (e : FenceEdit) (ns : List ℕ) (p : Plan) (append : List ℕ) → append ≡ p.append
    → IsFencePlan d.dim (elements d) (length d.tail.items) e ns p
    → IsFencePlan old.dim (state_of old).top (length old.tail) e ns (plan_of p.patches append)
plan_seen d old seen e ns p append is plan =
    as_seen old d seen (λ dim b t. IsFencePlan dim (elements_of dim b) (length t) e ns (plan_of p.patches append))
    (subst (λ (b : List ℕ). IsFencePlan d.dim (elements d) (length d.tail.items) e ns (plan_of p.patches b)) (sym is) plan)

-- the roots that are chosen, by its value
pub roots_seen : (d : Design) (old : SessionValue) → IsDesignOf old d → (mask : Mask) → mask ≡ old.mask
    → (mode : Mode) (corners : List Pt) (ns : List ℕ) → ns ≡ selected d.dim mask corners mode (elements d)
    → ns ≡ selected old.dim old.mask corners mode (state_of old).top
roots_seen d old seen mask shown mode corners ns are =
    as_seen old d seen (λ dim b t. ns ≡ selected dim mask corners mode (elements_of dim b)) are
    ∙ ap (λ (m : Mask). selected old.dim m corners mode (state_of old).top) shown

-- a session before and after an edit of what is chosen, where it is done
pub record IsFenceEdited (e : FenceEdit) (old new : SessionValue) (ns : List ℕ) (chosen : Option (List ℕ)) : Type 0 where
  pub done : state_of new ≡ push_if_made (option_map (apply_all old.dim (state_of old).top (length old.tail) e) chosen) (state_of old)
  pub accepted : option_map (apply_all old.dim (state_of old).top (length old.tail) e) chosen ≡ Some (Done (state_of new).top)
  pub value : Some new ≡ option_map (λ (ns : List ℕ). value_with (spelling (state_of new).top)
      (old.entries ++ fence_entry old.dim (state_of old).top e ns ∷ []) old) chosen
  pub count : Some (length ns) ≡ option_map (length {A = ℕ}) chosen
  pub changed : IfSome chosen (λ (ns : List ℕ). ChangesFencedFields old.dim (state_of old).top e ns (state_of new).top)

module _ (old : SessionValue) (sound : IsSessionValue old) (corners : List Pt) (mode : Mode) (is : old.fence ≡ Some corners) (ns : List ℕ)
    (are : ns ≡ selected old.dim old.mask corners mode (state_of old).top) (e : FenceEdit) (p : Plan) (fits : IsFenceEdit e)
    (plan : IsFencePlan old.dim (state_of old).top (length old.tail) e ns p) where
  opens : OpensAt old.dim old.tail old.body
  opens = opens_kept old.dim old.tail old.body (reverse old.entries) sound

  roots : AreRoots (state_of old).top ns
  roots = ((λ (n : ℕ). takes mode corners (tree_shown old.dim old.mask (state_of old).top n)), are)

  planned : IsPlanned old.dim old.tail old.body (fenced_fields old.dim (state_of old).top e ns) plan.made p
  planned =
      let body : spelling (state_of old).top ≡ old.body = body_spelled old.body old.tail old.dim (state_of old).top opens.opens in
      record {
        opens = opens;
        becomes = fence_becomes (old.body ++ old.tail) old.dim (state_of old).top old.tail e ns plan.made fits roots opens.opens
            (omega (arith, opens.few, ap (length {A = ℕ}) body)) plan.done;
        patches = plan.patches;
        append = plan.append;
      }

  -- it may be carried out
  pub fence_sound : IsSoundPlan old.dim old.tail old.body p
  fence_sound = plan_sound old.dim old.tail old.body (fenced_fields old.dim (state_of old).top e ns) plan.made p planned

  chosen : selection mode (state_of old) ≡ Some ns
  chosen = ap (option_map (λ (f : List Pt). selected old.dim old.mask f mode (state_of old).top)) is ∙ ap Some (sym are)

  -- and where it is, the session is edited
  pub fence_made : (new : SessionValue) → new ≡ value_after p.patches p.append old → IsFenceEdited e old new ns (selection mode (state_of old))
  fence_made new carried =
      let has =
      has_made old (fenced_fields old.dim (state_of old).top e ns) plan.made p planned
      (apply_all old.dim (state_of old).top (length old.tail) e ns) plan.done new carried in
      subst (IsFenceEdited e old new ns) (sym chosen) (record {
        done = has.done;
        accepted = ap Some has.accepted;
        value = ap Some has.value;
        count = refl;
        changed = fenced_changes (old.body ++ old.tail) old.dim (state_of old).top old.tail (length old.tail) e ns (state_of new).top fits roots opens.opens
            has.accepted;
      })
