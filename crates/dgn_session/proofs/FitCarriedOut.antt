-- What a session comes to when a fit is carried out on it.
use Rattle.std.proofs.Common.{◌≡◌, ℕ, ◌+◌, ◌≤◌, List, [], ◌++◌, length, drop, map, reverse, sym, ap, ◌∙◌, subst, arith}
use Rattle.std.proofs.lemmas.List.{append-nil, drop_all, take_all, length-map}
use Rattle.patch_bytes.specs.Puts.{Put, write}
use Rattle.dgn_drawing.specs.declared.row.Row.{Row}
use Rattle.dgn_drawing.specs.Element.{Element}
use Rattle.dgn_drawing.specs.Spelling.{spelling}
use Rattle.dgn_drawing.specs.Rows.{row_of}
use Rattle.dgn_drawing.specs.Nesting.{BeginsFree}
use Rattle.dgn_drawing.specs.Opening.{Opens}
use Rattle.dgn_drawing.proofs.Fronts.{body_spelled}
use Rattle.edit_ops.specs.Applying.{Done}
use Rattle.edit_ops.specs.Fields.{filled}
use Rattle.dgn_audit.specs.Fitting.{apply_fit, fit_fields}
use Rattle.dgn_audit.specs.Planned.{IsFitPlan}
use Rattle.dgn_audit.proofs.FitKeepsRows.{fitted_opens, fits_change}
use Rattle.dgn_audit.proofs.FindingsEnd.{ends_findings}
use Rattle.dgn_session.specs.State.{SessionValue, state_of}
use Rattle.dgn_session.specs.Laws.{IsSessionValue}
use Rattle.dgn_session.specs.Kept.{OpensAt}
use Rattle.dgn_session.specs.SessionParts.{IsSoundPlan, plan_of, value_after}
use Rattle.dgn_session.specs.Fits.{fit_applied, IsFit}
use Rattle.dgn_session.proofs.EditedBody.{Become}
use Rattle.dgn_session.proofs.PlannedBody.{IsPlanned, plan_sound}
use Rattle.dgn_session.proofs.PlanCarriedOut.{HasMade, has_made}
use Rattle.dgn_session.proofs.LastEditBack.{opens_kept}
use Rattle.dgn_drawing.specs.declared.limits.TheConstants.{MOST_DESIGN}

-- the elements become the fitted ones
fit_becomes : (f : List ℕ) (dim : ℕ) (es : List Element) (tail : List ℕ) (n : ℕ) (made : List Element) → Opens f dim es tail
    → length (spelling es) + length tail ≤ MOST_DESIGN → apply_fit dim es n ≡ Done made → Become dim tail es (fit_fields dim es n) made
fit_becomes f dim es tail n made opens few done =
    let changed = fits_change f dim es tail n made opens done in
    let long : length (spelling made) ≡ length (spelling es) = changed.long in
    let count : length made ≡ length es = sym (length-map made row_of) ∙ ap (length {A = Row}) changed.rows ∙ length-map es row_of in
    let none : drop (length (spelling es)) (spelling made) ≡ [] = drop_all (length (spelling es)) (spelling made) (omega (arith, long)) in
    record {
      opens = fitted_opens f dim es tail n made opens done;
      few = omega (arith, few, long);
      written = changed.written ∙ sym (append-nil _) ∙ ap (λ (b : List ℕ). write (spelling es) (filled (spelling made) (fit_fields dim es n)) ++ b) (sym none);
      long = omega (arith, long);
      rows = ap (map row_of) (take_all (length es) made (omega (arith, count))) ∙ changed.rows;
      appended = subst (BeginsFree row_of) (sym (drop_all (length es) made (omega (arith, count)))) tt;
      rise = changed.rise;
    }

-- a session before and after a fit that is done
pub record IsFitted (n : ℕ) (old new : SessionValue) : Type 0 where
  pub has : HasMade (fit_applied n (state_of old)) (fit_fields old.dim (state_of old).top n) old new
  pub fitted : IsFit old.dim (state_of old).top n (state_of new).top

module _ (old : SessionValue) (sound : IsSessionValue old) (n : ℕ) (patches : List Put) (plan : IsFitPlan old.dim (state_of old).top n patches) where
  opens : OpensAt old.dim old.tail old.body
  opens = opens_kept old.dim old.tail old.body (reverse old.entries) sound

  planned : IsPlanned old.dim old.tail old.body (fit_fields old.dim (state_of old).top n) plan.made (plan_of patches [])
  planned =
      let body : spelling (state_of old).top ≡ old.body = body_spelled old.body old.tail old.dim (state_of old).top opens.opens in
      let none : drop (length (spelling (state_of old).top)) (spelling plan.made) ≡ [] =
      drop_all (length (spelling (state_of old).top)) (spelling plan.made)
      (omega (arith, (fits_change (old.body ++ old.tail) old.dim (state_of old).top old.tail n plan.made opens.opens plan.done).long)) in
      record {
        opens = opens;
        becomes = fit_becomes (old.body ++ old.tail) old.dim (state_of old).top old.tail n plan.made opens.opens
            (omega (arith, opens.few, ap (length {A = ℕ}) body)) plan.done;
        patches = plan.are;
        append = sym none;
      }

  -- it may be carried out
  pub fit_sound : IsSoundPlan old.dim old.tail old.body (plan_of patches [])
  fit_sound = plan_sound old.dim old.tail old.body (fit_fields old.dim (state_of old).top n) plan.made (plan_of patches []) planned

  -- it ends the findings of its tree
  ends : (made : List Element) → fit_applied n (state_of old) ≡ Done made → IsFit old.dim (state_of old).top n made
  ends made done = record {
    ended = λ root end at spanned. ends_findings (old.body ++ old.tail) old.dim (state_of old).top
        old.tail n made root end opens.opens done at spanned;
    stays = (fits_change (old.body ++ old.tail) old.dim (state_of old).top old.tail n made opens.opens done).stays;
  }

  -- and where it is carried out, the session is fitted
  pub fit_made : (new : SessionValue) → new ≡ value_after patches [] old → IsFitted n old new
  fit_made new is =
      let has =
      has_made old (fit_fields old.dim (state_of old).top n) plan.made (plan_of patches []) planned (fit_applied n (state_of old)) plan.done new is in
      record { has = has; fitted = ends (state_of new).top has.accepted }
