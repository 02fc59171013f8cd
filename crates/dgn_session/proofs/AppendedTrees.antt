-- What a session comes to when trees are appended to its drawing.
use Rattle.std.proofs.Common.{◌≡◌, ℕ, ◌+◌, ◌≤◌, List, [], ◌∷◌, ◌++◌, length, drop, map, reverse, None, refl, sym, ap, ◌∙◌, subst, arith, length-append}
use Rattle.std.proofs.lemmas.Grind.{flat_map-append}
use Rattle.std.proofs.lemmas.List.{take_at, drop_at}
use Rattle.patch_bytes.specs.Puts.{Put}
use Rattle.undo_log.specs.declared.entry.Entry.{Entry}
use Rattle.dgn_drawing.specs.Element.{Element}
use Rattle.dgn_drawing.specs.Spelling.{spell, spelling}
use Rattle.dgn_drawing.specs.Rows.{row_of}
use Rattle.dgn_drawing.specs.Nesting.{BeginsFree}
use Rattle.dgn_drawing.specs.Opening.{elements_of}
use Rattle.dgn_drawing.proofs.Fronts.{body_spelled, elements-spelling}
use Rattle.edit_ops.specs.Applying.{Done}
use Rattle.edit_ops.specs.Causes.{too_long}
use Rattle.edit_ops.proofs.WhatIsLeft.{appended_opens}
use Rattle.edit_ops.proofs.AppendedElements.{short_left}
use Rattle.dgn_import.specs.Gathering.{AreTrees}
use Rattle.dgn_session.specs.State.{SessionValue, state_of, value_with}
use Rattle.dgn_session.specs.Imported.{imported, import_entry}
use Rattle.dgn_session.specs.Laws.{IsSessionValue}
use Rattle.dgn_session.specs.Kept.{OpensAt}
use Rattle.dgn_session.specs.SessionParts.{IsSoundPlan, plan_of, value_after}
use Rattle.dgn_session.proofs.EditedBody.{Become}
use Rattle.dgn_session.proofs.PlannedBody.{IsPlanned, plan_sound, entry_is}
use Rattle.dgn_session.proofs.PlanCarriedOut.{has_made}
use Rattle.dgn_session.proofs.LastEditBack.{opens_kept}
use Rattle.dgn_drawing.specs.declared.limits.TheConstants.{MOST_DESIGN}

-- a session before and after an import of these bytes
pub record IsImported (b : List ℕ) (old new : SessionValue) : Type 0 where
  pub done : state_of new ≡ imported (elements_of old.dim b) (state_of old)
  pub value : new ≡ value_with (old.body ++ b) (old.entries ++ import_entry (state_of old).top ∷ []) old

module _ (old : SessionValue) (sound : IsSessionValue old) (b : List ℕ) (trees : AreTrees old.dim b)
    (short : too_long (length old.body + length old.tail + length b) ≡ None) where
  opens : OpensAt old.dim old.tail old.body
  opens = opens_kept old.dim old.tail old.body (reverse old.entries) sound

  -- the elements of the session
  abbrev es : List Element
  es = (state_of old).top

  -- with those of the trees behind them
  abbrev made : List Element
  made = es ++ trees.elements

  body : spelling es ≡ old.body
  body = body_spelled old.body old.tail old.dim es opens.opens

  whole : spelling made ≡ spelling es ++ spelling trees.elements
  whole = flat_map-append spell es trees.elements

  behind : drop (length (spelling es)) (spelling made) ≡ spelling trees.elements
  behind = ap (drop (length (spelling es))) whole ∙ drop_at (spelling es) (spelling trees.elements) (length (spelling es)) refl

  few : length old.body + (length old.tail + length b) ≤ MOST_DESIGN
  few = short_left (length old.body) (length old.tail) (length b) short

  long : length (spelling made) ≡ length old.body + length b
  long =
      omega (
        arith,
        ap (length {A = ℕ}) whole,
        length-append (spelling es) (spelling trees.elements),
        ap (length {A = ℕ}) body,
        ap (length {A = ℕ}) trees.text,
      )

  -- so the elements become these, and no field is written
  becomes : Become old.dim old.tail es [] made
  becomes = record {
    opens = appended_opens (old.body ++ old.tail) old.dim es trees.elements old.tail opens.opens trees.each;
    few = omega (arith, long, few);
    written = whole ∙ ap (λ (x : List ℕ). spelling es ++ x) (sym behind);
    long = omega (arith, long, ap (length {A = ℕ}) body);
    rows = ap (map row_of) (take_at es trees.elements (length es) refl);
    appended = subst (BeginsFree row_of) (sym (drop_at es trees.elements (length es) refl)) trees.free;
    rise = omega arith;
  }

  planned : (ps : List Put) → ps ≡ [] → IsPlanned old.dim old.tail old.body [] made (plan_of ps b)
  planned ps none = record { opens = opens; becomes = becomes; patches = none; append = trees.text ∙ sym behind }

  -- it may be carried out without a patch
  pub trees_sound : (ps : List Put) → ps ≡ [] → IsSoundPlan old.dim old.tail old.body (plan_of ps b)
  trees_sound ps none = plan_sound old.dim old.tail old.body [] made (plan_of ps b) (planned ps none)

  -- the elements of the bytes
  elements_are : elements_of old.dim b ≡ trees.elements
  elements_are = ap (elements_of old.dim) trees.text ∙ elements-spelling old.dim trees.axes trees.elements trees.each

  -- and where it is, the session has them
  pub trees_made : (ps : List Put) → ps ≡ [] → (new : SessionValue) → new ≡ value_after ps b old → IsImported b old new
  trees_made ps none new is =
      let has = has_made old [] made (plan_of ps b) (planned ps none) (Done made) refl new is in
      record {
        done = has.done ∙ ap (λ (new : List Element). imported new (state_of old)) (sym elements_are);
        value =
            is ∙ ap (λ (qs : List Put). value_after qs b old) none
            ∙ ap (λ (e : Entry). value_with (old.body ++ b) (old.entries ++ e ∷ []) old)
            (entry_is old.dim old.tail old.body [] made (plan_of [] b) (planned [] refl));
      }
