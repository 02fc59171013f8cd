-- What is asked of an element before a fit, by its bytes.
use Rattle.std.proofs.Common.{◌≡◌, ℕ, ◌≤◌, List, [], ◌∷◌, ◌++◌, length, reverse, Some, None, Result, Ok, Err, Bool, true, false, cond}
use Rattle.std.proofs.Common.{sym, ap, ◌∙◌, subst}
use Rattle.std.specs.Prelude.{slice_get, IfSome, IfOk}
use Rattle.elem_head.specs.Head.{properties_of}
use Rattle.dgn_layout.specs.Classes.{class_of, is_silent}
use Rattle.dgn_layout.specs.Spots.{has_spots, HoldsPoints}
use Rattle.dgn_drawing.specs.Element.{Element}
use Rattle.elem_index.specs.declared.design.Design.{Design}
use Rattle.elem_index.specs.Design.{elements, IsWhole}
use Rattle.edit_ops.specs.Causes.{says_locked, is_locked, deleted}
use Rattle.elem_index.proofs.Places.{axes_of}
use Rattle.edit_ops.proofs.WiderRanges.{holds_of, spots_loud}
use Rattle.edit_ops.specs.declared.elements.element_view.ElementView.{ElementView}
use Rattle.edit_ops.specs.ElementViews.{IsElementView}
use Rattle.edit_ops.proofs.ElementAnswers.{holds_found, long_found}
use Rattle.edit_ops.specs.declared.causes.cause.Cause.TheVariants as causes
use Rattle.dgn_audit.specs.Fitting.{against, lock_cause}
use Rattle.std.specs.List.{AllByRecursion}
use Rattle.std.proofs.lemmas.List.{reverse-append}
use Rattle.dgn_audit.specs.declared.finding.Finding.{Finding}
use Rattle.dgn_audit.proofs.ElementHulls.{loud_locked}

-- what is asked of element n, which is found
module _ (d : Design) (n : ℕ) (f : ElementView) (found : IsElementView d n f) where
  pub dead_root : f.deleted ≡ true → Some (causes.Deleted n) ≡ against deleted n (slice_get (elements d) n)
  dead_root dead = ap (λ (t : Bool). cond t (Some (causes.Deleted n)) None) (sym dead ∙ found.deleted) ∙ ap (against deleted n) (sym found.there)

  pub live_root : f.deleted ≡ false → None ≡ against deleted n (slice_get (elements d) n)
  live_root lives = ap (λ (t : Bool). cond t (Some (causes.Deleted n)) None) (sym lives ∙ found.deleted) ∙ ap (against deleted n) (sym found.there)

  module _ (whole : IsWhole d) (spotted : IfSome (slice_get (elements d) n) (λ e. has_spots (class_of e.kind) ≡ true)) where
    spots : has_spots (class_of found.element.kind) ≡ true
    spots = holds_of (λ (e : Element). has_spots (class_of e.kind) ≡ true) (slice_get (elements d) n) found.element found.there spotted

    pub kind_spotted : has_spots (class_of f.kind) ≡ true
    kind_spotted = ap (λ (k : ℕ). has_spots (class_of k)) found.kind ∙ spots

    pub kind_holds : HoldsPoints d.dim f.kind f.bytes.now (length f.bytes.now)
    kind_holds = holds_found d whole n f found spots

    loud : is_silent (class_of found.element.kind) ≡ false
    loud = spots_loud (class_of found.element.kind) spots

    pub asked_long : 36 ≤ length f.bytes.now
    asked_long = long_found d whole n f found loud

    lock_is : says_locked (properties_of f.bytes.now) ≡ is_locked found.element.body
    lock_is = ap (λ (x : List ℕ). says_locked (properties_of x)) found.bytes ∙ loud_locked d.dim (axes_of d whole) found.element found.good loud

    pub locked_is : (t : Bool) → t ≡ says_locked (properties_of f.bytes.now)
        → cond t (Some (causes.Locked n)) None ≡ against lock_cause n (slice_get (elements d) n)
    locked_is t asked = ap (λ (x : Bool). cond x (Some (causes.Locked n)) None) (asked ∙ lock_is) ∙ ap (against lock_cause n) (sym found.there)

-- what an answer gives, in other words
pub ok_as : {V E : Type 0} (r : Result V E) (P Q : V → Type 0) → IfOk r P → ((v : V) → P v → Q v) → IfOk r Q
ok_as (Ok v) P Q p step = step v p
ok_as (Err e) P Q p step = tt

-- what holds of each of some read from the last on holds of the last
pub last_each : (P : Finding → Type 0) (all front : List Finding) (last : Finding) → all ≡ front ++ last ∷ [] → AllByRecursion P (reverse all) → P last
last_each P all front last is each =
    (subst (AllByRecursion P) (ap (reverse {A = Finding}) is ∙ reverse-append front (last ∷ [])) each).0
