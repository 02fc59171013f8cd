-- Which of some live elements a move or a copy would have leave the design plane, one after the other.
use Rattle.std.proofs.Common.{◌≡◌, ℕ, ◌+◌, ◌<◌, List, ◌++◌, length, drop, get_or, true, Option, None, Result, Ok, Err, refl, sym, ap, ◌∙◌, subst}
use Rattle.std.specs.Prelude.{slice_get, OnOk, IfErr}
use Rattle.std.specs.List.{AllByRecursion, list_all}
use Rattle.std.specs.Option.{option_or, option_to_list}
use Rattle.range_code.specs.Plane.{is_on_plane}
use Rattle.dgn_layout.specs.Classes.{class_of}
use Rattle.dgn_layout.specs.Spots.{has_spots, spots_of}
use Rattle.dgn_drawing.specs.declared.edit.Edit.{Edit}
use Rattle.dgn_drawing.specs.declared.edit.Edit.TheVariants as edit
use Rattle.dgn_drawing.specs.Values.{Displacement}
use Rattle.dgn_drawing.specs.Element.{Element}
use Rattle.dgn_drawing.specs.Changes.{stays_on_plane}
use Rattle.dgn_drawing.specs.SpotNumbers.{sum_at}
use Rattle.elem_index.specs.declared.design.Design.{Design}
use Rattle.elem_index.specs.Design.{elements, IsWhole}
use Rattle.edit_ops.specs.declared.causes.cause.Cause.{Cause}
use Rattle.edit_ops.specs.declared.causes.cause.Cause.TheVariants as causes
use Rattle.edit_ops.specs.declared.causes.edit_fault.EditFault.{EditFault}
use Rattle.edit_ops.specs.declared.causes.edit_fault.EditFault.TheVariants as faults
use Rattle.edit_ops.specs.declared.elements.element_view.ElementView.{ElementView}
use Rattle.edit_ops.specs.declared.causes.test.Test.TheVariants as tests
use Rattle.edit_ops.specs.Trees.{Live, found_at}
use Rattle.edit_ops.specs.Causes.{off_plane, cause_at, first_cause}
use Rattle.edit_ops.specs.Written.{lives_of, IsReady}
use Rattle.edit_ops.specs.ElementViews.{IsElementView}
use Rattle.edit_ops.proofs.AcceptedEdit.{met, movable, none_first}
use Rattle.edit_ops.proofs.EditedBytes.{all_both, all_so}
use Rattle.edit_ops.proofs.ListedLive.{found_next, cause_both, cause_alone}
use Rattle.edit_ops.specs.Copying.{IsStopped, AddsUnless}
use Rattle.edit_ops.specs.Putting.{MayBePut, leaving}
use Rattle.edit_ops.proofs.ElementAnswers.{plane_cause, stays_found}

-- the first of joined elements that leaves is the first of the first list, and else of the second
pub leaving_both : (dim : ℕ) (e : Edit) (us vs : List Live) → leaving dim e (us ++ vs) ≡ option_or (leaving dim e us) (leaving dim e vs)
leaving_both dim (edit.Move n by) us vs = cause_both dim (tests.StaysOnPlane by) us vs
leaving_both dim (edit.Copy n by) us vs = cause_both dim (tests.StaysOnPlane by) us vs
leaving_both dim (edit.Sym n change) us vs = refl
leaving_both dim (edit.Delete n) us vs = refl
leaving_both dim (edit.Append new) us vs = refl

-- so it is the next of those that are left, or one behind it
pub leaving_next : (dim : ℕ) (e : Edit) (es : List Element) (live : List ℕ) (i : ℕ) → i < length live
    → leaving dim e (lives_of es (drop i live))
    ≡ option_or (leaving dim e (option_to_list (found_at es (get_or live i 0)))) (leaving dim e (lives_of es (drop (i + 1) live)))
leaving_next dim e es live i within =
    ap (leaving dim e) (found_next es live i within)
    ∙ leaving_both dim e (option_to_list (found_at es (get_or live i 0))) (lives_of es (drop (i + 1) live))

-- where the first of two stops, both do
pub stopped_first : (a b : Option Cause) (fault : EditFault) → IsStopped a fault → IsStopped (option_or a b) fault
stopped_first a b (faults.Refused c) is = ap (λ (o : Option Cause). option_or o b) is
stopped_first a b faults.Memory is = tt

-- an edit may be made of elements into which it may be put, where none leaves
pub ready_staying : (dim : ℕ) (e : Edit) (vs : List Live) → AllByRecursion (λ v. MayBePut e v.element) vs → leaving dim e vs ≡ None
    → AllByRecursion (λ v. IsReady dim e v.element) vs
ready_staying dim (edit.Move n by) vs fits stay =
    all_both (λ v. MayBePut (edit.Move n by) v.element) (λ v. cause_at dim (tests.StaysOnPlane by) v.number v.element ≡ None)
    (λ v. IsReady dim (edit.Move n by) v.element)
    (λ v spots stays. (spots, met (stays_on_plane dim by v.element) (causes.OffPlane v.number) stays)) vs fits (none_first dim (tests.StaysOnPlane by) vs stay)
ready_staying dim (edit.Copy n by) vs fits stay =
    all_both (λ v. MayBePut (edit.Copy n by) v.element) (λ v. cause_at dim (tests.StaysOnPlane by) v.number v.element ≡ None)
    (λ v. IsReady dim (edit.Copy n by) v.element)
    (λ v spots stays. (spots, met (stays_on_plane dim by v.element) (causes.OffPlane v.number) stays)) vs fits (none_first dim (tests.StaysOnPlane by) vs stay)
ready_staying dim (edit.Sym n change) vs fits stay = fits
ready_staying dim (edit.Delete n) vs fits stay = fits
ready_staying dim (edit.Append new) vs fits stay = fits

-- a copy may be put into elements that can be moved
pub movable_fit : (dim n : ℕ) (by : Displacement) (vs : List Live) → first_cause dim tests.Moves vs ≡ None
    → AllByRecursion (λ v. MayBePut (edit.Copy n by) v.element) vs
movable_fit dim n by vs none =
    all_so (λ v. cause_at dim tests.Moves v.number v.element ≡ None) (λ v. MayBePut (edit.Copy n by) v.element)
    (λ v moves. movable v.number (class_of v.element.kind) moves) vs (none_first dim tests.Moves vs none)

-- whether one element leaves is told by its sums
pub leaving_found : (d : Design) (whole : IsWhole d) (m : ℕ) (f : ElementView) (found : IsElementView d m f) (by : Displacement)
    → has_spots (class_of found.element.kind) ≡ true
    → first_cause d.dim (tests.StaysOnPlane by) (option_to_list (found_at (elements d) m))
    ≡ off_plane m (list_all (λ s. is_on_plane (sum_at by f.bytes.now s)) (spots_of d.dim f.kind f.bytes.now))
leaving_found d whole m f found by spots =
    cause_alone d.dim (tests.StaysOnPlane by) (elements d) m
    ∙ plane_cause d.dim (tests.StaysOnPlane by) by m (slice_get (elements d) m) found.element
    (list_all (λ s. is_on_plane (sum_at by f.bytes.now s)) (spots_of d.dim f.kind f.bytes.now)) refl found.there
    (sym (stays_found d whole m f found by spots))

-- what was added, where nothing stood against it, or the cause
pub adds_of : {A : Type 0} (cause : Option Cause) (added : List A) (r : Result (Unit {0}) EditFault) (old new : List A)
    → OnOk r (new ≡ old ++ added) → OnOk r (cause ≡ None) → IfErr r (IsStopped cause) → AddsUnless cause added r old new
adds_of cause added (Ok x) old new are free stopped = (are, free)
adds_of cause added (Err fault) old new are free stopped = stopped

-- what is added unless a cause stands, by the same cause and the same that is added
pub adds_same : {A : Type 0} {cause other : Option Cause} {added same : List A} (r : Result (Unit {0}) EditFault) (old new : List A)
    → cause ≡ other → added ≡ same → AddsUnless other same r old new → AddsUnless cause added r old new
adds_same {A} {cause} {other} {added} {same} r old new causes are adds =
    subst (λ (o : Option Cause). AddsUnless o added r old new) (sym causes)
    (subst (λ (l : List A). AddsUnless other l r old new) (sym are) adds)
