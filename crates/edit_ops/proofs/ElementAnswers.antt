-- What is read of an element says what stands against an edit of it, and what the edit puts into it.
use Rattle.std.proofs.Common.{◌≡◌, ℕ, ◌+◌, ◌≤◌, List, [], ◌∷◌, length, Bool, true, false, cond, Option, Some, None, refl, sym, ap, ◌∙◌}
use Rattle.std.proofs.Common.{map, subst, arith}
use Rattle.std.specs.Prelude.{◌&&◌, not, slice_get, option_map}
use Rattle.std.specs.List.{AllByRecursion, list_all}
use Rattle.std.specs.Option.{option_to_list}
use Rattle.std.proofs.lemmas.List.{append-nil}
use Rattle.std.proofs.lemmas.List.Folds.{list_all-map}
use Rattle.range_code.specs.Plane.{is_on_plane}
use Rattle.elem_head.specs.declared.types.Symb.{Symb}
use Rattle.elem_head.specs.Head.{symbology_of, properties_of}
use Rattle.dgn_layout.specs.declared.types.Class.{Class}
use Rattle.dgn_layout.specs.Classes.{class_of, is_silent}
use Rattle.dgn_layout.specs.Spots.{spots_of, has_spots, HoldsPoints}
use Rattle.dgn_drawing.specs.declared.edit.Edit.{Edit}
use Rattle.dgn_drawing.specs.declared.edit.Edit.TheVariants as edit
use Rattle.dgn_drawing.specs.Values.{Displacement, LookChange}
use Rattle.dgn_drawing.specs.Element.{Body, Silent, Shown, Element, form_of_body}
use Rattle.dgn_drawing.specs.Forms.{form_of, form_in}
use Rattle.dgn_drawing.specs.Spelling.{spell}
use Rattle.dgn_drawing.specs.WellFormed.{IsDimension, IsWellFormed}
use Rattle.dgn_drawing.specs.Laws.{BodySits}
use Rattle.dgn_drawing.specs.Changes.{stays_on_plane}
use Rattle.dgn_drawing.specs.SpotNumbers.{sum_at}
use Rattle.dgn_drawing.proofs.FieldPlaces.{all-sits}
use Rattle.dgn_drawing.proofs.SpotValues.{holds_points, sits}
use Rattle.elem_index.specs.declared.design.Design.{Design}
use Rattle.elem_index.specs.Design.{elements, IsWhole}
use Rattle.elem_index.specs.Offsets.{offset_of}
use Rattle.edit_ops.specs.declared.causes.cause.Cause.TheVariants as causes
use Rattle.edit_ops.specs.declared.elements.element_view.ElementView.{ElementView}
use Rattle.edit_ops.specs.declared.causes.test.Test.{Test}
use Rattle.edit_ops.specs.declared.causes.test.Test.TheVariants as tests
use Rattle.edit_ops.specs.Trees.{Live, found_at}
use Rattle.edit_ops.specs.Causes.{says_locked, is_locked}
use Rattle.edit_ops.specs.Asking.{cause_in, MayBeAskedOf, locked_in}
use Rattle.edit_ops.specs.Rules.{displacing, recolouring, sum_put, look_put}
use Rattle.edit_ops.specs.Written.{live_puts, new_look}
use Rattle.edit_ops.specs.Putting.{MayBePut}
use Rattle.edit_ops.specs.ElementViews.{IsElementView}
use Rattle.edit_ops.proofs.ReadableElements.{IsShown, is_shown, shown_long, not_silent_form}
use Rattle.elem_index.proofs.Places.{axes_of}
use Rattle.edit_ops.proofs.DesignElements.{four_bytes}
use Rattle.edit_ops.proofs.WiderRanges.{one_of}

-- the test of the plane may be asked where the element has spots
pub asked_of_spots : (test : Test) (by : Displacement) (o : Option Element) (e : Element) → test ≡ tests.StaysOnPlane by → o ≡ Some e → MayBeAskedOf test o
    → has_spots (class_of e.kind) ≡ true
asked_of_spots test by o e is there asked =
    let known : MayBeAskedOf (tests.StaysOnPlane by) o = subst (λ (x : Test). MayBeAskedOf x o) is asked in
    subst (MayBeAskedOf (tests.StaysOnPlane by)) there known

-- what the test of the plane has against an element
pub plane_cause : (dim : ℕ) (test : Test) (by : Displacement) (m : ℕ) (o : Option Element) (e : Element) (b : Bool) → test ≡ tests.StaysOnPlane by → o ≡ Some e
    → stays_on_plane dim by e ≡ b
    → cause_in dim test m o ≡ cond b None (Some (causes.OffPlane m))
plane_cause dim test by m o e b is there stays =
    ap (λ (x : Test). cause_in dim x m o) is ∙ ap (cause_in dim (tests.StaysOnPlane by) m) there
    ∙ ap (λ (x : Bool). cond x None (Some (causes.OffPlane m))) stays

-- the body of a silent class isn't locked
unlocked : (class : Class) (kind : ℕ) (b : Body) → is_silent class ≡ true → form_in class kind ≡ form_of_body b → is_locked b ≡ false
unlocked class kind (Silent rest) silent is = refl
unlocked Class.Silent kind (Shown display parts rest) silent is = absurd (not_silent_form parts (sym is))
unlocked Class.Vertices kind (Shown display parts rest) silent is = absurd (let l = silent in cc)
unlocked Class.Words kind (Shown display parts rest) silent is = absurd (let l = silent in cc)
unlocked Class.Counted kind (Shown display parts rest) silent is = absurd (let l = silent in cc)
unlocked Class.Run kind (Shown display parts rest) silent is = absurd (let l = silent in cc)
unlocked Class.Floating kind (Shown display parts rest) silent is = absurd (let l = silent in cc)
unlocked Class.Boxed kind (Shown display parts rest) silent is = absurd (let l = silent in cc)

-- an element is locked where its bytes say so
lock_read : (dim : ℕ) (e : Element) → IsDimension dim → IsWellFormed dim e → (s : Bool) → is_silent (class_of e.kind) ≡ s
    → not s && says_locked (properties_of (spell e)) ≡ is_locked e.body
unfolding form_of
lock_read dim e axes good true silent = sym (unlocked (class_of e.kind) e.kind e.body silent good.form)
lock_read dim e axes good false loud =
    let shown = is_shown dim e good loud in
    let body : BodySits dim e (Shown shown.display shown.parts shown.rest) = subst (BodySits dim e) shown.body (all-sits dim e axes good).1 in
    ap says_locked body.0.properties ∙ ap is_locked (sym shown.body)

-- what the test of the lock has against an element
pub lock_cause : (dim : ℕ) (test : Test) (m : ℕ) (o : Option Element) (e : Element) (b : Bool) → test ≡ tests.Unlocked → o ≡ Some e → b ≡ is_locked e.body
    → cond b (Some (causes.Locked m)) None ≡ cause_in dim test m o
lock_cause dim test m o e b is there locks =
    ap (λ (x : Bool). cond x (Some (causes.Locked m)) None) locks ∙ ap (cause_in dim tests.Unlocked m) (sym there)
    ∙ ap (λ (x : Test). cause_in dim x m o) (sym is)

-- the edit may be put into the one element
pub readable_of : (e : Edit) (es : List Element) (m : ℕ) (v : Element) → slice_get es m ≡ Some v
    → AllByRecursion (λ (x : Live). MayBePut e x.element) (option_to_list (found_at es m)) → MayBePut e v
readable_of e es m v there each =
    let P : Option Element → Type 0 =
    λ o. AllByRecursion (λ (x : Live). MayBePut e x.element)
    (option_to_list (option_map (λ (x : Element). record { number = m; place = offset_of es m; element = x }) o)) in
    (subst P there each).0

module _ (d : Design) (whole : IsWhole d) (m : ℕ) (f : ElementView) (found : IsElementView d m f) where
  axes : IsDimension d.dim
  axes = axes_of d whole

  -- it has fields, where each that is found has
  pub spotted_found : AllByRecursion (λ (v : Live). has_spots (class_of v.element.kind) ≡ true) (option_to_list (found_at (elements d) m))
      → has_spots (class_of found.element.kind) ≡ true
  spotted_found each = one_of (λ (v : Live). has_spots (class_of v.element.kind) ≡ true) (elements d) m found.element found.there each

  -- it holds its points
  pub holds_found : has_spots (class_of found.element.kind) ≡ true → HoldsPoints d.dim f.kind f.bytes.now (length f.bytes.now)
  holds_found some =
      let held : HoldsPoints d.dim found.element.kind (spell found.element) (length (spell found.element)) =
      holds_points d.dim found.element axes found.good some in
      let by_kind : HoldsPoints d.dim f.kind (spell found.element) (length (spell found.element)) =
      subst (λ (k : ℕ). HoldsPoints d.dim k (spell found.element) (length (spell found.element))) (sym found.kind) held in
      subst (λ (b : List ℕ). HoldsPoints d.dim f.kind b (length b)) (sym found.bytes) by_kind

  -- it stays on the plane where each sum does
  pub stays_found : (by : Displacement) → has_spots (class_of found.element.kind) ≡ true
      → list_all (λ s. is_on_plane (sum_at by f.bytes.now s)) (spots_of d.dim f.kind f.bytes.now) ≡ stays_on_plane d.dim by found.element
  stays_found by some =
      let e : Element = found.element in
      ap (λ (k : ℕ). list_all (λ s. is_on_plane (sum_at by f.bytes.now s)) (spots_of d.dim k f.bytes.now)) found.kind
      ∙ ap (λ (b : List ℕ). list_all (λ s. is_on_plane (sum_at by b s)) (spots_of d.dim e.kind b)) found.bytes
      ∙ sym (list_all-map is_on_plane (sum_at by (spell e)) (spots_of d.dim e.kind (spell e)))
      ∙ ap (list_all is_on_plane) ((sits d.dim e axes found.good some).sums by)

  -- it has a display header where more is read of it than nothing
  shown_found : is_silent (class_of found.element.kind) ≡ false → IsShown found.element
  shown_found loud = is_shown d.dim found.element found.good loud

  pub long_found : is_silent (class_of found.element.kind) ≡ false → 36 ≤ length f.bytes.now
  long_found loud = omega (arith, shown_long d.dim found.element found.good (shown_found loud), ap (length {A = ℕ}) found.bytes)

  pub four_found : 4 ≤ length f.bytes.now
  four_found = omega (arith, four_bytes found.element, ap (length {A = ℕ}) found.bytes)

  -- its look is the one that is read
  look_read : (loud : is_silent (class_of found.element.kind) ≡ false)
      → symbology_of (spell found.element)
      ≡ record { color = (shown_found loud).display.color; weight = (shown_found loud).display.weight; style = (shown_found loud).display.style }
  look_read loud =
      let shown = shown_found loud in
      let body : BodySits d.dim found.element (Shown shown.display shown.parts shown.rest) =
      subst (BodySits d.dim found.element) shown.body (all-sits d.dim found.element axes found.good).1 in
      body.0.symbology

  -- what another look puts into it
  pub look_found : (change : LookChange) → is_silent (class_of found.element.kind) ≡ false
      → live_puts (recolouring change) (option_to_list (found_at (elements d) m))
      ≡ record { at = f.place + 34; bytes = new_look change (symbology_of f.bytes.now) } ∷ []
  look_found change loud =
      let shown = shown_found loud in
      let e : Element = found.element in
      ap (λ (o : Option Element). live_puts (recolouring change)
      (option_to_list (option_map (λ (x : Element). record { number = m; place = offset_of (elements d) m; element = x }) o))) found.there
      ∙ append-nil (look_put change (offset_of (elements d) m) e.body)
      ∙ ap (look_put change (offset_of (elements d) m)) shown.body
      ∙ ap (λ (s : Symb). record { at = offset_of (elements d) m + 34; bytes = new_look change s } ∷ []) (sym (look_read loud))
      ∙ ap (λ (p : ℕ). record { at = p + 34; bytes = new_look change (symbology_of (spell e)) } ∷ []) (sym found.place)
      ∙ ap (λ (b : List ℕ). record { at = f.place + 34; bytes = new_look change (symbology_of b) } ∷ []) (sym found.bytes)

  -- what a move or a copy puts into it
  pub moved_found : (by : Displacement) → live_puts (displacing d.dim by) (option_to_list (found_at (elements d) m))
      ≡ map (sum_put by f.place f.bytes.now) (spots_of d.dim f.kind f.bytes.now)
  moved_found by =
      let e : Element = found.element in
      ap (λ (o : Option Element). live_puts (displacing d.dim by)
      (option_to_list (option_map (λ (x : Element). record { number = m; place = offset_of (elements d) m; element = x }) o))) found.there
      ∙ append-nil (map (sum_put by (offset_of (elements d) m) (spell e)) (spots_of d.dim e.kind (spell e)))
      ∙ ap (λ (p : ℕ). map (sum_put by p (spell e)) (spots_of d.dim e.kind (spell e))) (sym found.place)
      ∙ ap (λ (k : ℕ). map (sum_put by f.place (spell e)) (spots_of d.dim k (spell e))) (sym found.kind)
      ∙ ap (λ (b : List ℕ). map (sum_put by f.place b) (spots_of d.dim f.kind b)) (sym found.bytes)

  -- it is locked where its bytes say so
  pub lock_found : locked_in f.kind f.bytes.now ≡ is_locked found.element.body
  lock_found =
      let e : Element = found.element in
      ap (λ (k : ℕ). locked_in k f.bytes.now) found.kind
      ∙ ap (locked_in e.kind) found.bytes
      ∙ lock_read d.dim e axes found.good (is_silent (class_of e.kind)) refl
