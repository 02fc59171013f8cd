-- The copy of a part that is one live element by itself.
use Rattle.std.proofs.Common.{◌≡◌, ◌%◌, ℕ, List, ◌++◌, length, map, Bool, true, Option, None, refl, sym, ap, ◌∙◌}
use Rattle.std.specs.Prelude.{slice_get, slice_index, slice_set, option_map}
use Rattle.std.specs.List.{list_all}
use Rattle.std.specs.Option.{option_or, option_to_list}
use Rattle.std.proofs.lemmas.List.{append-nil}
use Rattle.range_code.specs.Plane.{is_on_plane}
use Rattle.dgn_layout.specs.Classes.{class_of}
use Rattle.dgn_layout.specs.Spots.{spots_of, has_spots, HoldsPoints}
use Rattle.dgn_drawing.specs.declared.edit.Edit.TheVariants as edit
use Rattle.dgn_drawing.specs.Values.{Displacement, IsShift}
use Rattle.dgn_drawing.specs.Element.{Element}
use Rattle.dgn_drawing.specs.Nesting.{flat, forest}
use Rattle.dgn_drawing.specs.Rows.{row_of}
use Rattle.dgn_drawing.specs.SpotNumbers.{sum_at}
use Rattle.dgn_drawing.specs.Spelling.{spell, spelling}
use Rattle.elem_index.specs.Offsets.{offset_of}
use Rattle.elem_index.specs.declared.design.Design.{Design}
use Rattle.elem_index.specs.Design.{elements, IsWhole}
use Rattle.elem_index.proofs.Places.{axes_of}
use Rattle.patch_bytes.specs.Puts.{write}
use Rattle.edit_ops.specs.declared.causes.cause.Cause.{Cause}
use Rattle.edit_ops.specs.declared.elements.element_view.ElementView.{ElementView}
use Rattle.edit_ops.specs.declared.causes.test.Test.TheVariants as tests
use Rattle.edit_ops.specs.Trees.{Live, tree_at, found_at, live_tree}
use Rattle.edit_ops.specs.Causes.{unmovable, off_plane, first_cause}
use Rattle.edit_ops.specs.Asking.{cause_in}
use Rattle.edit_ops.specs.Rules.{displacing, sum_put}
use Rattle.edit_ops.specs.Written.{live_puts, IsReady}
use Rattle.edit_ops.specs.Copying.{tree_copy, copy_cause}
use Rattle.edit_ops.specs.ElementViews.{IsElementView}
use Rattle.edit_ops.proofs.AcceptedEdit.{copy_ready}
use Rattle.edit_ops.proofs.KeptRules.{edit_keeps}
use Rattle.edit_ops.proofs.CopiedPart.{bytes_copied}
use Rattle.edit_ops.proofs.ListedLive.{cause_alone}
use Rattle.edit_ops.proofs.ElementMoves.{moves_found, some_spots}
use Rattle.edit_ops.proofs.ElementAnswers.{holds_found, plane_cause, stays_found}

module _ (d : Design) (whole : IsWhole d) (n : ℕ) (f : ElementView) (found : IsElementView d n f)
    (one : live_tree (elements d) n ≡ option_to_list (found_at (elements d) n)) (by : Displacement) where
  abbrev es : List Element
  es = elements d

  abbrev its : Option Element
  its = slice_get (elements d) n

  abbrev stays : Bool
  stays = list_all (λ s. is_on_plane (sum_at by f.bytes.now s)) (spots_of d.dim f.kind f.bytes.now)

  -- what refuses it
  copy_alone : copy_cause d.dim (elements d) by n ≡ option_or (unmovable n (class_of f.kind))
      (cause_in d.dim (tests.StaysOnPlane by) n (slice_get (elements d) n))
  copy_alone =
      ap (λ (l : List Live). option_or (first_cause d.dim tests.Moves l) (first_cause d.dim (tests.StaysOnPlane by) l)) one
      ∙ ap (λ (c : Option Cause). option_or c (first_cause d.dim (tests.StaysOnPlane by) (option_to_list (found_at es n))))
      (cause_alone d.dim tests.Moves es n ∙ sym (moves_found d whole n f found))
      ∙ ap (option_or (unmovable n (class_of f.kind))) (cause_alone d.dim (tests.StaysOnPlane by) es n)

  pub unmoved : (c : Option Cause) → unmovable n (class_of f.kind) ≡ c
      → copy_cause d.dim (elements d) by n ≡ option_or c (cause_in d.dim (tests.StaysOnPlane by) n (slice_get (elements d) n))
  unmoved c is = copy_alone ∙ ap (λ (o : Option Cause). option_or o (cause_in d.dim (tests.StaysOnPlane by) n its)) is

  module _ (movable : unmovable n (class_of f.kind) ≡ None) where
    spots : has_spots (class_of found.element.kind) ≡ true
    spots = some_spots d whole n f found movable

    pub points_held : HoldsPoints d.dim f.kind f.bytes.now (length f.bytes.now)
    points_held = holds_found d whole n f found spots

    -- that it leaves the plane
    pub copy_leaves_plane : copy_cause d.dim (elements d) by n
        ≡ off_plane n (list_all (λ s. is_on_plane (sum_at by f.bytes.now s)) (spots_of d.dim f.kind f.bytes.now))
    copy_leaves_plane = unmoved None movable
        ∙ plane_cause d.dim (tests.StaysOnPlane by) by n its found.element stays refl found.there (sym (stays_found d whole n f found by spots))

    -- what it puts into the bytes of the element
    puts_alone : live_puts (displacing d.dim by) (live_tree (elements d) n) ≡ map (sum_put by f.place f.bytes.now) (spots_of d.dim f.kind f.bytes.now)
    puts_alone =
        let e : Element = found.element in
        ap (live_puts (displacing d.dim by)) one
        ∙ ap (λ (o : Option Element). live_puts (displacing d.dim by)
        (option_to_list (option_map (λ (x : Element). record { number = n; place = offset_of (elements d) n; element = x }) o))) found.there
        ∙ append-nil (map (sum_put by (offset_of (elements d) n) (spell e)) (spots_of d.dim e.kind (spell e)))
        ∙ ap (λ (k : ℕ). map (sum_put by (offset_of (elements d) n) (spell e)) (spots_of d.dim k (spell e))) (sym found.kind)
        ∙ ap (λ (p : ℕ). map (sum_put by p (spell e)) (spots_of d.dim f.kind (spell e))) (sym found.place)
        ∙ ap (λ (b : List ℕ). map (sum_put by f.place b) (spots_of d.dim f.kind b)) (sym found.bytes)

    -- so these laid there, and the head freed, give the copy
    pub alone_copied : IsShift by → spelling (flat (tree_at n (forest row_of (elements d)))) ≡ f.bytes.now
        → list_all (λ s. is_on_plane (sum_at by f.bytes.now s)) (spots_of d.dim f.kind f.bytes.now) ≡ true
        → (laid : List ℕ) → ((a : List ℕ) → length a ≡ f.place
        → write (a ++ f.bytes.now) (map (sum_put by f.place f.bytes.now) (spots_of d.dim f.kind f.bytes.now)) ≡ a ++ laid)
        → slice_set laid 0 (slice_index laid 0 % 128) ≡ spelling (flat (tree_copy d.dim (elements d) by n))
    alone_copied fits part all laid give =
        let none : copy_cause d.dim es by n ≡ None = copy_leaves_plane ∙ ap (off_plane n) all in
        bytes_copied d.dim es (displacing d.dim by) (IsReady d.dim (edit.Copy n by)) (edit_keeps d.dim (axes_of d whole) (edit.Copy n by) fits) n
        whole.is_open.opens.each (copy_ready d.dim by n (live_tree es n) none)
        f.place f.bytes.now
        (map (sum_put by f.place f.bytes.now) (spots_of d.dim f.kind f.bytes.now)) found.place (sym part) (sym puts_alone) laid give
