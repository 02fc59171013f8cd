-- Wider numbers are put at those spots that hold range numbers, and the headers above a moved element are made to
-- hold its range.
use Rattle.std.proofs.Common.{◌≡◌, ℕ, zero, suc, ◌+◌, ◌*◌, if◌then◌else◌, ◌≤◌, List, [], ◌∷◌, ◌++◌, length, take, Bool, true, false}
use Rattle.std.proofs.Common.{Option, Some, None, refl, sym, ap, ap₂, ◌∙◌, subst, inl, inr, arith}
use Rattle.std.specs.Prelude.{ℤ, pos, ◌+ℤ◌, ◌&&◌, slice_get, option_map, IfSome}
use Rattle.std.specs.List.{AllByRecursion, flat_map, list_all}
use Rattle.std.specs.Option.{option_to_list}
use Rattle.std.proofs.lemmas.Bool.{and_parts}
use Rattle.std.proofs.lemmas.Int.{ints}
use Rattle.std.proofs.lemmas.List.{append-nil}
use Rattle.range_code.specs.declared.Box3.{Box3}
use Rattle.range_code.specs.Plane.{is_on_plane}
use Rattle.range_code.specs.Ranges.{corner_at, on_axis}
use Rattle.dgn_layout.specs.Classes.{class_of, is_silent}
use Rattle.dgn_layout.specs.Spots.{has_spots, fields_from, points_spots, range_spots, spots_of, spots_with, points_in, Points}
use Rattle.dgn_layout.specs.declared.spot.Spot.{Spot}
use Rattle.dgn_layout.specs.declared.types.Class.{Class}
use Rattle.patch_bytes.specs.Puts.{Put}
use Rattle.dgn_drawing.specs.declared.edit.Edit.{Edit}
use Rattle.dgn_drawing.specs.declared.edit.Edit.TheVariants as edit
use Rattle.dgn_drawing.specs.Values.{Displacement}
use Rattle.dgn_drawing.specs.Element.{Body, Shown, Element}
use Rattle.dgn_drawing.specs.Spelling.{spell}
use Rattle.dgn_drawing.specs.WellFormed.{IsDimension}
use Rattle.dgn_drawing.specs.Laws.{BodySits, DisplaySits}
use Rattle.dgn_drawing.specs.Changes.{displaced, body_displaced, numbers_in, stays_on_plane}
use Rattle.dgn_drawing.proofs.FieldPlaces.{all-sits}
use Rattle.elem_index.specs.declared.design.Design.{Design}
use Rattle.elem_index.specs.Design.{elements, IsWhole}
use Rattle.elem_index.specs.Offsets.{offset_of}
use Rattle.edit_ops.specs.declared.elements.element_view.ElementView.{ElementView}
use Rattle.edit_ops.specs.ElementViews.{IsElementView}
use Rattle.edit_ops.specs.Trees.{Live, found_at}
use Rattle.edit_ops.specs.Rules.{rule_of, moving, wider_puts, holding_puts}
use Rattle.edit_ops.specs.Written.{above_puts}
use Rattle.edit_ops.proofs.ReadableElements.{IsShown, is_shown, shown_long}
use Rattle.elem_index.proofs.Places.{axes_of}

-- those of some spots that hold range numbers
abbrev pub of_ranges : List Spot → List Spot
of_ranges [] = []
of_ranges (s ∷ ss) = if s.offset then s ∷ of_ranges ss else of_ranges ss

ranges_step : (t : Bool) (x : Spot) (ss ts us : List Spot) → us ≡ ss ++ ts → (if t then x ∷ us else us) ≡ (if t then x ∷ ss else ss) ++ ts
ranges_step true x ss ts us is = ap (λ (l : List Spot). x ∷ l) is
ranges_step false x ss ts us is = is

ranges-append : (xs ys : List Spot) → of_ranges (xs ++ ys) ≡ of_ranges xs ++ of_ranges ys
ranges-append [] ys = refl
ranges-append (x ∷ xs) ys = ranges_step x.offset x (of_ranges xs) (of_ranges ys) (of_ranges (xs ++ ys)) (ranges-append xs ys)

ranges-fields : (n axis p : ℕ) → of_ranges (fields_from true n axis p) ≡ fields_from true n axis p
ranges-fields zero axis p = refl
ranges-fields (suc n) axis p = ap (λ (ss : List Spot). record { at = p; axis = axis; offset = true } ∷ ss) (ranges-fields n (axis + 1) (p + 4))

ranges-point : (n axis p : ℕ) → of_ranges (fields_from false n axis p) ≡ []
ranges-point zero axis p = refl
ranges-point (suc n) axis p = ranges-point n (axis + 1) (p + 4)

ranges-points : (n dim p : ℕ) → of_ranges (points_spots n dim p) ≡ []
ranges-points zero dim p = refl
ranges-points (suc n) dim p =
    ranges-append (fields_from false dim 0 p) (points_spots n dim (p + 4 * dim))
    ∙ ap (λ (ss : List Spot). ss ++ of_ranges (points_spots n dim (p + 4 * dim))) (ranges-point dim 0 p) ∙ ranges-points n dim (p + 4 * dim)

ranges-range : (dim : ℕ) → of_ranges (range_spots dim) ≡ range_spots dim
ranges-range dim =
    ranges-append (fields_from true dim 0 4) (fields_from true dim 0 16)
    ∙ ap₂ (λ (x y : List Spot). x ++ y) (ranges-fields dim 0 4) (ranges-fields dim 0 16)

-- of an element that has spots they are those of its range
pub ranges_are : (dim kind : ℕ) (b : List ℕ) → has_spots (class_of kind) ≡ true → of_ranges (spots_of dim kind b) ≡ range_spots dim
ranges_are dim kind b some =
    let points : Points = points_in (class_of kind) dim kind b in
    ap (λ (t : Bool). of_ranges (spots_with t dim points)) some
    ∙ ranges-append (range_spots dim) (points_spots points.count dim points.start)
    ∙ ap₂ (λ (x y : List Spot). x ++ y) (ranges-range dim) (ranges-points points.count dim points.start)
    ∙ append-nil (range_spots dim)

-- what is put into headers made wider
abbrev pub all_wider : ℕ → Box3 → List Live → List Put
all_wider dim r vs = flat_map (λ v. wider_puts dim r v.place (spell v.element)) vs

-- where nothing is put into any header, nothing is put
nothing : (vs : List Live) → flat_map {X = Live} {A = Put} (λ v. []) vs ≡ []
nothing [] = refl
nothing (v ∷ vs) = nothing vs

-- without an element nothing is put into headers
pub above_none : (dim : ℕ) (e : Edit) (vs : List Live) → above_puts (rule_of dim e) None vs ≡ []
above_none dim (edit.Move n by) vs = nothing vs
above_none dim (edit.Copy n by) vs = nothing vs
above_none dim (edit.Sym n change) vs = nothing vs
above_none dim (edit.Delete n) vs = nothing vs
above_none dim (edit.Append new) vs = nothing vs

-- an edit that moves nothing puts nothing into headers
pub above_still : (dim : ℕ) (e : Edit) (head : Option Element) (vs : List Live) → ((n : ℕ) (by : Displacement) → ¬ (e ≡ edit.Move n by))
    → above_puts (rule_of dim e) head vs ≡ []
above_still dim (edit.Move n by) head vs still = absurd (still n by refl)
above_still dim (edit.Copy n by) head vs still = nothing vs
above_still dim (edit.Sym n change) head vs still = nothing vs
above_still dim (edit.Delete n) head vs still = nothing vs
above_still dim (edit.Append new) head vs still = nothing vs

-- what holds of the element that is there
pub holds_of : (P : Element → Type 0) (o : Option Element) (e : Element) → o ≡ Some e → IfSome o P → P e
holds_of P o e there holds = subst (λ (x : Option Element). IfSome x P) there holds

-- adding 0 changes nothing
plus-zero : (x : ℤ) → x ≡ x +ℤ pos 0
plus-zero x = grind (arith, ints)

-- a corner displaced along two axes, and along three
pub displaced_two : (by : List ℤ) (x y z : ℤ) → displaced (take 2 by) (x ∷ y ∷ z ∷ []) ≡ (x +ℤ on_axis by 0) ∷ (y +ℤ on_axis by 1) ∷ z ∷ []
displaced_two [] x y z = let a = plus-zero x in let b = plus-zero y in cc
displaced_two (d ∷ []) x y z = let b = plus-zero y in cc
displaced_two (d ∷ f ∷ more) x y z = refl

pub displaced_three : (by : List ℤ) (x y z : ℤ) → displaced (take 3 by) (x ∷ y ∷ z ∷ []) ≡ (x +ℤ on_axis by 0) ∷ (y +ℤ on_axis by 1) ∷ (z +ℤ on_axis by 2) ∷ []
displaced_three [] x y z = let a = plus-zero x in let b = plus-zero y in let c = plus-zero z in cc
displaced_three (d ∷ []) x y z = let b = plus-zero y in let c = plus-zero z in cc
displaced_three (d ∷ f ∷ []) x y z = let c = plus-zero z in cc
displaced_three (d ∷ f ∷ g ∷ more) x y z = refl

-- numbers that are moved, or stay along z, are the corner displaced
pub corner_two : (dim : ℕ) (by : List ℤ) (x y z a b c : ℤ) → IsDimension dim → ¬ (dim ≡ 3) → a ≡ x +ℤ on_axis by 0 → b ≡ y +ℤ on_axis by 1 → c ≡ z
    → a ∷ b ∷ c ∷ [] ≡ displaced (take dim by) (x ∷ y ∷ z ∷ [])
corner_two dim by x y z a b c (inr three) flat first second third = absurd (flat three)
corner_two dim by x y z a b c (inl two) flat first second third =
    let is : a ∷ b ∷ c ∷ [] ≡ displaced (take 2 by) (x ∷ y ∷ z ∷ []) = let e = displaced_two by x y z in cc in
    subst (λ (d : ℕ). a ∷ b ∷ c ∷ [] ≡ displaced (take d by) (x ∷ y ∷ z ∷ [])) (sym two) is

pub corner_three : (dim : ℕ) (by : List ℤ) (x y z a b c : ℤ) → dim ≡ 3 → a ≡ x +ℤ on_axis by 0 → b ≡ y +ℤ on_axis by 1 → c ≡ z +ℤ on_axis by 2
    → a ∷ b ∷ c ∷ [] ≡ displaced (take dim by) (x ∷ y ∷ z ∷ [])
corner_three dim by x y z a b c three first second third =
    let is : a ∷ b ∷ c ∷ [] ≡ displaced (take 3 by) (x ∷ y ∷ z ∷ []) = let e = displaced_three by x y z in cc in
    subst (λ (d : ℕ). a ∷ b ∷ c ∷ [] ≡ displaced (take d by) (x ∷ y ∷ z ∷ [])) (sym three) is

-- each moved number of a corner that stays on the plane does
pub record StaysOn (dim : ℕ) (by : List ℤ) (x y z : ℤ) : Type 0 where
  pub first : is_on_plane (x +ℤ on_axis by 0) ≡ true
  pub second : is_on_plane (y +ℤ on_axis by 1) ≡ true
  pub third : dim ≡ 3 → is_on_plane (z +ℤ on_axis by 2) ≡ true

pub stays_on : (dim : ℕ) (by : List ℤ) (x y z : ℤ) → IsDimension dim → list_all is_on_plane (take dim (displaced (take dim by) (x ∷ y ∷ z ∷ []))) ≡ true
    → StaysOn dim by x y z
stays_on dim by x y z (inl two) on =
    let here : list_all is_on_plane (take 2 (displaced (take 2 by) (x ∷ y ∷ z ∷ []))) ≡ true =
    subst (λ (d : ℕ). list_all is_on_plane (take d (displaced (take d by) (x ∷ y ∷ z ∷ []))) ≡ true) two on in
    let both : list_all is_on_plane ((x +ℤ on_axis by 0) ∷ (y +ℤ on_axis by 1) ∷ []) ≡ true =
    subst (λ (v : List ℤ). list_all is_on_plane (take 2 v) ≡ true) (displaced_two by x y z) here in
    let one = and_parts (is_on_plane (x +ℤ on_axis by 0)) _ both in
    let other = and_parts (is_on_plane (y +ℤ on_axis by 1)) _ one.1 in
    record { first = one.0; second = other.0; third = λ three. absurd (omega (arith, two, three)) }
stays_on dim by x y z (inr three) on =
    let here : list_all is_on_plane (take 3 (displaced (take 3 by) (x ∷ y ∷ z ∷ []))) ≡ true =
    subst (λ (d : ℕ). list_all is_on_plane (take d (displaced (take d by) (x ∷ y ∷ z ∷ []))) ≡ true) three on in
    let all : list_all is_on_plane ((x +ℤ on_axis by 0) ∷ (y +ℤ on_axis by 1) ∷ (z +ℤ on_axis by 2) ∷ []) ≡ true =
    subst (λ (v : List ℤ). list_all is_on_plane (take 3 v) ≡ true) (displaced_three by x y z) here in
    let one = and_parts (is_on_plane (x +ℤ on_axis by 0)) _ all in
    let other = and_parts (is_on_plane (y +ℤ on_axis by 1)) _ one.1 in
    let last = and_parts (is_on_plane (z +ℤ on_axis by 2)) _ other.1 in
    record { first = one.0; second = other.0; third = λ is. last.0 }

-- the tests of two lists in one are those of each
both_pass : (xs ys : List ℤ) → list_all is_on_plane (xs ++ ys) ≡ true → (list_all is_on_plane xs ≡ true) × (list_all is_on_plane ys ≡ true)
both_pass [] ys all = (refl, all)
both_pass (x ∷ xs) ys all =
    let two = and_parts (is_on_plane x) (list_all is_on_plane (xs ++ ys)) all in
    let more = both_pass xs ys two.1 in
    (ap (λ (t : Bool). t && list_all is_on_plane xs) two.0 ∙ more.0, more.1)

-- a class that has spots isn't silent
pub spots_loud : (c : Class) → has_spots c ≡ true → is_silent c ≡ false
spots_loud Class.Vertices some = refl
spots_loud Class.Words some = refl
spots_loud Class.Counted some = refl
spots_loud Class.Run some = refl
spots_loud Class.Floating some = refl
spots_loud Class.Boxed some = refl
spots_loud Class.Silent some = absurd (let x = some in cc)

-- the displaced range of bytes
abbrev pub range_moved : ℕ → Displacement → List ℕ → Box3
range_moved dim by b = record { lo = displaced (take dim by.by) (corner_at b 4); hi = displaced (take dim by.by) (corner_at b 16) }

module _ (d : Design) (whole : IsWhole d) (m : ℕ) (f : ElementView) (here : IsElementView d m f) where
  -- the display header of an element that has one
  header_sits : (shown : IsShown here.element) → DisplaySits (spell here.element) shown.display
  header_sits shown =
      let body : BodySits d.dim here.element (Shown shown.display shown.parts shown.rest) =
      subst (BodySits d.dim here.element) shown.body (all-sits d.dim here.element (axes_of d whole) here.good).1 in
      body.0

  -- an element with spots has a display header
  with_spots : has_spots (class_of here.element.kind) ≡ true → IsShown here.element
  with_spots some = is_shown d.dim here.element here.good (spots_loud (class_of here.element.kind) some)

  -- and is long enough to be read
  pub long_spots : has_spots (class_of here.element.kind) ≡ true → 36 ≤ length f.bytes.now
  long_spots some = omega (arith, shown_long d.dim here.element here.good (with_spots some), ap (length {A = ℕ}) here.bytes)

  -- the corners that are read are those of its range
  low_read : (shown : IsShown here.element) → corner_at f.bytes.now 4 ≡ shown.display.low
  low_read shown = ap (λ (b : List ℕ). corner_at b 4) here.bytes ∙ ap (λ (r : Box3). r.lo) (header_sits shown).range

  high_read : (shown : IsShown here.element) → corner_at f.bytes.now 16 ≡ shown.display.high
  high_read shown = ap (λ (b : List ℕ). corner_at b 16) here.bytes ∙ ap (λ (r : Box3). r.hi) (header_sits shown).range

  -- both corners stay on the plane where the element does
  pub corners_stay : (by : Displacement) → has_spots (class_of here.element.kind) ≡ true → stays_on_plane d.dim by here.element ≡ true
      → (list_all is_on_plane (take d.dim (displaced (take d.dim by.by) (corner_at f.bytes.now 4))) ≡ true)
      × (list_all is_on_plane (take d.dim (displaced (take d.dim by.by) (corner_at f.bytes.now 16))) ≡ true)
  corners_stay by some stays =
      let shown = with_spots some in
      let all : list_all is_on_plane (numbers_in d.dim (body_displaced (take d.dim by.by) (Shown shown.display shown.parts shown.rest))) ≡ true =
      subst (λ (body : Body). list_all is_on_plane (numbers_in d.dim (body_displaced (take d.dim by.by) body)) ≡ true) shown.body stays in
      let low = both_pass (take d.dim (displaced (take d.dim by.by) shown.display.low)) _ all in
      let high = both_pass (take d.dim (displaced (take d.dim by.by) shown.display.high)) _ low.1 in (
        subst (λ (v : List ℤ). list_all is_on_plane (take d.dim (displaced (take d.dim by.by) v)) ≡ true) (sym (low_read shown)) low.0,
        subst (λ (v : List ℤ). list_all is_on_plane (take d.dim (displaced (take d.dim by.by) v)) ≡ true) (sym (high_read shown)) high.0,
      )

  -- headers above a moved element are made to hold its moved range
  pub above_moved : (by : Displacement) (vs : List Live) → has_spots (class_of here.element.kind) ≡ true
      → above_puts (moving d.dim by) (slice_get (elements d) m) vs ≡ all_wider d.dim (range_moved d.dim by f.bytes.now) vs
  above_moved by vs some =
      let shown = with_spots some in
      ap (λ (o : Option Element). above_puts (moving d.dim by) o vs) here.there
      ∙ ap (λ (body : Body). flat_map (λ (v : Live). holding_puts d.dim (body_displaced (take d.dim by.by) body) v.place (spell v.element)) vs) shown.body
      ∙ ap (λ (low : List ℤ). all_wider d.dim (record { lo = displaced (take d.dim by.by) low; hi = displaced (take d.dim by.by) shown.display.high }) vs)
      (sym (low_read shown))
      ∙ ap (λ (high : List ℤ). all_wider d.dim
      (record { lo = displaced (take d.dim by.by) (corner_at f.bytes.now 4); hi = displaced (take d.dim by.by) high }) vs) (sym (high_read shown))

-- the one element of which this holds
pub one_of : (P : Live → Type 0) (es : List Element) (m : ℕ) (v : Element) → slice_get es m ≡ Some v
    → AllByRecursion P (option_to_list (found_at es m)) → P (record { number = m; place = offset_of es m; element = v })
one_of P es m v there each =
    let Q : Option Element → Type 0 =
    λ o. AllByRecursion P (option_to_list (option_map (λ (x : Element). record { number = m; place = offset_of es m; element = x }) o)) in
    (subst Q there each).0
