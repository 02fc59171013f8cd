-- The outline of an item, and what is taken where bounds alone tell it.
use Rattle.std.proofs.Common.{◌≡◌, inl, inr, ℕ, zero, suc, ◌+◌, ◌==◌, ℤ, Bool, true, false, Option, Some, None, option_map, List, [], ◌∷◌, map}
use Rattle.std.proofs.Common.{drop, refl, sym, subst, ap, ◌∙◌, cond, arith}
use Rattle.std.specs.Prelude.{slice_get}
use Rattle.std.specs.List.{fold, list_any, list_all}
use Rattle.std.specs.Option.{option_to_list}
use Rattle.std.proofs.lemmas.Bool.{cond-true, cond-false, cases_Bool, and_parts}
use Rattle.range_code.specs.declared.Box3.{Box3}
use Rattle.plane_geom.specs.declared.pt.Pt.{Pt}
use Rattle.plane_geom.specs.Polygons.{edges, is_within}
use Rattle.dgn_drawing.specs.declared.mode.Mode.{Mode}
use Rattle.dgn_drawing.specs.declared.types.item.Item.{Item}
use Rattle.dgn_drawing.specs.declared.types.item_body.ItemBody.{ItemBody}
use Rattle.dgn_drawing.specs.Element.{Display, Parts, Body, Silent, Shown, Element}
use Rattle.dgn_drawing.specs.Items.{shown_item, item_in}
use Rattle.dgn_drawing.specs.Shown.{its_item}
use Rattle.dgn_fence.specs.declared.bounds.Bounds.{Bounds}
use Rattle.dgn_fence.specs.declared.outline.Outline.{Outline}
use Rattle.dgn_fence.specs.Segments.{plane_point, path_segments, body_segments, segments_of}
use Rattle.dgn_fence.specs.Taken.{any_touches, touches_fence, first_point_of, begins_within, is_inside, overlaps, has_some, takes}
use Rattle.dgn_fence.specs.Limits.{at, grown, bounds_of, body_bounds, extent_of, is_apart, misses}
use Rattle.dgn_fence.specs.Outlines.{path_outline, body_outline, outline_of, misses_all, begins_by_bounds, untouched_taken}
use Rattle.dgn_fence.proofs.BoundsHold.{IsIn, itself, kept, all_kept, same_some, item_bare}
use Rattle.dgn_fence.proofs.Segments.{path_begins}
use Rattle.dgn_fence.proofs.FenceMisses.{neither, edge_missed, far_outside, far_untouched}

-- ---- the points of a path, one after the other

-- one more point
pub one_more : (xs : List (List ℤ)) (i : ℕ) (x : List ℤ) (b : Bounds) → slice_get xs i ≡ Some x
    → fold grown b (map plane_point (drop i xs)) ≡ fold grown (grown b (plane_point x)) (map plane_point (drop (i + 1) xs))
one_more [] i x b is = absurd cc
one_more (y ∷ ys) zero x b is = let same : y ≡ x = cc in ap (λ (z : List ℤ). fold grown (grown b (plane_point z)) (map plane_point ys)) same
one_more (y ∷ ys) (suc i) x b is =
    let e : suc i + 1 ≡ suc (i + 1) = omega arith in
    one_more ys i x b is ∙ ap (λ (k : ℕ). fold grown (grown b (plane_point x)) (map plane_point (drop k (y ∷ ys)))) (sym e)

-- ---- an outline has the first point and the bounds

around_of : Option Outline → Option Bounds
around_of o = option_map (λ (x : Outline). x.around) o

first_in : Option Outline → Option Pt
first_in o = option_map (λ (x : Outline). x.first) o

path_extent : (ps : List Pt) → bounds_of ps ≡ around_of (path_outline ps)
unfolding around_of
path_extent [] = refl
path_extent (p ∷ ps) = refl

body_extent : (range : Box3) (body : ItemBody) → body_bounds range body ≡ around_of (body_outline range body)
unfolding around_of
body_extent range (ItemBody.Path points) = path_extent (map plane_point points)
body_extent range (ItemBody.Text origin chars) = refl
body_extent range ItemBody.Boxed = refl
body_extent range (ItemBody.Cell name origin) = refl
body_extent range (ItemBody.Node origin) = refl
body_extent range ItemBody.Group = refl

path_first : (closed : Bool) (points : List (List ℤ)) → first_point_of (path_segments closed (map plane_point points))
    ≡ first_in (path_outline (map plane_point points))
unfolding first_in
path_first closed [] = refl
path_first closed (p ∷ points) = sym (path_begins closed (p ∷ points))

body_first : (kind : ℕ) (range : Box3) (body : ItemBody) → first_point_of (body_segments kind range body) ≡ first_in (body_outline range body)
unfolding first_in
body_first kind range (ItemBody.Path points) = path_first (kind == 6) points
body_first kind range (ItemBody.Text origin chars) = refl
body_first kind range ItemBody.Boxed = refl
body_first kind range (ItemBody.Cell name origin) = refl
body_first kind range (ItemBody.Node origin) = refl
body_first kind range ItemBody.Group = refl

-- ---- an outline's bounds hold its first point

path_begun : (ps : List Pt) (o : Outline) → path_outline ps ≡ Some o → IsIn o.around o.first
path_begun [] o is = absurd cc
path_begun (p ∷ ps) o is = subst (λ (a : Outline). IsIn a.around a.first) (same_some _ _ is) (all_kept (at p) p ps (itself p))

range_begun : (range : Box3) → IsIn (grown (at (plane_point range.lo)) (plane_point range.hi)) (plane_point range.lo)
range_begun range = kept (at (plane_point range.lo)) (plane_point range.hi) (plane_point range.lo) (itself (plane_point range.lo))

body_begun : (range : Box3) (body : ItemBody) (o : Outline) → body_outline range body ≡ Some o → IsIn o.around o.first
body_begun range (ItemBody.Path points) o is = path_begun (map plane_point points) o is
body_begun range (ItemBody.Text origin chars) o is = subst (λ (a : Outline). IsIn a.around a.first) (same_some _ _ is) (range_begun range)
body_begun range ItemBody.Boxed o is = subst (λ (a : Outline). IsIn a.around a.first) (same_some _ _ is) (range_begun range)
body_begun range (ItemBody.Cell name origin) o is = absurd cc
body_begun range (ItemBody.Node origin) o is = absurd cc
body_begun range ItemBody.Group o is = absurd cc

pub begun_in : (item : Option Item) (o : Outline) → outline_of item ≡ Some o → IsIn o.around o.first
begun_in None o is = absurd cc
begun_in (Some item) o is = body_begun item.range item.body o is

-- ---- edges that bounds miss

any_missed : (item : Item) (b : Bounds) (es : List (Pt × Pt)) → extent_of item ≡ Some b → list_all (λ e. misses b e.0 e.1) es ≡ true
    → list_any (any_touches (segments_of item)) es ≡ false
any_missed item b [] is all = refl
any_missed item b (e ∷ es) is all =
    let both = and_parts (misses b e.0 e.1) (list_all (λ e. misses b e.0 e.1) es) all in
    neither _ _ (edge_missed item b e.0 e.1 is both.0) (any_missed item b es is both.1)

-- ---- what bounds tell

record IsTold (fence : List Pt) (segments : List (Pt × Pt)) (begins : Bool) : Type 0 where
  first : has_some segments ≡ true
  begun : begins_within fence segments ≡ begins
  untouched : touches_fence fence segments ≡ false

has_first : (segments : List (Pt × Pt)) (p : Pt) → first_point_of segments ≡ Some p → has_some segments ≡ true
has_first [] p is = absurd cc
has_first (s ∷ segments) p is = refl

begun_at : (fence : List Pt) (segments : List (Pt × Pt)) (p : Pt) → first_point_of segments ≡ Some p → begins_within fence segments ≡ is_within p fence
unfolding begins_within
begun_at fence [] p is = absurd cc
begun_at fence (s ∷ segments) p is = let same : s.0 ≡ p = cc in ap (λ (q : Pt). is_within q fence) same

begins_so : (item : Item) (fence : List Pt) (o : Outline) (begins : Bool) (bounds : Option Bounds) → bounds_of fence ≡ bounds → outline_of (Some item) ≡ Some o
    → begins_by_bounds bounds fence o ≡ Some begins
    → IsTold fence (segments_of item) begins
unfolding around_of first_in touches_fence
begins_so item fence o begins None is has says = absurd cc
begins_so item fence o begins (Some b) is has says =
    let extent : extent_of item ≡ Some o.around = body_extent item.range item.body ∙ ap around_of has in
    let start : first_point_of (segments_of item) ≡ Some o.first = body_first item.kind item.range item.body ∙ ap first_in has in
    elim (cases_Bool (is_apart o.around b)) [
      | inl t ↦ record {
        first = has_first (segments_of item) o.first start;
        begun = far_outside item fence o.around b extent is t ∙ same_some false begins (sym (cond-true (is_apart o.around b) _ _ t) ∙ says);
        untouched = far_untouched item fence o.around b extent is t;
      }
      | inr n ↦
          let near : (cond (misses_all o.around fence) (Some (is_within o.first fence)) None) ≡ Some begins =
          sym (cond-false (is_apart o.around b) _ _ n) ∙ says in
          elim (cases_Bool (misses_all o.around fence)) [
            | inl m ↦ record {
              first = has_first (segments_of item) o.first start;
              begun = begun_at fence (segments_of item) o.first start
                  ∙ same_some (is_within o.first fence) begins (sym (cond-true (misses_all o.around fence) _ _ m) ∙ near);
              untouched = any_missed item o.around (edges fence) extent m;
            }
            | inr k ↦ absurd (let none = sym (cond-false (misses_all o.around fence) _ _ k) ∙ near in cc)
          ]
    ]

alone : (mode : Mode) (fence : List Pt) (item : Item) (begins : Bool) → IsTold fence (segments_of item) begins
    → takes mode fence (item ∷ []) ≡ untouched_taken mode begins
unfolding is_inside overlaps
alone Mode.Inside fence item true t = rw (t.first, t.begun, t.untouched) refl
alone Mode.Inside fence item false t = rw (t.first, t.begun) refl
alone Mode.Overlap fence item true t = rw (t.first, t.begun) refl
alone Mode.Overlap fence item false t = rw (t.first, t.begun, t.untouched) refl
alone Mode.Void fence item true t = rw (t.first, t.begun) refl
alone Mode.Void fence item false t = rw (t.first, t.begun, t.untouched) refl

pub begins_taken : (mode : Mode) (fence : List Pt) (item : Option Item) (o : Outline) (begins : Bool) → outline_of item ≡ Some o
    → begins_by_bounds (bounds_of fence) fence o ≡ Some begins
    → takes mode fence (option_to_list item) ≡ untouched_taken mode begins
begins_taken mode fence None o begins has says = absurd cc
begins_taken mode fence (Some item) o begins has says = alone mode fence item begins (begins_so item fence o begins (bounds_of fence) refl has says)

bare : (mode : Mode) (fence : List Pt) (item : Item) → segments_of item ≡ [] → takes mode fence (item ∷ []) ≡ false
bare Mode.Inside fence item e = rw e refl
bare Mode.Overlap fence item e = rw e refl
bare Mode.Void fence item e = rw e refl

-- without an outline nothing is taken
pub none_taken : (mode : Mode) (fence : List Pt) (item : Option Item) → outline_of item ≡ None → takes mode fence (option_to_list item) ≡ false
unfolding around_of
none_taken Mode.Inside fence None is = refl
none_taken Mode.Overlap fence None is = refl
none_taken Mode.Void fence None is = refl
none_taken mode fence (Some item) is = bare mode fence item (item_bare item (body_extent item.range item.body ∙ ap around_of is))

-- ---- neither number nor depth counts

by_shape : (mode : Mode) (fence : List Pt) (dim number depth : ℕ) (e : Element) (display : Display) (parts : Parts) (shared : Bool)
    → takes mode fence (option_to_list (cond shared None (Some (shown_item dim 0 0 e display parts))))
    ≡ takes mode fence (option_to_list (cond shared None (Some (shown_item dim number depth e display parts))))
by_shape mode fence dim number depth e display parts true = refl
by_shape Mode.Inside fence dim number depth e display parts false = refl
by_shape Mode.Overlap fence dim number depth e display parts false = refl
by_shape Mode.Void fence dim number depth e display parts false = refl

by_body : (mode : Mode) (fence : List Pt) (dim number depth : ℕ) (e : Element) (body : Body)
    → takes mode fence (option_to_list (item_in dim 0 0 e body)) ≡ takes mode fence (option_to_list (item_in dim number depth e body))
by_body mode fence dim number depth e (Silent rest) = refl
by_body mode fence dim number depth e (Shown display parts rest) = by_shape mode fence dim number depth e display parts (e.kind == 34)

pub anywhere : (mode : Mode) (fence : List Pt) (dim number depth : ℕ) (e : Element)
    → takes mode fence (its_item dim 0 0 e) ≡ takes mode fence (its_item dim number depth e)
anywhere mode fence dim number depth e = by_body mode fence dim number depth e e.body
