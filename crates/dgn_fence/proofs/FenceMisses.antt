-- What need not be tried: an edge that an item misses, a fence that lies apart from it, and a first point outside of the
-- bounds of the fence.
use Rattle.std.proofs.Common.{◌≡◌, inl, inr, ℕ, ◌<◌, Bool, true, false, ◌&&◌, ◌||◌, Option, Some, None, List, [], ◌∷◌, length, drop, get_or, refl, sym, ◌∙◌}
use Rattle.std.proofs.Common.{if◌then◌else◌, int_le}
use Rattle.std.specs.List.{list_any}
use Rattle.std.proofs.Math.Seq.{drop-cons}
use Rattle.std.proofs.lemmas.Bool.{both_ways, or_cases, and_from, cases_Bool}
use Rattle.plane_geom.specs.declared.pt.Pt.{Pt}
use Rattle.plane_geom.specs.Touches.{touches}
use Rattle.plane_geom.specs.Polygons.{edges, is_within}
use Rattle.plane_geom.specs.Boxes.{lies_beside}
use Rattle.plane_geom.proofs.Axes.{compared}
use Rattle.plane_geom.proofs.BoxesBeside.{beside_untouched, apart_untouched, apart_points}
use Rattle.plane_geom.proofs.OutsidePolygons.{inside_the_box}
use Rattle.dgn_drawing.specs.declared.types.item.Item.{Item}
use Rattle.dgn_fence.specs.declared.bounds.Bounds.{Bounds}
use Rattle.dgn_fence.specs.Segments.{segments_of}
use Rattle.dgn_fence.specs.Taken.{any_touches, touches_fence, first_point_of, begins_within, overlaps, has_some, parts}
use Rattle.dgn_fence.specs.Limits.{at, grown, bounds_of, extent_of, is_held, is_apart, near_bounds, misses}
use Rattle.dgn_fence.proofs.BoundsHold.{IsIn, Spans, SpanAll, itself, held, kept, bounds_hold, edges_held, item_held, item_bare}

pub neither : (a b : Bool) → a ≡ false → b ≡ false → (a || b) ≡ false
neither a b e f = rw (e, f) refl

-- ---- an edge that is missed

missed : (b : Bounds) (r s : Pt) (p : Pt × Pt) → misses b r s ≡ true → Spans b p → touches p.0 p.1 r s ≡ false
missed b r s p e i =
    elim (or_cases (is_apart b (grown (at r) s)) (lies_beside b.low b.high r s) e) [
      | inl f ↦ apart_untouched b.low b.high (grown (at r) s).low (grown (at r) s).high p.0 p.1 r s f i.from i.to (kept (at r) s r (itself r)) (held (at r) s)
      | inr f ↦ beside_untouched b.low b.high r s p.0 p.1 f i.from i.to
    ]

all_missed : (b : Bounds) (segments : List (Pt × Pt)) (r s : Pt) → misses b r s ≡ true → SpanAll b segments → any_touches segments (r, s) ≡ false
unfolding any_touches
all_missed b [] r s e h = refl
all_missed b (p ∷ segments) r s e h = neither _ _ (missed b r s p e h.0) (all_missed b segments r s e h.1)

pub edge_missed : (item : Item) (b : Bounds) (r s : Pt) → extent_of item ≡ Some b → misses b r s ≡ true → any_touches (segments_of item) (r, s) ≡ false
edge_missed item b r s e f = all_missed b (segments_of item) r s f (item_held item b e)

-- ---- a fence that lies apart

apart_from_edge : (a b : Bounds) (segments : List (Pt × Pt)) (e : Pt × Pt) → is_apart a b ≡ true → SpanAll a segments → Spans b e
    → any_touches segments e ≡ false
unfolding any_touches
apart_from_edge a b [] e far h i = refl
apart_from_edge a b (p ∷ segments) e far h i =
    neither _ _ (apart_untouched a.low a.high b.low b.high p.0 p.1 e.0 e.1 far h.0.from h.0.to i.from i.to) (apart_from_edge a b segments e far h.1 i)

apart_from_all : (a b : Bounds) (segments es : List (Pt × Pt)) → is_apart a b ≡ true → SpanAll a segments → SpanAll b es
    → list_any (any_touches segments) es ≡ false
apart_from_all a b segments [] far h i = refl
apart_from_all a b segments (e ∷ es) far h i = neither _ _ (apart_from_edge a b segments e far h i.0) (apart_from_all a b segments es far h i.1)

pub far_untouched : (item : Item) (fence : List Pt) (a b : Bounds) → extent_of item ≡ Some a → bounds_of fence ≡ Some b → is_apart a b ≡ true
    → touches_fence fence (segments_of item) ≡ false
unfolding touches_fence
far_untouched item fence a b e f far = apart_from_all a b (segments_of item) (edges fence) far (item_held item a e) (edges_held b fence (bounds_hold fence b f))

outside : (fence : List Pt) (b : Bounds) (p : Pt) → bounds_of fence ≡ Some b → (IsIn b p → ⊥) → is_within p fence ≡ false
outside fence b p e f =
    elim (cases_Bool (is_within p fence)) [
      | inl t ↦ absurd (f (inside_the_box b.low b.high p fence (bounds_hold fence b e) t))
      | inr g ↦ g
    ]

starts_apart : (a b : Bounds) (fence : List Pt) (segments : List (Pt × Pt)) → bounds_of fence ≡ Some b → is_apart a b ≡ true → SpanAll a segments
    → begins_within fence segments ≡ false
unfolding begins_within
starts_apart a b fence [] e far h = refl
starts_apart a b fence (s ∷ segments) e far h = outside fence b s.0 e (apart_points a.low a.high b.low b.high s.0 far h.0.from)

pub far_outside : (item : Item) (fence : List Pt) (a b : Bounds) → extent_of item ≡ Some a → bounds_of fence ≡ Some b → is_apart a b ≡ true
    → begins_within fence (segments_of item) ≡ false
far_outside item fence a b e f far = starts_apart a b fence (segments_of item) f far (item_held item a e)

-- ---- a first point outside of the bounds

held_so : (b : Bounds) (p : Pt) → IsIn b p → is_held b p ≡ true
held_so b p i =
    and_from (int_le b.low.x p.x && int_le p.x b.high.x) _
    (and_from (int_le b.low.x p.x) _ ((compared _ _).1 i.left) ((compared _ _).1 i.right))
    (and_from (int_le b.low.y p.y) _ ((compared _ _).1 i.below) ((compared _ _).1 i.above))

pub start_outside : (fence : List Pt) (b : Bounds) (segments : List (Pt × Pt)) (p : Pt) → bounds_of fence ≡ Some b → first_point_of segments ≡ Some p
    → is_held b p ≡ false → begins_within fence segments ≡ false
unfolding begins_within
start_outside fence b segments p e f out = rw f (outside fence b p e (λ i. both_ways _ out (held_so b p i)))

-- ---- an item without segments

any_of_none : (es : List (Pt × Pt)) → list_any (any_touches []) es ≡ false
unfolding any_touches
any_of_none [] = refl
any_of_none (e ∷ es) = any_of_none es

none_touches : (fence : List Pt) → touches_fence fence [] ≡ false
unfolding touches_fence
none_touches fence = any_of_none (edges fence)

pub bare_untouched : (item : Item) (fence : List Pt) → extent_of item ≡ None → touches_fence fence (segments_of item) ≡ false
bare_untouched item fence e = rw (item_bare item e) (none_touches fence)

none_begins : (fence : List Pt) → begins_within fence [] ≡ false
unfolding begins_within
none_begins fence = refl

pub bare_outside : (item : Item) (fence : List Pt) → extent_of item ≡ None → begins_within fence (segments_of item) ≡ false
bare_outside item fence e = rw (item_bare item e) (none_begins fence)

-- so what overlaps is a part
pub overlapping : (fence : List Pt) (segments : List (Pt × Pt)) → overlaps fence segments ≡ true → has_some segments ≡ true
unfolding overlaps
overlapping fence [] e = absurd (both_ways (begins_within fence [] || touches_fence fence []) (neither _ _ (none_begins fence) (none_touches fence)) e)
overlapping fence (s ∷ segments) e = refl

some_none : {A : Type 0} (a : A) → Some a ≡ None → ⊥
some_none a e = cc

unless_false : {A : Type 0} (t : Bool) (a : A) → t ≡ false → (if t then None else Some a) ≡ Some a
unless_false t a e = rw e refl

unless_true : {A : Type 0} (t : Bool) (a : A) → t ≡ true → (if t then None else Some a) ≡ None
unless_true t a e = rw e refl

nothing_touched : (segments : List (Pt × Pt)) → touches_fence [] segments ≡ false
unfolding touches_fence
nothing_touched segments = refl

nothing_within : (segments : List (Pt × Pt)) → begins_within [] segments ≡ false
unfolding begins_within
nothing_within [] = refl
nothing_within (s ∷ segments) = refl

-- what is known where an item has no bounds near the fence, and where it has some
pub record IsFar (fence : List Pt) (item : Item) : Type 0 where
  pub outside : begins_within fence (segments_of item) ≡ false
  pub untouched : touches_fence fence (segments_of item) ≡ false

far : (item : Item) (fence : List Pt) (o p : Option Bounds) → bounds_of fence ≡ o → extent_of item ≡ p → near_bounds o p ≡ None → IsFar fence item
far item [] None p e f g = record { outside = nothing_within (segments_of item); untouched = nothing_touched (segments_of item) }
far item (a ∷ fence) None p e f g = absurd cc
far item fence (Some b) None e f g = record { outside = bare_outside item fence f; untouched = bare_untouched item fence f }
far item fence (Some b) (Some a) e f g =
    elim (cases_Bool (is_apart a b)) [
      | inl t ↦ record { outside = far_outside item fence a b f e t; untouched = far_untouched item fence a b f e t }
      | inr n ↦ absurd (some_none a (sym (unless_false _ a n) ∙ g))
    ]

pub is_far : (fence : List Pt) (item : Item) → near_bounds (bounds_of fence) (extent_of item) ≡ None → IsFar fence item
is_far fence item e = far item fence _ _ refl refl e

nearer : (o p : Option Bounds) (b : Bounds) → near_bounds o p ≡ Some b → p ≡ Some b
nearer None p b e = absurd cc
nearer (Some c) None b e = absurd cc
nearer (Some c) (Some a) b e =
    elim (cases_Bool (is_apart a c)) [
      | inl t ↦ absurd (some_none b (sym e ∙ unless_true _ a t))
      | inr n ↦ sym (unless_false _ a n) ∙ e
    ]

pub is_near : (fence : List Pt) (item : Item) (b : Bounds) → near_bounds (bounds_of fence) (extent_of item) ≡ Some b → extent_of item ≡ Some b
is_near fence item b e = nearer _ _ b e

pub some_left : (fence : List Pt) (items : List Item) (i : ℕ) (item : Item) → i < length items → item ≡ get_or items i item
    → overlaps fence (segments_of item) ≡ true → list_any (overlaps fence) (parts (drop i items)) ≡ true
some_left fence items i item h e f = rw (drop-cons items i item h, ← e, overlapping fence (segments_of item) f, f) refl
