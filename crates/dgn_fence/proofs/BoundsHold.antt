-- The bounds of an item hold its segments, and those of a fence its edges.
use Rattle.std.proofs.Common.{◌≡◌, ◌⊎◌, inl, inr, ℕ, ◌==◌, Bool, true, false, Some, None, map, List, [], ◌∷◌, refl, subst, arith}
use Rattle.std.specs.List.{fold, AllByRecursion}
use Rattle.std.proofs.lemmas.Int.{clamps}
use borrow.Author.Differences.{ints}
use Rattle.range_code.specs.declared.Box3.{Box3}
use Rattle.plane_geom.specs.declared.pt.Pt.{Pt}
use Rattle.plane_geom.specs.Polygons.{edges_from, edges}
use Rattle.plane_geom.specs.Boxes.{IsInBox, AreInBox}
use Rattle.dgn_drawing.specs.declared.types.item.Item.{Item}
use Rattle.dgn_drawing.specs.declared.types.item_body.ItemBody.{ItemBody}
use Rattle.dgn_fence.specs.declared.bounds.Bounds.{Bounds}
use Rattle.dgn_fence.specs.Segments.{plane_point, legs, path_segments, corners_of, body_segments, segments_of}
use Rattle.dgn_fence.specs.Limits.{at, grown, bounds_of, body_bounds, extent_of}

abbrev pub IsIn : Bounds → Pt → Type 0
IsIn b p = IsInBox b.low b.high p

abbrev pub AreIn : Bounds → List Pt → Type 0
AreIn b ps = AreInBox b.low b.high ps

-- both ends of a segment
pub record Spans (b : Bounds) (s : Pt × Pt) : Type 0 where
  pub from : IsIn b s.0
  pub to : IsIn b s.1

abbrev pub SpanAll : Bounds → List (Pt × Pt) → Type 0
SpanAll b segments = AllByRecursion (Spans b) segments

-- ---- bounds that grow

pub held : (b : Bounds) (p : Pt) → IsIn (grown b p) p
held b p = record {
  left = omega (arith, ints, clamps);
  right = omega (arith, ints, clamps);
  below = omega (arith, ints, clamps);
  above = omega (arith, ints, clamps);
}

pub kept : (b : Bounds) (p q : Pt) → IsIn b q → IsIn (grown b p) q
kept b p q i = record {
  left = omega (arith, ints, clamps, i.left);
  right = omega (arith, ints, clamps, i.right);
  below = omega (arith, ints, clamps, i.below);
  above = omega (arith, ints, clamps, i.above);
}

pub itself : (p : Pt) → IsIn (at p) p
itself p = record {
  left = omega (arith, ints);
  right = omega (arith, ints);
  below = omega (arith, ints);
  above = omega (arith, ints);
}

pub all_kept : (b : Bounds) (q : Pt) (ps : List Pt) → IsIn b q → IsIn (fold grown b ps) q
all_kept b q [] i = i
all_kept b q (p ∷ ps) i = all_kept (grown b p) q ps (kept b p q i)

all_held : (b : Bounds) (ps : List Pt) → AreIn (fold grown b ps) ps
all_held b [] = tt
all_held b (p ∷ ps) = (all_kept (grown b p) p ps (held b p), all_held (grown b p) ps)

pub same_some : {A : Type 0} (a b : A) → Some a ≡ Some b → a ≡ b
same_some a b e = cc

pub bounds_hold : (ps : List Pt) (b : Bounds) → bounds_of ps ≡ Some b → AreIn b ps
bounds_hold [] b e = tt
bounds_hold (p ∷ ps) b e = subst (λ (a : Bounds). AreIn a (p ∷ ps)) (same_some _ _ e) (all_kept (at p) p ps (itself p), all_held (at p) ps)

-- ---- segments of points that are held

legs_held : (b : Bounds) (closes : Bool) (first a : Pt) (rest : List Pt) → IsIn b first → IsIn b a → AreIn b rest → SpanAll b (legs closes first a rest)
legs_held b true first a [] f g h = (record { from = g; to = f }, tt)
legs_held b false first a [] f g h = tt
legs_held b closes first a (c ∷ rest) f g h = (record { from = g; to = h.0 }, legs_held b closes first c rest f h.0 h.1)

path_held : (b : Bounds) (closed : Bool) (ps : List Pt) → AreIn b ps → SpanAll b (path_segments closed ps)
path_held b closed [] h = tt
path_held b closed (a ∷ rest) h = legs_held b _ a a rest h.0 h.0 h.1

edges_from_held : (b : Bounds) (first a : Pt) (rest : List Pt) → IsIn b first → IsIn b a → AreIn b rest → SpanAll b (edges_from first a rest)
edges_from_held b first a [] f g h = (record { from = g; to = f }, tt)
edges_from_held b first a (c ∷ rest) f g h = (record { from = g; to = h.0 }, edges_from_held b first c rest f h.0 h.1)

pub edges_held : (b : Bounds) (ps : List Pt) → AreIn b ps → SpanAll b (edges ps)
edges_held b [] h = tt
edges_held b (a ∷ rest) h = edges_from_held b a a rest h.0 h.0 h.1

-- ---- the corners of a range

corner_held : (a c p : Pt) → (p.x ≡ a.x) ⊎ (p.x ≡ c.x) → (p.y ≡ a.y) ⊎ (p.y ≡ c.y) → IsIn (grown (at a) c) p
corner_held a c p (inl e) (inl f) =
    record {
      left = omega (arith, ints, clamps);
      right = omega (arith, ints, clamps);
      below = omega (arith, ints, clamps);
      above = omega (arith, ints, clamps);
    }
corner_held a c p (inl e) (inr f) =
    record {
      left = omega (arith, ints, clamps);
      right = omega (arith, ints, clamps);
      below = omega (arith, ints, clamps);
      above = omega (arith, ints, clamps);
    }
corner_held a c p (inr e) (inl f) =
    record {
      left = omega (arith, ints, clamps);
      right = omega (arith, ints, clamps);
      below = omega (arith, ints, clamps);
      above = omega (arith, ints, clamps);
    }
corner_held a c p (inr e) (inr f) =
    record {
      left = omega (arith, ints, clamps);
      right = omega (arith, ints, clamps);
      below = omega (arith, ints, clamps);
      above = omega (arith, ints, clamps);
    }

range_held : (range : Box3) → AreIn (grown (at (plane_point range.lo)) (plane_point range.hi)) (corners_of range)
range_held range = (
  corner_held _ _ _ (inl refl) (inl refl),
  (corner_held _ _ _ (inr refl) (inl refl), (corner_held _ _ _ (inr refl) (inr refl), (corner_held _ _ _ (inl refl) (inr refl), tt))),
)

-- ---- an item

body_held : (kind : ℕ) (range : Box3) (body : ItemBody) (b : Bounds) → body_bounds range body ≡ Some b → SpanAll b (body_segments kind range body)
body_held kind range (ItemBody.Path points) b e = path_held b (kind == 6) (map plane_point points) (bounds_hold (map plane_point points) b e)
body_held kind range (ItemBody.Text origin chars) b e = rw (← same_some _ _ e) (edges_held _ (corners_of range) (range_held range))
body_held kind range ItemBody.Boxed b e = rw (← same_some _ _ e) (edges_held _ (corners_of range) (range_held range))
body_held kind range (ItemBody.Cell name origin) b e = tt
body_held kind range (ItemBody.Node origin) b e = tt
body_held kind range ItemBody.Group b e = tt

pub item_held : (item : Item) (b : Bounds) → extent_of item ≡ Some b → SpanAll b (segments_of item)
item_held item b e = body_held item.kind item.range item.body b e

path_bare : (closed : Bool) (ps : List Pt) → bounds_of ps ≡ None → path_segments closed ps ≡ []
path_bare closed [] e = refl
path_bare closed (p ∷ ps) e = absurd cc

body_bare : (kind : ℕ) (range : Box3) (body : ItemBody) → body_bounds range body ≡ None → body_segments kind range body ≡ []
body_bare kind range (ItemBody.Path points) e = path_bare (kind == 6) (map plane_point points) e
body_bare kind range (ItemBody.Text origin chars) e = absurd cc
body_bare kind range ItemBody.Boxed e = absurd cc
body_bare kind range (ItemBody.Cell name origin) e = refl
body_bare kind range (ItemBody.Node origin) e = refl
body_bare kind range ItemBody.Group e = refl

-- an item without bounds has no segments
pub item_bare : (item : Item) → extent_of item ≡ None → segments_of item ≡ []
item_bare item e = body_bare item.kind item.range item.body e
