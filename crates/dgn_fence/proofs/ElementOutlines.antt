-- The outline of an element, from its bytes.
use Rattle.std.proofs.Common.{◌≡◌, ◌⊎◌, inl, inr, ℕ, ℤ, Some, None, List, [], ◌∷◌, map, refl, sym, ap, ◌∙◌}
use Rattle.elem_head.specs.Head.{kind_of}
use Rattle.range_code.specs.declared.Box3.{Box3}
use Rattle.range_code.specs.Ranges.{range_of}
use Rattle.dgn_layout.specs.declared.types.Class.{Class}
use Rattle.dgn_layout.specs.Classes.{class_of}
use Rattle.body_vertex.specs.Points.{points_of}
use Rattle.dgn_drawing.specs.declared.types.item_body.ItemBody.{ItemBody}
use Rattle.dgn_drawing.specs.Reading.{element_at}
use Rattle.dgn_drawing.specs.Items.{in_space, item_of}
use Rattle.dgn_drawing.proofs.ItemsByClass.{IsRanged, IsHeader, HasItem, path_item, ranged_item, header_item, shared_none, silent_none}
use Rattle.dgn_fence.specs.Segments.{plane_point}
use Rattle.dgn_fence.specs.Outlines.{path_outline, range_outline, body_outline, outline_of}

in_plane : (points : List (List ℤ)) → map plane_point (map in_space points) ≡ map plane_point points
in_plane [] = refl
in_plane (p ∷ points) = ap (λ ps. plane_point p ∷ ps) (in_plane points)

ranged : (range : Box3) (body : ItemBody) → IsRanged body → Some (range_outline range) ≡ body_outline range body
ranged range (ItemBody.Path points) is = absurd is
ranged range (ItemBody.Text origin chars) is = refl
ranged range ItemBody.Boxed is = refl
ranged range (ItemBody.Cell name origin) is = absurd is
ranged range (ItemBody.Node origin) is = absurd is
ranged range ItemBody.Group is = absurd is

headed : (range : Box3) (body : ItemBody) → IsHeader body → None ≡ body_outline range body
headed range (ItemBody.Path points) is = absurd is
headed range (ItemBody.Text origin chars) is = absurd is
headed range ItemBody.Boxed is = absurd is
headed range (ItemBody.Cell name origin) is = refl
headed range (ItemBody.Node origin) is = refl
headed range ItemBody.Group is = refl

module _ (dim : ℕ) (b : List ℕ) where
  of_body : (body : ItemBody) → HasItem dim 0 0 b body → body_outline (range_of b) body ≡ outline_of (item_of dim 0 0 (element_at dim b))
  of_body body h = sym (ap outline_of h.has)

  -- a shared cell definition
  pub shared_drawn : kind_of b ≡ 34 → None ≡ outline_of (item_of dim 0 0 (element_at dim b))
  shared_drawn is = sym (ap outline_of (shared_none dim 0 0 b is))

  module _ (c : Class) (these : c ≡ class_of (kind_of b)) (other : kind_of b ≡ 34 → ⊥) where
    -- a row of points
    pub path_drawn : c ≡ Class.Vertices → path_outline (map plane_point (points_of dim (kind_of b) b)) ≡ outline_of (item_of dim 0 0 (element_at dim b))
    path_drawn is =
        ap path_outline (sym (in_plane (points_of dim (kind_of b) b)))
        ∙ of_body (ItemBody.Path (map in_space (points_of dim (kind_of b) b))) (path_item dim 0 0 b c these is other)

    -- what is shown by its range
    pub range_drawn : (c ≡ Class.Words) ⊎ ((c ≡ Class.Run) ⊎ ((c ≡ Class.Floating) ⊎ (c ≡ Class.Boxed)))
        → Some (range_outline (range_of b)) ≡ outline_of (item_of dim 0 0 (element_at dim b))
    range_drawn is = let i = ranged_item dim 0 0 b c these is other in ranged (range_of b) i.0 i.1 ∙ of_body i.0 i.2

    -- a header, and what is silent
    pub none_drawn : (c ≡ Class.Counted) ⊎ (c ≡ Class.Silent) → None ≡ outline_of (item_of dim 0 0 (element_at dim b))
    none_drawn (inl is) = let i = header_item dim 0 0 b c these is other in headed (range_of b) i.0 i.1 ∙ of_body i.0 i.2
    none_drawn (inr is) = sym (ap outline_of (silent_none dim 0 0 b c these is))
