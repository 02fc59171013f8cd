-- An element that doesn't end before its body does holds its points.
use Rattle.std.proofs.Common.{◌≡◌, ℕ, ◌≤◌, List, inl, inr, arith, subst, sym}
use Rattle.std.specs.Prelude.{◌⊎◌}
use Rattle.dgn_layout.specs.declared.types.Class.{Class}
use Rattle.dgn_layout.specs.Classes.{class_of}
use Rattle.dgn_layout.specs.Spots.{points_in, layout_end, HoldsPoints}
use Rattle.dgn_layout.specs.Ends.{end_in, body_end}

-- the points end by the body's end, in 2D and in 3D
text_ends : (dim kind : ℕ) (b : List ℕ) → (dim ≡ 2) ⊎ (dim ≡ 3) → layout_end dim (points_in Class.Words dim kind b) ≤ end_in Class.Words dim kind b
text_ends dim kind b (inl two) = subst (λ (d : ℕ). layout_end d (points_in Class.Words d kind b) ≤ end_in Class.Words d kind b) (sym two) (omega arith)
text_ends dim kind b (inr three) = subst (λ (d : ℕ). layout_end d (points_in Class.Words d kind b) ≤ end_in Class.Words d kind b) (sym three) (omega arith)

points_end_by : (c : Class) (dim kind : ℕ) (b : List ℕ) → (dim ≡ 2) ⊎ (dim ≡ 3) → layout_end dim (points_in c dim kind b) ≤ end_in c dim kind b
points_end_by Class.Vertices dim kind b two = omega arith
points_end_by Class.Words dim kind b two = text_ends dim kind b two
points_end_by Class.Counted dim kind b two = omega arith
points_end_by Class.Run dim kind b two = omega arith
points_end_by Class.Floating dim kind b two = omega arith
points_end_by Class.Boxed dim kind b two = omega arith
points_end_by Class.Silent dim kind b two = omega arith

pub bodies_hold_points : (dim kind size : ℕ) (b : List ℕ) → (dim ≡ 2) ⊎ (dim ≡ 3) → body_end dim kind b ≤ size → HoldsPoints dim kind b size
bodies_hold_points dim kind size b two within =
    let ends = points_end_by (class_of kind) dim kind b two in
    omega arith
