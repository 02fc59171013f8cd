-- The hull of a tree and what is told of it, by what stands in the head's bytes. b is the bytes of an element. Contracts of
-- private functions alone cite this.
use Rattle.std.specs.Prelude.{ℕ, ℤ, ◌==◌, not, Bool, true, false, if◌then◌else◌, Option, Some, None, List, [], ◌∷◌}
use Rattle.range_code.specs.declared.Box3.{Box3}
use Rattle.range_code.specs.Ranges.{range_of, on_axis}
use Rattle.body_vertex.specs.Points.{points_of}
use Rattle.dgn_layout.specs.Classes.{class_of, is_silent}
use Rattle.nest_tree.specs.declared.knot.Knot as code
use Rattle.nest_tree.specs.declared.knot.Knot.{Knot}
use Rattle.dgn_audit.specs.declared.reported.Reported.{Reported}
use Rattle.dgn_audit.specs.declared.reported.Reported.TheVariants as keeps
use Rattle.dgn_audit.specs.declared.finding.Finding.{Finding}
use Rattle.dgn_audit.specs.Hulls.{on_axes, is_vertices, points_hull}
use Rattle.dgn_audit.specs.Findings.{same_box}
use Rattle.dgn_layout.specs.declared.TheConstants.{SHARED_CELL}

-- a point with another number along an axis
abbrev pub with_number : List ℤ → ℕ → ℤ → List ℤ
with_number point axis number =
    if axis == 0 then number ∷ on_axis point 1 ∷ on_axis point 2 ∷ []
    else if axis == 1 then on_axis point 0 ∷ number ∷ on_axis point 2 ∷ []
    else on_axis point 0 ∷ on_axis point 1 ∷ number ∷ []

-- the stored range, but of a shared cell definition none
abbrev pub range_read : ℕ → ℕ → List ℕ → Option Box3
range_read dim kind b = if kind == SHARED_CELL then None else Some (on_axes dim (range_of b))

-- the hull of a leaf
abbrev pub leaf_read : ℕ → ℕ → List ℕ → Option Box3
leaf_read dim kind b = if is_vertices (class_of kind) then points_hull dim (points_of dim kind b) else range_read dim kind b

-- the hull of a tree whose head isn't silent
abbrev pub knot_read : ℕ → Knot → ℕ → List ℕ → Option Box3 → Option Box3
knot_read dim code.Knot.Leaf kind b members = leaf_read dim kind b
knot_read dim code.Knot.Group kind b members = members
knot_read dim code.Knot.Run kind b members = range_read dim kind b
knot_read dim code.Knot.Loose kind b members = None

-- the hull of a tree whose head isn't marked deleted
abbrev pub hull_read : ℕ → Knot → ℕ → List ℕ → Option Box3 → Option Box3
hull_read dim knot kind b members = if is_silent (class_of kind) then None else knot_read dim knot kind b members

-- whether a range can be fitted
abbrev pub is_fitted_knot : Knot → ℕ → Bool
is_fitted_knot code.Knot.Leaf kind = is_vertices (class_of kind)
is_fitted_knot code.Knot.Group kind = true
is_fitted_knot code.Knot.Run kind = false
is_fitted_knot code.Knot.Loose kind = false

-- whether an element with that stored range and that hull is kept
abbrev pub is_kept_read : Reported → Knot → ℕ → Box3 → Box3 → Bool
is_kept_read keeps.Fitted knot kind stored hull = is_fitted_knot knot kind
is_kept_read keeps.Differing knot kind stored hull = not (same_box stored hull)

-- what is told of it
abbrev pub finding_read : Reported → ℕ → Knot → ℕ → ℕ → List ℕ → Box3 → List Finding
finding_read keep dim knot n kind b hull =
    if is_kept_read keep knot kind (on_axes dim (range_of b)) hull then record {
      number = n;
      axes = dim;
      stored = on_axes dim (range_of b);
      hull =
          hull;
    } ∷ [] else []
