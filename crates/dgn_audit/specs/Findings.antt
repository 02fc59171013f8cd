-- The live elements of trees whose stored ranges are audited: those that differ from the hulls, and those that can be
-- fitted to them. An element is live where neither it nor a header above it is marked deleted.
use Rattle.std.specs.Prelude.{ℕ, ℤ, ◌+◌, ◌&&◌, not, Bool, true, false, if◌then◌else◌, Option, Some, None, List, [], ◌∷◌, ◌++◌}
use Rattle.std.specs.Ordering.{int_eq}
use Rattle.range_code.specs.declared.Box3.{Box3}
use Rattle.range_code.specs.Ranges.{on_axis}
use Rattle.dgn_layout.specs.Classes.{class_of}
use Rattle.dgn_drawing.specs.Element.{Element}
use Rattle.dgn_drawing.specs.Rows.{row_of}
use Rattle.dgn_drawing.specs.Nesting.{Knot, Leaf, Group, Run, Loose, Forest, NoTree, Tree, forest}
use Rattle.dgn_drawing.specs.Numbering.{end_of}
use Rattle.edit_ops.specs.Trees.{tree_at}
use Rattle.dgn_audit.specs.declared.reported.Reported.{Reported}
use Rattle.dgn_audit.specs.declared.reported.Reported.TheVariants as keeps
use Rattle.dgn_audit.specs.declared.finding.Finding.{Finding}
use Rattle.dgn_audit.specs.Hulls.{stored_of, is_vertices, tree_hull, hull_of}

-- whether two corners are the same, and two boxes
abbrev pub same_corner : List ℤ → List ℤ → Bool
same_corner a b = int_eq (on_axis a 0) (on_axis b 0) && (int_eq (on_axis a 1) (on_axis b 1) && int_eq (on_axis a 2) (on_axis b 2))

abbrev pub same_box : Box3 → Box3 → Bool
same_box a b = same_corner a.lo b.lo && same_corner a.hi b.hi

-- whether a range can be fitted: that of a leaf with its points in a row, and that of a group
abbrev pub is_fitted : Knot → ℕ → Bool
is_fitted Leaf kind = is_vertices (class_of kind)
is_fitted Group kind = true
is_fitted Run kind = false
is_fitted Loose kind = false

-- whether a live element with a hull is kept: all that can be fitted, or those whose stored range differs
abbrev pub is_kept : Reported → ℕ → Knot → Element → Box3 → Bool
is_kept keeps.Fitted dim knot e hull = is_fitted knot e.kind
is_kept keeps.Differing dim knot e hull = not (same_box (stored_of dim e.body) hull)

-- what is told of an element that is kept
abbrev pub finding_of : ℕ → ℕ → Element → Box3 → Finding
finding_of dim n e hull = record { number = n; axes = dim; stored = stored_of dim e.body; hull = hull }

-- what is told of a live element, by its hull
abbrev pub finding_as : Reported → ℕ → Knot → ℕ → Element → Option Box3 → List Finding
finding_as keep dim knot n e None = []
finding_as keep dim knot n e (Some hull) = if is_kept keep dim knot e hull then finding_of dim n e hull ∷ [] else []

-- what is told of the live elements of trees that are numbered from n on
abbrev pub findings_in : Reported → ℕ → ℕ → Forest Element → List Finding
findings_in keep dim n NoTree = []
findings_in keep dim n (Tree knot e below behind) =
    (if e.deleted then [] else finding_as keep dim knot n e (tree_hull dim knot e (hull_of dim below)) ++ findings_in keep dim (n + 1) below)
    ++ findings_in keep dim (end_of n below) behind

-- the findings: of all live elements with a hull those whose stored range isn't the hull
abbrev pub findings : ℕ → List Element → List Finding
findings dim es = findings_in keeps.Differing dim 0 (forest row_of es)

-- what is told of the live elements of the part of element n, or of all where none is named
abbrev pub findings_of : Reported → ℕ → List Element → Option ℕ → List Finding
findings_of keep dim es None = findings_in keep dim 0 (forest row_of es)
findings_of keep dim es (Some n) = findings_in keep dim n (tree_at n (forest row_of es))

-- the fitted elements of the part of element n, with their hulls
abbrev pub fitted_in : ℕ → List Element → ℕ → List Finding
fitted_in dim es n = findings_in keeps.Fitted dim n (tree_at n (forest row_of es))
