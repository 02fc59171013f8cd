-- The hull of a tree: the least box that holds its parts, on the file's axes. It is found from points, and from the
-- stored ranges of elements of which no points are read.
use Rattle.std.specs.Prelude.{ℕ, ℤ, ◌==◌, Bool, true, false, if◌then◌else◌, Option, Some, None, List, [], ◌∷◌, take}
use Rattle.range_code.specs.declared.Box3.{Box3}
use Rattle.range_code.specs.Ranges.{join_of}
use Rattle.dgn_layout.specs.declared.types.Class.{Class}
use Rattle.dgn_layout.specs.Classes.{class_of}
use Rattle.dgn_drawing.specs.Element.{Display, Parts, Body, Silent, Shown, Element}
use Rattle.dgn_drawing.specs.Changes.{points_in, range_in}
use Rattle.dgn_drawing.specs.Items.{in_space}
use Rattle.dgn_drawing.specs.Nesting.{Knot, Leaf, Group, Run, Loose, Forest, NoTree, Tree}
use Rattle.dgn_layout.specs.declared.TheConstants.{SHARED_CELL}

-- the box of one point, on the file's axes: in 2D its z numbers are 0
abbrev pub box_of : ℕ → List ℤ → Box3
box_of dim point = record { lo = in_space (take dim point); hi = in_space (take dim point) }

-- the least box that holds two boxes, of which either may be none
abbrev pub hull_join : Option Box3 → Option Box3 → Option Box3
hull_join None other = other
hull_join (Some a) None = Some a
hull_join (Some a) (Some b) = Some (join_of a b)

-- the least box that holds some points, if there are any
abbrev pub points_hull : ℕ → List (List ℤ) → Option Box3
points_hull dim [] = None
points_hull dim (p ∷ ps) = hull_join (Some (box_of dim p)) (points_hull dim ps)

-- a box on the file's axes
abbrev pub on_axes : ℕ → Box3 → Box3
on_axes dim r = record { lo = in_space (take dim r.lo); hi = in_space (take dim r.hi) }

-- the stored range on the file's axes; a silent element has none
abbrev pub stored_of : ℕ → Body → Box3
stored_of dim (Silent rest) = record { lo = in_space []; hi = in_space [] }
stored_of dim (Shown d parts rest) = on_axes dim (range_in d)

-- whether elements of a class have their points in a row: lines, line strings, shapes and curves
abbrev pub is_vertices : Class → Bool
is_vertices Class.Vertices = true
is_vertices other = false

-- the stored range, but of a shared cell definition none
abbrev pub range_hull : ℕ → ℕ → Display → Option Box3
range_hull dim kind d = if kind == SHARED_CELL then None else Some (on_axes dim (range_in d))

-- the hull of a leaf: that of its points, where it has them in a row, and else its stored range
abbrev pub leaf_hull : ℕ → ℕ → Display → Parts → Option Box3
leaf_hull dim kind d parts =
    if is_vertices (class_of kind) then points_hull dim (points_in parts) else range_hull dim kind d

-- the hull of a tree, by what its head is, the head's type and body, and the hull of what stands below it. A group has
-- that of its members, and a B-spline its stored range
abbrev pub hull_in : ℕ → Knot → ℕ → Body → Option Box3 → Option Box3
hull_in dim knot kind (Silent rest) members = None
hull_in dim Leaf kind (Shown d parts rest) members = leaf_hull dim kind d parts
hull_in dim Group kind (Shown d parts rest) members = members
hull_in dim Run kind (Shown d parts rest) members = range_hull dim kind d
hull_in dim Loose kind (Shown d parts rest) members = None

-- a tree whose head is marked deleted has none
abbrev pub tree_hull : ℕ → Knot → Element → Option Box3 → Option Box3
tree_hull dim knot e members = if e.deleted then None else hull_in dim knot e.kind e.body members

-- the hull of trees: the least box that holds those of them that have one
abbrev pub hull_of : ℕ → Forest Element → Option Box3
hull_of dim NoTree = None
hull_of dim (Tree knot e below behind) = hull_join (tree_hull dim knot e (hull_of dim below)) (hull_of dim behind)
