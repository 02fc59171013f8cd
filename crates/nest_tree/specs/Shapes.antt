-- The words of the code for those of the definitions, and the shape of the first element of a list.
use Rattle.std.specs.Prelude.{ℕ, Bool, ◌-◌, ◌<◌, ◌≤◌, Option, None, List, [], ◌∷◌, length, take, drop}
use Rattle.dgn_drawing.specs.declared.row.Row.{Row}
use Rattle.dgn_drawing.specs.Nesting as nesting
use Rattle.dgn_drawing.specs.Nesting.{itself, leaf, shape, member_count, is_spline_part, has_bit}
use Rattle.nest_tree.specs.declared.knot.Knot.{Knot}
use Rattle.nest_tree.specs.declared.shape.Scope.{Scope}
use Rattle.nest_tree.specs.declared.shape.Shape.{Shape}

abbrev pub code_knot : nesting.Knot → Knot
code_knot nesting.Leaf = Knot.Leaf
code_knot nesting.Group = Knot.Group
code_knot nesting.Run = Knot.Run
code_knot nesting.Loose = Knot.Loose

abbrev pub defined_knot : Knot → nesting.Knot
defined_knot Knot.Leaf = nesting.Leaf
defined_knot Knot.Group = nesting.Group
defined_knot Knot.Run = nesting.Run
defined_knot Knot.Loose = nesting.Loose

abbrev pub code_scope : nesting.Scope → Scope
code_scope nesting.Whole = Scope.All
code_scope nesting.Members = Scope.Members
code_scope nesting.Parts = Scope.Parts

abbrev pub defined_scope : Scope → nesting.Scope
defined_scope Scope.All = nesting.Whole
defined_scope Scope.Members = nesting.Members
defined_scope Scope.Parts = nesting.Parts

abbrev pub code_shape : nesting.Shape → Shape
code_shape s = record { knot = code_knot s.knot; inside = code_scope s.inside; count = s.count }

-- the rows from number at on, up to number end
abbrev pub rows_between : List Row → ℕ → ℕ → List Row
rows_between rows at end = take (end - at) (drop at rows)

-- how many of the rows behind the first one are its members, if it has any number of them
abbrev pub members_in : List Row → Option ℕ
members_in [] = None
members_in (h ∷ r) = member_count itself h r

-- whether an element is a part of a run whose parts are that list
abbrev pub is_part_in : Scope → Row → Bool
is_part_in Scope.Parts = is_spline_part
is_part_in other = has_bit

-- the shape of the first of the rows
abbrev pub shape_in : Scope → List Row → nesting.Shape
shape_in scope [] = leaf
shape_in scope (h ∷ r) = shape itself (defined_scope scope) h r

-- what a row of an element is: it has at least four bytes and a type below 128
pub record IsRow (r : Row) : Type 0 where
  pub large : 4 ≤ r.size
  pub typed : r.kind < 128

-- two numbers of rows, between which there are some
pub record IsBetween (rows : List Row) (at end : ℕ) : Type 0 where
  pub some : at < end
  pub bounds : end ≤ length rows
  pub few : length rows < 4294967295
