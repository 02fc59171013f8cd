use Rattle.std.proofs.Common.{◌≡◌, ◌+◌, ◌-◌, ◌≤◌}
use Rattle.dgn_drawing.specs.Nesting.{front_count}
use Rattle.nest_tree.specs.Shapes.{is_part_in, rows_between}
use Rattle.nest_tree.specs.Sources.{rows_of}
use Rattle.nest_tree.proofs.shape.parts.Given as goal

-- those before row i are parts
abbrev pub invariant-parts : goal.invariant-parts
invariant-parts l =
    (l.first ≤ l.i) × (l.i ≤ l.end)
    × (front_count (is_part_in l.inside) (rows_between (rows_of l.source) l.first l.end)
    ≡ l.i - l.first + front_count (is_part_in l.inside) (rows_between (rows_of l.source) l.i l.end))

abbrev pub decreases-parts : goal.decreases-parts
decreases-parts l = l.end - l.i
