use Rattle.std.proofs.Common.{◌≡◌, ◌++◌, take, map}
use Rattle.std.specs.List.{flat_map}
use Rattle.dgn_drawing.specs.Spelling.{point_bytes}
use Rattle.dgn_drawing.proofs.making.push_points.Given as goal

-- those so far
abbrev pub invariant-loop-point : goal.invariant-loop-point
invariant-loop-point l = l.bytes.items ≡ l.fn.bytes.items ++ flat_map point_bytes (map (take l.axes) (take l.point-index l.points))
