-- Which way the plane turns from one point to another, seen from a third.
use Rattle.std.specs.Prelude.{ℤ, ◌-ℤ◌, ◌*ℤ◌}
use Rattle.plane_geom.specs.declared.pt.Pt.{Pt}

-- above 0 where p lies to the left of the line from a to b, below 0 to the right, 0 on the line
abbrev pub turn : Pt → Pt → Pt → ℤ
turn a b p = (b.x -ℤ a.x) *ℤ (p.y -ℤ a.y) -ℤ (b.y -ℤ a.y) *ℤ (p.x -ℤ a.x)
