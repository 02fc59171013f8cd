-- A side above 0 is a greater product.
use Rattle.std.proofs.Common.{◌≡◌, arith, ◌-ℤ◌, ◌*ℤ◌}
use borrow.Author.Differences.{ints}
use Rattle.plane_geom.specs.Polygons.{leans}
use Rattle.plane_geom.proofs.Signs.{left_of}
use Rattle.plane_geom.proofs.polygon.is_left.Goals as goal

pub returns : goal.returns
unfolding leans
returns c =
    let a = c.args.a in
    let b = c.args.b in
    let p = c.args.p in
    let exchanged : (b.y -ℤ a.y) *ℤ (p.x -ℤ a.x) ≡ (p.x -ℤ a.x) *ℤ (b.y -ℤ a.y) = omega (arith, ints) in
    left_of c.side.result ((b.x -ℤ a.x) *ℤ (p.y -ℤ a.y)) _ _ c.side.ensures exchanged
