-- The boxes meet where the intervals on both axes do.
use Rattle.std.proofs.Common.{rules, SFits, w32, to_z-of_z}
use Rattle.plane_geom.proofs.Axes.{blocked}
use Rattle.plane_geom.proofs.segments.boxes_meet.Goals as goal

pub returns-then-not-overlap : goal.returns-then-not-overlap
returns-then-not-overlap c =
    let fits_p : SFits w32 c.args.p.x = search rules in
    let fits_q : SFits w32 c.args.q.x = search rules in
    let fits_r : SFits w32 c.args.r.x = search rules in
    let fits_s : SFits w32 c.args.s.x = search rules in
    let on_x = simp to_z-of_z at c.overlap.ensures in
    blocked c.overlap.result c.if-not-overlap.true on_x.1 (λ b. b.on_x)

pub returns : goal.returns
returns c =
    let fits_p : SFits w32 c.args.p.x = search rules in
    let fits_q : SFits w32 c.args.q.x = search rules in
    let fits_r : SFits w32 c.args.r.x = search rules in
    let fits_s : SFits w32 c.args.s.x = search rules in
    let on_x = simp to_z-of_z at c.overlap.ensures in
    let fits_p : SFits w32 c.args.p.y = search rules in
    let fits_q : SFits w32 c.args.q.y = search rules in
    let fits_r : SFits w32 c.args.r.y = search rules in
    let fits_s : SFits w32 c.args.s.y = search rules in
    let on_y = simp to_z-of_z at c.overlap-2.ensures in
    (λ t. record { on_x = on_x.0 c.if-not-overlap.false; on_y = on_y.0 t }, λ b. on_y.1 b.on_y)
