-- A segment whose ends lie on one side of a line touches nothing of it.
use Rattle.std.proofs.Common.{◌∙◌, sym, ap, eq-eqb}
use Rattle.plane_geom.specs.Turns.{turn}
use Rattle.plane_geom.proofs.TestOfTouch.{equal_signs}
use Rattle.plane_geom.proofs.BoxesBeside.{untouched}
use Rattle.dgn_fence.specs.declared.end.End.{End}
use Rattle.dgn_fence.proofs.end.End.leg_touches.Goals as goal

pub returns-then-self-to : goal.returns-then-self-to
returns-then-self-to c =
    let p = c.args.self in
    let q = c.args.to in
    let r = c.args.r in
    let s = c.args.s in
    let signs = equal_signs (turn r s p.point) (turn r s q.point) p.side q.side (ap (λ (e : End). e.side) c.requires.from)
    (ap (λ (e : End). e.side) c.requires.to) c.if-self-ne0.true in
    sym (untouched p.point q.point r s (sym signs ∙ eq-eqb _ _ c.if-self-to.true))
