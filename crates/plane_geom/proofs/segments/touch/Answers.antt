-- Segments touch exactly where the three tests pass.
use Rattle.std.proofs.Common.{IsTrue, ◌↔◌}
use Rattle.plane_geom.specs.Segments.{Touch}
use Rattle.plane_geom.proofs.Axes.{blocked}
use Rattle.plane_geom.proofs.CommonPoints.{boxes, splits_second, exchanged, touches}
use Rattle.plane_geom.proofs.TestOfTouch.{same_test, tells}
use Rattle.plane_geom.proofs.segments.touch.Goals as goal

pub returns-then-not-boxes_meet : goal.returns-then-not-boxes_meet
returns-then-not-boxes_meet c =
    let p = c.args.p in
    let q = c.args.q in
    let r = c.args.r in
    let s = c.args.s in
    let common = blocked c.boxes_meet.result c.if-not-boxes_meet.true c.boxes_meet.ensures.1 (boxes p q r s) in
    record { common = common; computed = same_test _ _ common (tells p q r s) }

pub returns-then-not-splits : goal.returns-then-not-splits
returns-then-not-splits c =
    let p = c.args.p in
    let q = c.args.q in
    let r = c.args.r in
    let s = c.args.s in
    let common = blocked c.splits.result c.if-not-splits.true c.splits.ensures.1 (splits_second p q r s) in
    record { common = common; computed = same_test _ _ common (tells p q r s) }

pub returns : goal.returns
returns c =
    let p = c.args.p in
    let q = c.args.q in
    let r = c.args.r in
    let s = c.args.s in
    let common : IsTrue c.splits-2.result ↔ Touch p q r s = (
      λ t. touches p q r s (c.boxes_meet.ensures.0 c.if-not-boxes_meet.false) (c.splits.ensures.0 c.if-not-splits.false) (c.splits-2.ensures.0 t),
      λ t. c.splits-2.ensures.1 (splits_second r s p q (exchanged p q r s t)),
    ) in
    record { common = common; computed = same_test _ _ common (tells p q r s) }
