use Rattle.dgn_drawing.specs.Items.{in_space}
use Rattle.dgn_drawing.proofs.ItemsShown.{map-take_get}
use Rattle.dgn_drawing.proofs.items.points.Goals as goal

pub loop-i-preserved : goal.loop-i-preserved
loop-i-preserved g c =
    let more = map-take_get in_space c.in-Some.path c.loop-i.i c.point.result c.point.ensures in
    let pushed = c.in_ok-push.ensures in
    let last = c.in_space.ensures in
    let so_far = c.loop-i.invariant in
    cc (pushed.ok)
