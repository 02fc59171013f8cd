use Rattle.plane_geom.proofs.TestOfTouch.{tells}
use Rattle.plane_geom.proofs.laws.the_test_tells.Goals as goal

pub returns : goal.returns
returns c = tells
