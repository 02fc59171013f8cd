-- Corners all on one hand make an even number of edges that pass.
use Rattle.plane_geom.proofs.OutsidePolygons.{inside_the_box}
use Rattle.plane_geom.proofs.laws.within_is_in_boxes.Goals as goal

pub returns : goal.returns
returns c = inside_the_box
