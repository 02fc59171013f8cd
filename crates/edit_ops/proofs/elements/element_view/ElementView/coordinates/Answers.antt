use Rattle.dgn_drawing.proofs.SpotSteps.{lie_in}
use Rattle.edit_ops.proofs.elements.element_view.ElementView.coordinates.Goals as goal

pub spots_in-requires-clause-holds : goal.spots_in-requires-clause-holds
spots_in-requires-clause-holds c = rw c.dim.ensures.value c.requires

pub returns-clause-spots : goal.returns-clause-spots
returns-clause-spots c = rw c.dim.ensures.value at c.spots_in.ensures

pub returns-clause-within : goal.returns-clause-within
returns-clause-within c =
    lie_in c.args.d.now.dim c.args.self.kind c.args.self.bytes.now (rw c.dim.ensures.value at c.dim.ensures.dimension) c.requires
