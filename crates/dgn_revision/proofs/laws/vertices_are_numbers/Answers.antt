use Rattle.dgn_revision.proofs.Vertices.{vertex_put}
use Rattle.dgn_revision.proofs.laws.vertices_are_numbers.Goals as goal

pub returns : goal.returns
returns c = vertex_put
