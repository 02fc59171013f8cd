use Rattle.std.proofs.Common.{length, List, sym, ap, ◌∙◌}
use Rattle.std.specs.Prelude.{ℤ}
use Rattle.body_vertex.proofs.Points.{length-points_at}
use Rattle.body_vertex.proofs.types.Path.count.Goals as goal

pub returns : goal.returns
returns g c = sym (length-points_at _ _ _ _) ∙ ap (length {A = List ℤ}) c.self.view_is
