-- A path begins with its first point.
use Rattle.std.proofs.Common.{◌∙◌}
use Rattle.dgn_fence.proofs.Segments.{path_begins}
use Rattle.dgn_fence.proofs.extent.first_point.Goals as goal

pub returns-in-Path : goal.returns-in-Path
returns-in-Path c = rw c.in-Path.is (c.path_start.ensures ∙ path_begins _ _)
