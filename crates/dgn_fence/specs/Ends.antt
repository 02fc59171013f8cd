-- The ends of segments by an edge. Contracts of private functions alone cite this.
use Rattle.std.specs.Prelude.{◌≡◌}
use Rattle.std.specs.Int.{int_signum}
use Rattle.plane_geom.specs.declared.pt.Pt.{Pt}
use Rattle.plane_geom.specs.Turns.{turn}
use Rattle.dgn_fence.specs.declared.end.End.{End}

-- the point p by the edge from r to s, with its side of it
abbrev pub edge_end : Pt → Pt → Pt → End
edge_end r s p = record { point = p; side = int_signum (turn r s p) }

abbrev pub IsEnd : Pt → Pt → End → Type 0
IsEnd r s end = end ≡ edge_end r s end.point
