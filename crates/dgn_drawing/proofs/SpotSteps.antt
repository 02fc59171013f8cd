-- The spots of an element lie in its bytes.
use Rattle.std.proofs.Common.{ℕ, ◌+◌, ◌≤◌, List, [], ◌∷◌, length, arith}
use Rattle.std.specs.List.{AllByRecursion}
use Rattle.dgn_layout.specs.declared.spot.Spot.{Spot}
use Rattle.dgn_layout.specs.Spots.{spots_of, HoldsPoints, Rise}
use Rattle.dgn_layout.proofs.SpotsRise.{spots_rise}
use Rattle.dgn_drawing.specs.WellFormed.{IsDimension}

-- a spot lies in so many bytes
abbrev pub LieIn : ℕ → List Spot → Type 0
LieIn end ss = AllByRecursion (λ s. s.at + 4 ≤ end) ss

lie_rising : (p end : ℕ) (ss : List Spot) → Rise p ss end → LieIn end ss × (p ≤ end)
lie_rising p end [] rise = (tt, rise)
lie_rising p end (s ∷ ss) rise =
    let more = lie_rising (s.at + 4) end ss rise.1 in
    ((more.1, more.0), omega (arith, more.1, rise.0))

pub lie_in : (dim kind : ℕ) (b : List ℕ) → IsDimension dim → HoldsPoints dim kind b (length b) → LieIn (length b) (spots_of dim kind b)
lie_in dim kind b axes holds = (lie_rising 4 (length b) (spots_of dim kind b) (spots_rise dim kind (length b) b axes holds)).0
