-- What holds of a table of coordinate fields at fixed places.
use Rattle.std.specs.Prelude.{ℕ, ◌≡◌, List, [], ◌∷◌}
use Rattle.dgn_layout.specs.declared.spot.Spot.{Spot}
use Rattle.dgn_layout.specs.Spots.{Rise}

-- the first field is at byte 4, the places rise by at least 4, and the last field ends by `end`
abbrev pub IsTable : List Spot → ℕ → Type 0
IsTable [] end = ⊥
IsTable (s ∷ ss) end = (s.at ≡ 4) × Rise 8 ss end
