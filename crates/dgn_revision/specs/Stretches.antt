-- Stretches of an element's bytes: so many bytes from a place on, counted from the element's first byte.
use Rattle.std.specs.Prelude.{ℕ, List, length, map}
use Rattle.dgn_layout.specs.declared.spot.Spot.{Spot}
use Rattle.patch_bytes.specs.Puts.{Put}

pub record Stretch : Type 0 where
  pub at : ℕ
  pub len : ℕ

-- those of coordinate fields
abbrev pub spot_stretches : List Spot → List Stretch
spot_stretches ss = map (λ s. record { at = s.at; len = 4 }) ss

-- the one that is written by a put
abbrev pub stretch_of : Put → Stretch
stretch_of q = record { at = q.at; len = length q.bytes }
