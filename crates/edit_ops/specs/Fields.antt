-- Fields of a drawing's bytes: so many bytes from a place on.
use Rattle.std.specs.Prelude.{ℕ, ◌+◌, ◌<◌, ◌≤◌, List, [], ◌∷◌, map, take, drop}
use Rattle.dgn_layout.specs.declared.spot.Spot.{Spot}
use Rattle.patch_bytes.specs.Puts.{Put}

-- so many bytes from a place on
pub record Field : Type 0 where
  pub at : ℕ
  pub len : ℕ

-- coordinate fields of an element that begins at byte p
abbrev pub spot_fields : ℕ → List Spot → List Field
spot_fields p ss = map (λ s. record { at = p + s.at; len = 4 }) ss

-- fields with the bytes that a text has there
abbrev pub filled : List ℕ → List Field → List Put
filled text fields = map (λ f. record { at = f.at; bytes = take f.len (drop f.at text) }) fields

-- byte k is in a field
pub record IsIn (f : Field) (k : ℕ) : Type 0 where
  pub from : f.at ≤ k
  pub below : k < f.at + f.len

-- fields rise from place p on, each begins where the one before it ends or behind, and the last one ends by `end`:
-- so no two of them share a byte
abbrev pub Rise : ℕ → List Field → ℕ → Type 0
Rise p [] end = p ≤ end
Rise p (f ∷ fs) end = (p ≤ f.at) × Rise (f.at + f.len) fs end
