-- Laws of the spots of an element.
use Rattle.std.specs.Prelude.{ℕ, ◌≡◌, ◌⊎◌, ◌+◌, ◌≤◌, Bool, ◌&&◌, nat_lt, nat_le, List, [], All, count_by}
use Rattle.dgn_layout.specs.declared.spot.Spot.{Spot}
use Rattle.dgn_layout.specs.declared.types.Class.TheVariants.{Run, Floating, Boxed, Silent}
use Rattle.dgn_layout.specs.Classes.{class_of}
use Rattle.dgn_layout.specs.Spots.{spots_of, HoldsPoints, Rise}
use Rattle.dgn_layout.specs.Ends.{body_end}

-- the spots of an element that holds its points rise from byte 4 to the end of the element
abbrev pub SpotsRise : Type 0
SpotsRise =
    (dim kind size : ℕ) (b : List ℕ) →
    (dim ≡ 2) ⊎ (dim ≡ 3) → HoldsPoints dim kind b size → Rise 4 (spots_of dim kind b) size

-- an element that doesn't end before its body does holds its points
abbrev pub BodiesHoldPoints : Type 0
BodiesHoldPoints =
    (dim kind size : ℕ) (b : List ℕ) → (dim ≡ 2) ⊎ (dim ≡ 3) → body_end dim kind b ≤ size → HoldsPoints dim kind b size

-- the four bytes of a spot lie between these places
pub record LiesIn (p end : ℕ) (s : Spot) : Type 0 where
  pub low : p ≤ s.at
  pub high : s.at + 4 ≤ end

-- whether a byte is one of the four of a spot
abbrev pub has_byte : ℕ → Spot → Bool
has_byte k s = nat_le s.at k && nat_lt k (s.at + 4)

-- the spots lie between these places, and no byte is in two of them
pub record SpotsAreApart (p end : ℕ) (ss : List Spot) : Type 0 where
  pub within : All (LiesIn p end) ss
  pub single : (k : ℕ) → count_by (has_byte k) ss ≤ 1

-- spots that rise are apart
abbrev pub RisingSpotsAreApart : Type 0
RisingSpotsAreApart = (p end : ℕ) (ss : List Spot) → Rise p ss end → SpotsAreApart p end ss

-- the types of the classes without spots
abbrev pub IsSpotless : ℕ → Type 0
IsSpotless kind =
    (class_of kind ≡ Run) ⊎ (class_of kind ≡ Floating) ⊎ (class_of kind ≡ Boxed) ⊎ (class_of kind ≡ Silent)

-- their elements have none
abbrev pub NoSpotsElsewhere : Type 0
NoSpotsElsewhere = (dim kind : ℕ) (b : List ℕ) → IsSpotless kind → spots_of dim kind b ≡ []
