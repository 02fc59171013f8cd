-- The spots of an element: its coordinate fields, of four bytes each. Those of its range stand first, then
-- those of its points. b is the bytes of the element from its first one on.
use Rattle.std.specs.Prelude.{ℕ, zero, suc, ◌+◌, ◌*◌, ◌≤◌, ◌==◌, Bool, true, false, List, [], ◌∷◌, ◌++◌, if◌then◌else◌}
use Rattle.dgn_words.specs.Numbers.{word_at}
use Rattle.dgn_layout.specs.declared.types.Class.{Class}
use Rattle.dgn_layout.specs.declared.spot.Spot.{Spot}
use Rattle.dgn_layout.specs.Classes.{class_of}

-- n fields side by side from place p on, for this axis and those behind it
abbrev pub fields_from : Bool → ℕ → ℕ → ℕ → List Spot
fields_from offset zero axis p = []
fields_from offset (suc n) axis p = record { at = p; axis = axis; offset = offset } ∷ fields_from offset n (axis + 1) (p + 4)

-- the range: the low corner from byte 4 on and the high one from byte 16 on, each on the file's axes
abbrev pub range_spots : ℕ → List Spot
range_spots dim = fields_from true dim 0 4 ++ fields_from true dim 0 16

-- a point at place p
abbrev pub point_spots : ℕ → ℕ → List Spot
point_spots dim p = fields_from false dim 0 p

-- n points side by side from place p on
abbrev pub points_spots : ℕ → ℕ → ℕ → List Spot
points_spots zero dim p = []
points_spots (suc n) dim p = point_spots dim p ++ points_spots n dim (p + 4 * dim)

-- the place of a text's origin, of a cell's and of a text node's
abbrev pub text_origin : ℕ → ℕ
text_origin dim = if dim == 2 then 50 else 62

abbrev pub cell_origin : ℕ → ℕ
cell_origin dim = if dim == 2 then 84 else 112

abbrev pub node_origin : ℕ → ℕ
node_origin dim = if dim == 2 then 62 else 74

-- the table of points, by class and type: how many there are and where the first one stands
pub record Points : Type 0 where
  pub count : ℕ
  pub start : ℕ

abbrev pub points_in : Class → ℕ → ℕ → List ℕ → Points
points_in Class.Vertices dim kind b =
    if kind == 3 then record { count = 2; start = 36 } else record { count = word_at b 36; start = 38 }
points_in Class.Words dim kind b = record { count = 1; start = text_origin dim }
points_in Class.Counted dim kind b =
    if kind == 2 then record { count = 1; start = cell_origin dim }
    else if kind == 7 then record { count = 1; start = node_origin dim }
    else record { count = 0; start = 40 }
points_in Class.Silent dim kind b = record { count = 0; start = 4 }
points_in other dim kind b = record { count = 0; start = 36 }

-- whether elements of a class have spots: those of the classes vertices, words and counted
abbrev pub has_spots : Class → Bool
has_spots Class.Vertices = true
has_spots Class.Words = true
has_spots Class.Counted = true
has_spots other = false

-- the place behind the last point. An element that holds its body reaches to it
abbrev pub layout_end : ℕ → Points → ℕ
layout_end dim points = points.start + 4 * dim * points.count

-- the spots of an element of a class, with these points
abbrev pub spots_with : Bool → ℕ → Points → List Spot
spots_with true dim points = range_spots dim ++ points_spots points.count dim points.start
spots_with false dim points = []

-- the spots of an element of a type
abbrev pub spots_of : ℕ → ℕ → List ℕ → List Spot
spots_of dim kind b = spots_with (has_spots (class_of kind)) dim (points_in (class_of kind) dim kind b)

-- an element of the type holds its points
abbrev pub HoldsPoints : ℕ → ℕ → List ℕ → ℕ → Type 0
HoldsPoints dim kind b size = layout_end dim (points_in (class_of kind) dim kind b) ≤ size

-- the spots rise from place p on, each begins where the one before it ends or behind, and the last one ends
-- by `end`: so they lie there, and no two share a byte
abbrev pub Rise : ℕ → List Spot → ℕ → Type 0
Rise p [] end = p ≤ end
Rise p (s ∷ ss) end = (p ≤ s.at) × Rise (s.at + 4) ss end
