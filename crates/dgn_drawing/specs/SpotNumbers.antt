-- The numbers at the spots of an element's bytes, and what a displacement, a wider range and another range put there.
use Rattle.std.specs.Prelude.{ℕ, ◌+◌, nat_lt, if◌then◌else◌, List, map, ℤ, ◌+ℤ◌}
use Rattle.std.specs.Int.{int_min, int_max}
use Rattle.dgn_words.specs.Numbers.{long_at, range_long_at, long_bytes, range_long_bytes}
use Rattle.range_code.specs.declared.Box3.{Box3}
use Rattle.range_code.specs.Ranges.{on_axis}
use Rattle.dgn_layout.specs.declared.spot.Spot.{Spot}
use Rattle.dgn_layout.specs.Spots.{range_spots}
use Rattle.patch_bytes.specs.Puts.{Put}
use Rattle.dgn_drawing.specs.Values.{Displacement}

-- the number at a spot of the bytes b: a range number, or a long
abbrev pub value_at : List ℕ → Spot → ℤ
value_at b s = if s.offset then range_long_at b s.at else long_at b s.at

-- that number, displaced along the spot's axis
abbrev pub sum_at : Displacement → List ℕ → Spot → ℤ
sum_at by b s = value_at b s +ℤ on_axis by.by s.axis

-- the four bytes of a number at a spot
abbrev pub number_bytes : Spot → ℤ → List ℕ
number_bytes s v = if s.offset then range_long_bytes v else long_bytes v

-- what a displacement puts at a spot of the bytes b
abbrev pub displaced_put : Displacement → List ℕ → Spot → Put
displaced_put by b s = record { at = s.at; bytes = number_bytes s (sum_at by b s) }

-- the number of a range spot, made wider by a range: the lesser of the two in the low corner, which stands before
-- byte 16, and else the greater
abbrev pub wider : Box3 → Spot → ℤ → ℤ
wider r s v = if nat_lt s.at 16 then int_min v (on_axis r.lo s.axis) else int_max v (on_axis r.hi s.axis)

-- what a wider range puts at a range spot of the bytes b
abbrev pub widened_put : Box3 → List ℕ → Spot → Put
widened_put r b s = record { at = s.at; bytes = number_bytes s (wider r s (value_at b s)) }

-- the number of a box at a range spot: of its low corner, which stands before byte 16, or of its high one
abbrev pub number_in : Box3 → Spot → ℤ
number_in r s = if nat_lt s.at 16 then on_axis r.lo s.axis else on_axis r.hi s.axis

-- what is put at a range spot of an element that begins at byte p, where its range becomes a box
abbrev pub range_put : Box3 → ℕ → Spot → Put
range_put r p s = record { at = p + s.at; bytes = number_bytes s (number_in r s) }

-- and at all of them
abbrev pub range_puts : ℕ → Box3 → ℕ → List Put
range_puts dim r p = map (range_put r p) (range_spots dim)
