-- A worked line from 0,0 to 100,50 in 2D: its spots, the line displaced by 10,-5, and the line marked.
use Rattle.std.proofs.Common.{◌≡◌, ℕ, List, [], ◌∷◌, map, refl, true}
use Rattle.std.specs.Prelude.{pos, neg_ℤ}
use Rattle.dgn_layout.specs.Spots.{spots_of}
use Rattle.patch_bytes.specs.Puts.{lay, write}
use Rattle.dgn_drawing.specs.Values.{Displacement}
use Rattle.dgn_drawing.specs.Spelling.{display_bytes, parts_bytes, body_bytes, spell}
use Rattle.dgn_drawing.specs.SpotNumbers.{value_at, displaced_put}
use Rattle.dgn_drawing.specs.Changes.{mark, shift, stays_on_plane}
use Rattle.dgn_drawing.proofs.WorkedElements.{line, line_bytes}

-- ten to the right and five down
abbrev by : Displacement
by = record { axes = 2; by = pos 10 ∷ neg_ℤ (pos 5) ∷ pos 0 ∷ [] }

-- the bytes of the displaced line
abbrev displaced_bytes : List ℕ
displaced_bytes =
    0x01 ∷ 0x03 ∷ 0x18 ∷ 0x00 ∷ 0x00 ∷ 0x80 ∷ 0x0A ∷ 0x00 ∷ 0xFF ∷ 0x7F ∷ 0xFB ∷ 0xFF ∷ 0x00 ∷ 0x80 ∷ 0x00 ∷ 0x00 ∷
    0x00 ∷ 0x80 ∷ 0x6E ∷ 0x00 ∷ 0x00 ∷ 0x80 ∷ 0x2D ∷ 0x00 ∷ 0x00 ∷ 0x80 ∷ 0x00 ∷ 0x00 ∷ 0x00 ∷ 0x00 ∷ 0x0A ∷ 0x00 ∷
    0x00 ∷ 0x00 ∷ 0x00 ∷ 0x00 ∷ 0x00 ∷ 0x00 ∷ 0x0A ∷ 0x00 ∷ 0xFF ∷ 0xFF ∷ 0xFB ∷ 0xFF ∷ 0x00 ∷ 0x00 ∷ 0x6E ∷ 0x00 ∷
    0x00 ∷ 0x00 ∷ 0x2D ∷ 0x00 ∷ []

-- the bytes of the marked line
abbrev marked_bytes : List ℕ
marked_bytes =
    0x01 ∷ 0x83 ∷ 0x18 ∷ 0x00 ∷ 0x00 ∷ 0x80 ∷ 0x00 ∷ 0x00 ∷ 0x00 ∷ 0x80 ∷ 0x00 ∷ 0x00 ∷ 0x00 ∷ 0x80 ∷ 0x00 ∷ 0x00 ∷
    0x00 ∷ 0x80 ∷ 0x64 ∷ 0x00 ∷ 0x00 ∷ 0x80 ∷ 0x32 ∷ 0x00 ∷ 0x00 ∷ 0x80 ∷ 0x00 ∷ 0x00 ∷ 0x00 ∷ 0x00 ∷ 0x0A ∷ 0x00 ∷
    0x00 ∷ 0x00 ∷ 0x00 ∷ 0x00 ∷ 0x00 ∷ 0x00 ∷ 0x00 ∷ 0x00 ∷ 0x00 ∷ 0x00 ∷ 0x00 ∷ 0x00 ∷ 0x00 ∷ 0x00 ∷ 0x64 ∷ 0x00 ∷
    0x00 ∷ 0x00 ∷ 0x32 ∷ 0x00 ∷ []

-- the numbers at the spots, in their order: those of the two corners, then those of the two points
values-line : map (value_at line_bytes) (spots_of 2 3 line_bytes) ≡ pos 0 ∷ pos 0 ∷ pos 100 ∷ pos 50 ∷ pos 0 ∷ pos 0 ∷ pos 100 ∷ pos 50 ∷ []
values-line = refl

-- the places of the spots
places-line : map (λ s. s.at) (spots_of 2 3 line_bytes) ≡ 4 ∷ 8 ∷ 16 ∷ 20 ∷ 36 ∷ 40 ∷ 44 ∷ 48 ∷ []
places-line = refl

-- the displaced line lies on the plane
stays-line : stays_on_plane 2 by line ≡ true
stays-line = refl

-- the displaced line is spelled so
spell-displaced_line : spell (shift 2 by line) ≡ displaced_bytes
unfolding spell body_bytes parts_bytes display_bytes
spell-displaced_line = refl

-- so are the line's bytes with the sums put at the spots
write-displaced_line : write line_bytes (map (displaced_put by line_bytes) (spots_of 2 3 line_bytes)) ≡ displaced_bytes
unfolding lay
write-displaced_line = refl

-- the marked line: type 3 and the deleted bit are 83 in byte 1
spell-marked_line : spell (mark line) ≡ marked_bytes
unfolding spell body_bytes parts_bytes display_bytes
spell-marked_line = refl

-- so are the line's bytes with byte 1 put anew
write-marked_line : write line_bytes (record { at = 1; bytes = 0x83 ∷ [] } ∷ []) ≡ marked_bytes
unfolding lay
write-marked_line = refl
