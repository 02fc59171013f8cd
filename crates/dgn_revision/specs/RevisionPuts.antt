-- The fields of an element that a revision writes, in rising order of place, and what is put there. Places are counted
-- from the element's first byte.
use Rattle.std.specs.Prelude.{ℕ, ◌+◌, ◌-◌, ◌*◌, ◌/◌, Bool, ℤ, List, [], ◌∷◌, ◌++◌, length, map, slice_index}
use Rattle.std.specs.List.{flat_map}
use Rattle.dgn_words.specs.Numbers.{word_bytes}
use Rattle.range_code.specs.Ranges.{on_axis}
use Rattle.body_vertex.specs.Points.{points_start}
use Rattle.dgn_layout.specs.declared.spot.Spot.{Spot}
use Rattle.dgn_layout.specs.Spots.{range_spots, point_spots}
use Rattle.dgn_layout.specs.Ends.{chars_start}
use Rattle.patch_bytes.specs.Puts.{Put}
use Rattle.dgn_drawing.specs.Element.{Body, Silent, Shown, Element}
use Rattle.dgn_drawing.specs.Spelling.{first_byte, second_byte, spell}
use Rattle.dgn_drawing.specs.SpotNumbers.{number_bytes, widened_put}
use Rattle.dgn_revision.specs.Revising.{relevelled, lock_set, unmarked, vertices, range_at_point}
use Rattle.dgn_revision.specs.Stretches.{Stretch, spot_stretches, stretch_of}

-- another level: byte 0
abbrev pub level_fields : List Stretch
level_fields = record { at = 0; len = 1 } ∷ []

abbrev pub level_puts : ℕ → Element → List Put
level_puts level e = record { at = 0; bytes = first_byte (relevelled level e) ∷ [] } ∷ []

-- a lock: byte 33, the high byte of the properties; of a silent element nothing
abbrev pub lock_fields : Body → List Stretch
lock_fields (Silent rest) = []
lock_fields (Shown display parts rest) = record { at = 33; len = 1 } ∷ []

abbrev pub lock_puts : Bool → Body → List Put
lock_puts lock (Silent rest) = []
lock_puts lock (Shown display parts rest) = record { at = 33; bytes = (lock_set lock display.properties / 256) ∷ [] } ∷ []

-- a deletion taken back: byte 1
abbrev pub mark_fields : List Stretch
mark_fields = record { at = 1; len = 1 } ∷ []

abbrev pub unmark_puts : Element → List Put
unmark_puts e = record { at = 1; bytes = second_byte (unmarked e) ∷ [] } ∷ []

-- a name: the words at bytes 38 and 40
abbrev pub name_fields : List Stretch
name_fields = record { at = 38; len = 2 } ∷ record { at = 40; len = 2 } ∷ []

abbrev pub name_puts : List ℕ → List Put
name_puts name =
    record { at = 38; bytes = word_bytes (slice_index name 0) } ∷ record { at = 40; bytes = word_bytes (slice_index name 1) } ∷ []

-- bytes from a place on, in pieces of four of which the last is as long as is left
abbrev pub pieces : ℕ → List ℕ → List Put
pieces p [] = []
pieces p (a ∷ []) = record { at = p; bytes = a ∷ [] } ∷ []
pieces p (a ∷ b ∷ []) = record { at = p; bytes = a ∷ b ∷ [] } ∷ []
pieces p (a ∷ b ∷ c ∷ []) = record { at = p; bytes = a ∷ b ∷ c ∷ [] } ∷ []
pieces p (a ∷ b ∷ c ∷ d ∷ more) = record { at = p; bytes = a ∷ b ∷ c ∷ d ∷ [] } ∷ pieces (p + 4) more

-- a text in place: the byte that counts its characters, which stands two before the first, and the characters in pieces
abbrev pub text_puts : ℕ → List ℕ → List Put
text_puts dim chars = record { at = chars_start dim - 2; bytes = length chars ∷ [] } ∷ pieces (chars_start dim) chars

abbrev pub text_fields : ℕ → List ℕ → List Stretch
text_fields dim chars = record { at = chars_start dim - 2; len = 1 } ∷ map stretch_of (pieces (chars_start dim) chars)

-- a vertex: the range, and each point that it stands for once
abbrev pub point_place : ℕ → ℕ → ℕ → ℕ
point_place dim kind k = points_start kind + 4 * dim * k

abbrev pub vertex_points : ℕ → ℕ → Element → List Spot
vertex_points dim index e = flat_map (λ k. point_spots dim (point_place dim e.kind k)) (vertices index e)

abbrev pub vertex_fields : ℕ → ℕ → Element → List Stretch
vertex_fields dim index e = spot_stretches (range_spots dim ++ vertex_points dim index e)

-- the number of a point at a spot
abbrev pub number_put : List ℤ → Spot → Put
number_put point s = record { at = s.at; bytes = number_bytes s (on_axis point s.axis) }

abbrev pub vertex_puts : ℕ → ℕ → List ℤ → Element → List Put
vertex_puts dim index point e =
    map (widened_put (range_at_point point) (spell e)) (range_spots dim) ++ map (number_put point) (vertex_points dim index e)
