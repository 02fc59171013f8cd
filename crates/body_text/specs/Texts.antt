-- A text and the origin of a text node, as they stand in an element's bytes. In the plane and in
-- space the fields stand at other places, since a rotation takes more bytes in space.
use Rattle.std.specs.Prelude.{ℕ, ◌+◌, ◌≤◌, ◌==◌, List, length, take, drop, slice_index, ℤ, if◌then◌else◌}
use Rattle.dgn_words.specs.Numbers.{longs_at}

-- the place of a text's origin
abbrev pub origin_start : ℕ → ℕ
origin_start dim = if dim == 2 then 50 else 62

-- the place of the byte that is the number of a text's characters
abbrev pub chars_count_place : ℕ → ℕ
chars_count_place dim = if dim == 2 then 58 else 74

-- the place of a text's first character
abbrev pub chars_start : ℕ → ℕ
chars_start dim = if dim == 2 then 60 else 76

-- the origin of a text, one long for each axis
abbrev pub origin_of : ℕ → List ℕ → List ℤ
origin_of dim b = longs_at dim b (origin_start dim)

-- the number of a text's characters
abbrev pub chars_count : ℕ → List ℕ → ℕ
chars_count dim b = slice_index b (chars_count_place dim)

-- the characters of a text
abbrev pub chars_of : ℕ → List ℕ → List ℕ
chars_of dim b = take (chars_count dim b) (drop (chars_start dim) b)

-- the place behind the last character
abbrev pub text_end : ℕ → List ℕ → ℕ
text_end dim b = chars_start dim + chars_count dim b

-- the fixed part of a text and its characters stand in the bytes
abbrev pub TextFits : ℕ → List ℕ → Type 0
TextFits dim b = text_end dim b ≤ length b

-- the place of a text node's origin
abbrev pub node_origin_start : ℕ → ℕ
node_origin_start dim = if dim == 2 then 62 else 74

-- the place behind a text node's origin
abbrev pub node_end : ℕ → ℕ
node_end dim = if dim == 2 then 70 else 86

-- the origin of a text node, one long for each axis
abbrev pub node_origin_of : ℕ → List ℕ → List ℤ
node_origin_of dim b = longs_at dim b (node_origin_start dim)
