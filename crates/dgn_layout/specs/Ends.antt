-- Where the body of an element ends, by its type. b is the bytes of the element from its first one on.
use Rattle.std.specs.Prelude.{ℕ, ◌+◌, ◌-◌, ◌==◌, List, slice_index, if◌then◌else◌}
use Rattle.dgn_layout.specs.declared.types.Class.{Class}
use Rattle.dgn_layout.specs.Classes.{class_of}
use Rattle.dgn_layout.specs.Spots.{points_in, layout_end}

-- where the characters of a text begin
abbrev pub chars_start : ℕ → ℕ
chars_start dim = if dim == 2 then 60 else 76

-- how many they are: the byte two before the first one
abbrev pub chars_count : ℕ → List ℕ → ℕ
chars_count dim b = slice_index b (chars_start dim - 2)

-- where the body of a class and type ends: that of a text behind its characters, any other behind its points
abbrev pub end_in : Class → ℕ → ℕ → List ℕ → ℕ
end_in Class.Words dim kind b = chars_start dim + chars_count dim b
end_in other dim kind b = layout_end dim (points_in other dim kind b)

-- where the body of a type ends
abbrev pub body_end : ℕ → ℕ → List ℕ → ℕ
body_end dim kind b = end_in (class_of kind) dim kind b

-- the bytes that an element has to have for its count to stand in it: of a row of points the count word, of a text
-- the count of its characters and the byte behind it. Other elements have no count that their end hangs on
abbrev pub count_in : Class → ℕ → ℕ → ℕ
count_in Class.Vertices dim kind = if kind == 3 then 0 else 38
count_in Class.Words dim kind = chars_start dim
count_in other dim kind = 0

abbrev pub count_end : ℕ → ℕ → ℕ
count_end dim kind = count_in (class_of kind) dim kind
