-- The range of an element, as its display header holds it: a low and a high corner, each with a range
-- number for x, y and z. b is the bytes of the element from its first one on.
use Rattle.std.specs.Prelude.{ℕ, ◌+◌, List, [], ◌∷◌, slice_index_or, ℤ, pos}
use Rattle.std.specs.Int.{int_min, int_max}
use Rattle.range_code.specs.declared.Box3.{Box3}
use Rattle.dgn_words.specs.Numbers.{range_long_at}

-- the corner at place p: three range numbers, for x, y and z
abbrev pub corner_at : List ℕ → ℕ → List ℤ
corner_at b p = range_long_at b p ∷ range_long_at b (p + 4) ∷ range_long_at b (p + 8) ∷ []

-- the range: the low corner at byte 4, the high one at byte 16
abbrev pub range_of : List ℕ → Box3
range_of b = record { lo = corner_at b 4; hi = corner_at b 16 }

-- the number of a corner on one axis: 0 is x, 1 is y, 2 is z
abbrev pub on_axis : List ℤ → ℕ → ℤ
on_axis corner axis = slice_index_or corner axis (pos 0)

-- on each axis the lesser number of two corners
abbrev pub least_corner : List ℤ → List ℤ → List ℤ
least_corner a b = int_min (on_axis a 0) (on_axis b 0) ∷ int_min (on_axis a 1) (on_axis b 1) ∷ int_min (on_axis a 2) (on_axis b 2) ∷ []

-- on each axis the greater number of two corners
abbrev pub greatest_corner : List ℤ → List ℤ → List ℤ
greatest_corner a b = int_max (on_axis a 0) (on_axis b 0) ∷ int_max (on_axis a 1) (on_axis b 1) ∷ int_max (on_axis a 2) (on_axis b 2) ∷ []

-- the least range that holds two ranges: the least lows and the greatest highs
abbrev pub join_of : Box3 → Box3 → Box3
join_of a b = record { lo = least_corner a.lo b.lo; hi = greatest_corner a.hi b.hi }
