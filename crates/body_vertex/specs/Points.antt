-- The points of the elements whose body is a row of points: lines, line strings, shapes and curves.
-- A line has two points, from byte 36 on. The others have the word at 36 as their number and the
-- points from byte 38 on. A point is one long for each axis.
use Rattle.std.specs.Prelude.{ℕ, zero, suc, ◌+◌, ◌*◌, ◌≤◌, ◌==◌, ◌||◌, IsTrue, List, [], ◌∷◌, length, ℤ, if◌then◌else◌}
use Rattle.dgn_words.specs.Numbers.{word_at, longs_at}

-- the types of a line, a line string, a shape and a curve
abbrev pub IsPathKind : ℕ → Type 0
IsPathKind kind = IsTrue (kind == 3 || kind == 4 || kind == 6 || kind == 11)

-- the n points of dim longs each that stand side by side from place p on
abbrev pub points_at : ℕ → ℕ → List ℕ → ℕ → List (List ℤ)
points_at zero dim b p = []
points_at (suc n) dim b p = longs_at dim b p ∷ points_at n dim b (p + 4 * dim)

-- the place of the first point
abbrev pub points_start : ℕ → ℕ
points_start kind = if kind == 3 then 36 else 38

-- the number of points
abbrev pub count_of : ℕ → List ℕ → ℕ
count_of kind b = if kind == 3 then 2 else word_at b 36

-- the points of an element of a type
abbrev pub points_of : ℕ → ℕ → List ℕ → List (List ℤ)
points_of dim kind b = points_at (count_of kind b) dim b (points_start kind)

-- the place behind the last point
abbrev pub points_end : ℕ → ℕ → List ℕ → ℕ
points_end dim kind b = points_start kind + 4 * dim * count_of kind b

-- the points stand in the bytes, and so does the number that says how many they are
abbrev pub PointsFit : ℕ → ℕ → List ℕ → Type 0
PointsFit dim kind b = points_end dim kind b ≤ length b
