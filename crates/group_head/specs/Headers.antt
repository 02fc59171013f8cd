-- The fields of a group's header: the total, which every such header has, and the name and the origin,
-- which a cell header has too. Each field stands at the place that the format's table of bodies gives.
use Rattle.std.specs.Prelude.{ℕ, List, [], ◌∷◌, ℤ, ◌==◌, if◌then◌else◌}
use Rattle.dgn_words.specs.Numbers.{word_at, long_at}

-- the total word
abbrev pub total_at : List ℕ → ℕ
total_at b = word_at b 36

-- the two words of a cell's name
abbrev pub name_at : List ℕ → List ℕ
name_at b = word_at b 38 ∷ word_at b 40 ∷ []

-- the origin of a cell, with two axes in 2D and three in 3D
abbrev pub origin_at : ℕ → List ℕ → List ℤ
origin_at dim b = if dim == 2 then long_at b 84 ∷ long_at b 88 ∷ [] else long_at b 112 ∷ long_at b 116 ∷ long_at b 120 ∷ []

-- where the read part of a cell header ends
abbrev pub cell_end : ℕ → ℕ
cell_end dim = if dim == 2 then 92 else 124
