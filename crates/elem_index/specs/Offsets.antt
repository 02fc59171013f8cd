-- Where each element of a body begins, counted from the body's first byte.
use Rattle.std.specs.Prelude.{ℕ, List, length, map, take}
use Rattle.dgn_drawing.specs.Element.{Element}
use Rattle.dgn_drawing.specs.Spelling.{spelling, size_of}
use Rattle.dgn_drawing.specs.Opening.{offsets_from}

-- the offset of element n: the length of the spellings before it
abbrev pub offset_of : List Element → ℕ → ℕ
offset_of es n = length (spelling (take n es))

-- the offsets of all elements, by their sizes alone
abbrev pub offsets_of : List Element → List ℕ
offsets_of es = offsets_from 0 (map size_of es)
