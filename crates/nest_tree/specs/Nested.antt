-- What a nesting is seen as, and what it keeps.
use Rattle.std.specs.Prelude.{ℕ, ◌<◌, ◌≡◌, min, List, length}
use Rattle.std.specs.List.{AllByRecursion}
use Rattle.dgn_drawing.specs.declared.row.Row.{Row}
use Rattle.nest_tree.specs.NestEntries.{NestEntry}
use Rattle.nest_tree.specs.Depths.{IsWordTotal}
use Rattle.nest_tree.specs.Places.{ArePlaces}
use Rattle.nest_tree.specs.Passing.{broken_in}

-- a nesting: the rows of its elements, and how many more it has room for
pub record Nested : Type 0 where
  pub rows : List Row
  pub spare : ℕ

-- what it is with rows, and that room in its lists
abbrev pub nested_of : List Row → ℕ → ℕ → ℕ → ℕ → Nested
nested_of rows a b c d = record { rows = rows; spare = min (min a b) (min c d) }

-- what it keeps: rows of elements, their places, and the broken numbers
pub record IsNest (rows : List Row) (ends : List ℕ) (entries : List NestEntry) (broken : List ℕ) : Type 0 where
  pub some : 0 < length rows
  pub few : length rows < 4294967295
  pub words : AllByRecursion IsWordTotal rows
  pub places : ArePlaces rows (length rows) ends entries
  pub are_broken : broken ≡ broken_in rows
