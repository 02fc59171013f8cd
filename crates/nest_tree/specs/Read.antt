-- How far the elements are read, and for how many more there is room.
use Rattle.std.specs.Prelude.{ℕ, ◌≡◌, ◌≤◌, Bool, true, false, List, []}
use Rattle.std.specs.List.{range_with_len}
use Rattle.dgn_drawing.specs.declared.row.Row.{Row}
use Rattle.dgn_drawing.specs.Nesting.{itself}
use Rattle.dgn_drawing.specs.Numbering.{is_broken}
use Rattle.nest_tree.specs.NestEntries.{NestEntry}
use Rattle.nest_tree.specs.Places.{ArePlaces}
use Rattle.nest_tree.specs.Passing.{passing}

-- the first n elements have their places, and the broken ones of them are listed
pub record AreRead (rows : List Row) (n : ℕ) (ends : List ℕ) (entries : List NestEntry) (broken : List ℕ) : Type 0 where
  pub places : ArePlaces rows n ends entries
  pub are_broken : broken ≡ passing (is_broken itself rows) 0 n

-- in each list there is room for so many more
pub record HaveRoom (more ends entries broken : ℕ) : Type 0 where
  pub for_ends : more ≤ ends
  pub for_entries : more ≤ entries
  pub for_broken : more ≤ broken

-- the numbers of so many elements from number `at` on, if they are broken
abbrev pub orphans_from : Bool → ℕ → ℕ → List ℕ
orphans_from true at n = range_with_len at n
orphans_from false at n = []
