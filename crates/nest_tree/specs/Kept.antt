-- The rows of elements, by what is kept of each: the place where it begins, and type and bit C in a byte; and of those that
-- count their members the total.
use Rattle.std.specs.Prelude.{ℕ, ◌≡◌, ◌+◌, ◌-◌, ◌<◌, ◌%◌, leb, if◌then◌else◌, Bool, List, [], ◌∷◌, length, drop, get_or}
use Rattle.std.specs.List.{AllByRecursion}
use Rattle.dgn_layout.specs.Classes.{class_of}
use Rattle.dgn_drawing.specs.declared.row.Row.{Row}
use Rattle.dgn_drawing.specs.Nesting.{is_counted}
use Rattle.nest_tree.specs.Shapes.{IsRow}

-- the first of some places, or the one behind them
abbrev pub next_place : List ℕ → ℕ → ℕ
next_place [] end = end
next_place (p ∷ ps) end = p

-- whether an element counts its members, by its byte: the type, and 128 more where it has bit C
abbrev pub counts : ℕ → Bool
counts kind = is_counted (class_of (kind % 128))

-- the row of an element, by its place, the place behind it, its byte and its total
abbrev pub kept_row : ℕ → ℕ → ℕ → ℕ → Row
kept_row place next kind total = record { size = next - place; kind = kind % 128; cbit = leb 128 kind; total = total }

-- the rows of elements, one behind the other, by the places and bytes of all, and by the totals of those that count their
-- members; the last one ends at place `end`
abbrev pub kept_rows : List ℕ → List ℕ → List ℕ → ℕ → List Row
kept_rows [] kinds totals end = []
kept_rows (p ∷ ps) [] totals end = []
kept_rows (p ∷ ps) (k ∷ ks) totals end =
    kept_row p (next_place ps end) k (if counts k then get_or totals 0 0 else 0) ∷ kept_rows ps ks (if counts k then drop 1 totals else totals) end

-- how many of the rows count their members
abbrev pub counted_in : List Row → ℕ
counted_in [] = 0
counted_in (r ∷ rs) = (if is_counted (class_of r.kind) then 1 else 0) + counted_in rs

-- there are few enough elements; each has a byte and a row, and each that counts its members a total
pub record AreKept (places kinds totals : List ℕ) (end : ℕ) : Type 0 where
  pub few : length places < 4294967295
  pub each : length kinds ≡ length places
  pub counted : length totals ≡ counted_in (kept_rows places kinds totals end)
  pub rows : AllByRecursion IsRow (kept_rows places kinds totals end)
