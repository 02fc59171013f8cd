-- Where rows are read from, and what is known of them where one is read. Contracts of private functions alone cite it.
use Rattle.std.specs.Prelude.{ℕ, ◌≡◌, ◌+◌, ◌*◌, ◌≤◌, ◌<◌, Bool, true, false, List, [], ◌∷◌, ◌++◌, length, take, get_or}
use Rattle.std.specs.List.{AllByRecursion}
use Rattle.dgn_drawing.specs.declared.row.Row.{Row}
use Rattle.dgn_layout.specs.Classes.{class_of}
use Rattle.dgn_drawing.specs.Nesting.{bytes_of, is_header, itself}
use Rattle.nest_tree.specs.declared.source.Source.{Source}
use Rattle.nest_tree.specs.declared.scan.Scan.{Scan}
use Rattle.nest_tree.specs.Shapes.{IsRow}
use Rattle.nest_tree.specs.Kept.{kept_rows, counted_in, AreKept}

-- what stands for a row past the end
abbrev pub no_row : Row
no_row = record { size = 0; kind = 0; cbit = false; total = 0 }

-- no number of the list is greater than one behind it
abbrev pub Rises : List ℕ → Type 0
Rises l = (i j : ℕ) → i ≤ j → j < length l → get_or l i 0 ≤ get_or l j 0

-- the places where rows begin, the first of them at place p, and where the last one ends
unfoldable pub places_from : ℕ → List Row → List ℕ
places_from p [] = p ∷ []
places_from p (r ∷ rs) = p ∷ places_from (p + r.size) rs

-- the rows that are read
abbrev pub rows_of : Source → List Row
rows_of (Source.Listed rows sums) = rows.now
rows_of (Source.Kept places kinds totals end) = kept_rows places.now kinds.now totals.now end

-- where they begin, and where the last one ends
abbrev pub places_of : Source → List ℕ
places_of (Source.Listed rows sums) = sums.now
places_of (Source.Kept places kinds totals end) = places.now ++ end ∷ []

abbrev pub place_in : Source → ℕ → ℕ
place_in s i = get_or (places_of s) i 0

-- rows of elements whose sums these are; no size has more than 32 bits
pub record AreListed (rows : List Row) (sums : List ℕ) : Type 0 where
  pub few : length rows < 4294967295
  pub each : AllByRecursion IsRow rows
  pub are_sums : sums ≡ places_from 0 rows
  pub light : bytes_of itself rows ≤ 4294967295 * length rows

-- what is said of the rows belongs together
abbrev pub IsSource : Source → Type 0
IsSource (Source.Listed rows sums) = AreListed rows.now sums.now
IsSource (Source.Kept places kinds totals end) = AreKept places.now kinds.now totals.now end

-- the rows from number i on, before number j, have bit C
abbrev pub HaveBitC : List Row → ℕ → ℕ → Type 0
HaveBitC rows i j = (k : ℕ) → i ≤ k → k < j → (get_or rows k no_row).cbit ≡ true

-- what is known where row `at` is read
pub record IsScan (rows : List Row) (at : ℕ) (a : Scan) : Type 0 where
  pub counted : a.counted ≡ counted_in (take at rows)
  pub near : a.near ≤ length rows
  pub within : a.marked ≤ length rows
  pub marked : HaveBitC rows at a.marked

-- the rows from number i on, before number j, are of types that head nothing, and if they are roots have bit C, as orphans
-- have, or none has
abbrev pub AreLeaves : Bool → Bool → List Row → ℕ → ℕ → Type 0
AreLeaves roots orphans rows i j =
    (k : ℕ) → i ≤ k → k < j → (is_header (class_of (get_or rows k no_row).kind) ≡ false) × (roots ≡ true → (get_or rows k no_row).cbit ≡ orphans)
