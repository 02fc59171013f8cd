-- What a source says of the rows that it gives.
use Rattle.std.proofs.Common.{◌≡◌, ℕ, ◌+◌, ◌-◌, ◌*◌, ◌≤◌, ◌<◌, List, [], ◌∷◌, ◌++◌, length, drop, get_or, sym, ap, ◌∙◌, subst, arith, Bor}
use Rattle.std.specs.List.{AllByRecursion}
use Rattle.std.proofs.lemmas.List.{length-append, length-drop, get_or_append_left}
use Rattle.dgn_drawing.specs.declared.row.Row.{Row}
use Rattle.nest_tree.specs.declared.source.Source.{Source}
use Rattle.nest_tree.specs.Shapes.{IsRow}
use Rattle.nest_tree.specs.Kept.{next_place, AreKept}
use Rattle.nest_tree.specs.Sources.{places_from, rows_of, places_of, place_in, AreListed, IsSource, Rises}
use Rattle.nest_tree.proofs.RowPlaces.{length-places, places_rise, places_apart, four_bytes}
use Rattle.nest_tree.proofs.MemberBytes.{all_drop}
use Rattle.nest_tree.proofs.KeptRows.{length-kept, places_kept}

pub as_listed : (s : Source) (rows : Bor (List Row)) (sums : Bor (List ℕ)) → s ≡ Source.Listed rows sums → IsSource s → AreListed rows.now sums.now
as_listed s rows sums is source = subst IsSource is source

pub as_kept : (s : Source) (places kinds totals : Bor (List ℕ)) (end : ℕ) → s ≡ Source.Kept places kinds totals end → IsSource s
    → AreKept places.now kinds.now totals.now end
as_kept s places kinds totals end is source = subst IsSource is source

pub few_rows : (s : Source) → IsSource s → length (rows_of s) < 4294967295
few_rows (Source.Listed rows sums) is = is.few
few_rows (Source.Kept places kinds totals end) is =
    let few = is.few in omega (arith, length-kept places.now kinds.now totals.now end is.each)

-- how many rows there are where they are kept
pub kept_length : (s : Source) (places kinds totals : Bor (List ℕ)) (end : ℕ) → s ≡ Source.Kept places kinds totals end → IsSource s
    → length places.now ≡ length (rows_of s)
kept_length s places kinds totals end is source =
    sym (ap (λ (x : Source). length (rows_of x)) is ∙ length-kept places.now kinds.now totals.now end (as_kept s places kinds totals end is source).each)

-- and each has a byte
pub kept_inside : (s : Source) (places kinds totals : Bor (List ℕ)) (end i : ℕ) → s ≡ Source.Kept places kinds totals end → IsSource s
    → i < length (rows_of s) → (i < length places.now) × (i < length kinds.now)
kept_inside s places kinds totals end i is source known =
    let long = kept_length s places kinds totals end is source in
    let each = (as_kept s places kinds totals end is source).each in
    (omega arith, omega arith)

-- the place of the first row
abbrev pub first_of : Source → ℕ
first_of (Source.Listed rows sums) = 0
first_of (Source.Kept places kinds totals end) = next_place places.now end

pub each_row_of : (s : Source) → IsSource s → AllByRecursion IsRow (rows_of s)
each_row_of (Source.Listed rows sums) is = is.each
each_row_of (Source.Kept places kinds totals end) is = is.rows

pub places_are : (s : Source) → IsSource s → places_of s ≡ places_from (first_of s) (rows_of s)
places_are (Source.Listed rows sums) is = is.are_sums
places_are (Source.Kept places kinds totals end) is = places_kept places.now kinds.now totals.now end is.each is.rows

pub length-places_of : (s : Source) → IsSource s → length (places_of s) ≡ length (rows_of s) + 1
length-places_of s is = ap (length {A = ℕ}) (places_are s is) ∙ length-places (first_of s) (rows_of s)

pub source_rises : (s : Source) → IsSource s → Rises (places_of s)
source_rises s is = subst Rises (sym (places_are s is)) (places_rise (first_of s) (rows_of s))

pub listed_length : (s : Source) (rows : Bor (List Row)) (sums : Bor (List ℕ)) → s ≡ Source.Listed rows sums → IsSource s
    → length sums.now ≡ length (rows_of s) + 1
listed_length s rows sums is source = ap (λ (x : Source). length (places_of x)) (sym is) ∙ length-places_of s source

pub listed_rises : (s : Source) (rows : Bor (List Row)) (sums : Bor (List ℕ)) → s ≡ Source.Listed rows sums → IsSource s → Rises sums.now
listed_rises s rows sums is source = subst (λ (x : Source). Rises (places_of x)) is (source_rises s source)

pub kept_rises : (s : Source) (places kinds totals : Bor (List ℕ)) (end : ℕ) → s ≡ Source.Kept places kinds totals end → IsSource s → Rises places.now
kept_rises s places kinds totals end is source i j ordered within =
    let all : Rises (places.now ++ end ∷ []) = subst (λ (x : Source). Rises (places_of x)) is (source_rises s source) in
    omega (
      arith,
      all i j ordered (omega (arith, length-append places.now (end ∷ []))),
      get_or_append_left places.now (end ∷ []) 0 i (omega arith),
      get_or_append_left places.now (end ∷ []) 0 j within,
    )

-- each row has four bytes at the least
pub places_far : (s : Source) → IsSource s → (i j : ℕ) → i + j ≤ length (rows_of s) → place_in s i + 4 * j ≤ place_in s (i + j)
places_far s is i j within =
    let apart = places_apart (first_of s) (rows_of s) i j within in
    let many = four_bytes j (drop i (rows_of s)) (all_drop IsRow i (rows_of s) (each_row_of s is)) (omega (arith, length-drop i (rows_of s))) in
    omega (arith, ap (λ (l : List ℕ). get_or l i 0) (places_are s is), ap (λ (l : List ℕ). get_or l (i + j) 0) (places_are s is))

-- so no two places are the same
pub places_strict : (s : Source) → IsSource s → (i j : ℕ) → i < j → j ≤ length (rows_of s) → place_in s i < place_in s j
places_strict s is i j before within =
    let e : i + (j - i) ≡ j = omega arith in
    omega (arith, places_far s is i (j - i) (omega arith), ap (place_in s) e)
