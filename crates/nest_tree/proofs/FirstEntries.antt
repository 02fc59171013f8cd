-- What is kept of the first element, behind which reading goes on; and what is kept of all.
use Rattle.std.proofs.Common.{◌≡◌, ℕ, ◌<◌, List, [], ◌∷◌, ◌++◌, length, take, drop, map, refl, sym, ap, ◌∙◌, subst, arith}
use Rattle.std.specs.Prelude.{None, slice_get, option_map}
use Rattle.std.proofs.lemmas.List.{take_all}
use Rattle.std.proofs.lemmas.Option.{slice_get-map}
use Rattle.dgn_drawing.specs.declared.row.Row.{Row}
use Rattle.dgn_drawing.specs.Nesting.{Whole, itself, nest}
use Rattle.dgn_drawing.specs.Numbering.{Mark, marks, is_broken}
use Rattle.nest_tree.specs.NestEntries.{NestEntry, plain_entry}
use Rattle.nest_tree.specs.Passing.{passing}
use Rattle.nest_tree.specs.Read.{AreRead}
use Rattle.nest_tree.specs.Nested.{IsNest}
use Rattle.nest_tree.specs.Places.{marks_in, entry_of, ArePlaces}
use Rattle.nest_tree.proofs.ListStacks.{length-marks_in}

first_place : (rows : List Row) → 0 < length rows → ArePlaces rows 1 (1 ∷ []) (plain_entry ∷ [])
unfolding marks_in
first_place [] some = absurd (omega arith)
first_place (r ∷ rows) some = record { within = omega arith; ends_are = refl; entries_are = refl }

one_of : {A : Type 0} (old new : List A) (x : A) → old ≡ [] → new ≡ old ++ x ∷ [] → new ≡ x ∷ []
one_of {A} old new x none is = is ∙ ap (λ (l : List A). l ++ x ∷ []) none

first_sound : (rows : List Row) → 0 < length rows → [] ≡ passing (is_broken itself rows) 0 1
unfolding marks_in
first_sound [] some = absurd (omega arith)
first_sound (r ∷ rows) some = refl

-- so what is kept of the first element is read
pub first_read : (rows : List Row) (ends ends_new : List ℕ) (entries entries_new : List NestEntry) (broken : List ℕ) → 0 < length rows
    → ends ≡ [] → ends_new ≡ ends ++ 1 ∷ [] → entries ≡ [] → entries_new ≡ entries ++ plain_entry ∷ [] → broken ≡ []
    → AreRead rows (length ends_new) ends_new entries_new broken
first_read rows ends ends_new entries entries_new broken some no_ends ends_is no_entries entries_is no_broken =
    let e = one_of ends ends_new 1 no_ends ends_is in
    let l = one_of entries entries_new plain_entry no_entries entries_is in
    subst (λ (x : List ℕ). AreRead rows (length x) x entries_new broken) (sym e)
    (subst (λ (y : List NestEntry). AreRead rows 1 (1 ∷ []) y broken) (sym l)
    (subst (λ (z : List ℕ). AreRead rows 1 (1 ∷ []) (plain_entry ∷ []) z) (sym no_broken)
    (record { places = first_place rows some; are_broken = first_sound rows some })))

marks_behind_first : (rows : List Row) → 0 < length rows → drop 1 (marks_in rows) ≡ marks (nest itself Whole (drop 1 rows)) 1 0 None
unfolding marks_in
marks_behind_first [] some = absurd (omega arith)
marks_behind_first (r ∷ rows) some = refl

-- and all behind it nest apart from it
pub first_apart : (rows : List Row) (ends ends_new : List ℕ) → 0 < length rows → ends ≡ [] → ends_new ≡ ends ++ 1 ∷ []
    → drop (length ends_new) (marks_in rows) ≡ marks (nest itself Whole (drop (length ends_new) rows)) (length ends_new) 0 None
first_apart rows ends ends_new some no_ends ends_is =
    subst (λ (x : List ℕ). drop (length x) (marks_in rows) ≡ marks (nest itself Whole (drop (length x) rows)) (length x) 0 None)
    (sym (one_of ends ends_new 1 no_ends ends_is)) (marks_behind_first rows some)

-- the marks of as many elements as there are are the marks of all
pub all_marks : (rows : List Row) → take (length rows) (marks_in rows) ≡ marks_in rows
all_marks rows = take_all (length rows) (marks_in rows) (omega (arith, length-marks_in rows))

-- the entries of all elements
pub all_entries : (rows : List Row) (ends : List ℕ) (entries : List NestEntry) → ArePlaces rows (length rows) ends entries → entries
    ≡ map entry_of (marks_in rows)
all_entries rows ends entries places = places.entries_are ∙ ap (map entry_of) (all_marks rows)

-- what is kept of all elements
module _ (rows : List Row) (ends : List ℕ) (entries : List NestEntry) (broken : List ℕ) (kept : IsNest rows ends entries broken) where
  pub ends_kept : (n : ℕ) → slice_get ends n ≡ option_map (λ (m : Mark). m.end) (slice_get (marks_in rows) n)
  ends_kept n =
      ap (λ (l : List ℕ). slice_get l n) (kept.places.ends_are ∙ ap (map (λ (m : Mark). m.end)) (all_marks rows))
      ∙ slice_get-map (λ (m : Mark). m.end) (marks_in rows) n

  pub entries_kept : (n : ℕ) → slice_get entries n ≡ option_map entry_of (slice_get (marks_in rows) n)
  entries_kept n =
      ap (λ (l : List NestEntry). slice_get l n) (all_entries rows ends entries kept.places) ∙ slice_get-map entry_of (marks_in rows) n
