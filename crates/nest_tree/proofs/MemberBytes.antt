-- A number of rows are the members of a header exactly where they have bit C and end at the place that its total says.
use Rattle.std.proofs.Common.{◌≡◌, ℕ, zero, suc, ◌+◌, ◌-◌, ◌*◌, ◌≤◌, ◌<◌, List, [], ◌∷◌, length, take, drop, get_or}
use Rattle.std.proofs.Common.{refl, sym, ap, ◌∙◌, arith, true, false, inl, inr}
use Rattle.std.specs.Prelude.{Option, Some, None, IsTrue}
use Rattle.std.specs.List.{AllByRecursion}
use Rattle.std.proofs.lemmas.List.{get_or-take, get_or-drop, length-take, length-drop, take-take, drop_more}
use Rattle.std.proofs.lemmas.Bool.{cases_lt}
use Rattle.dgn_drawing.specs.declared.row.Row.{Row}
use Rattle.dgn_drawing.specs.Nesting.{bytes_of, member_count, itself, AreMembers}
use Rattle.nest_tree.specs.Shapes.{IsRow, IsBetween, rows_between, members_in}
use Rattle.nest_tree.specs.Sources.{no_row, places_from, HaveBitC}
use Rattle.nest_tree.proofs.MemberCounts.{HasBytes, members_are}
use Rattle.nest_tree.proofs.RowPlaces.{places_apart}

-- the first of the rows between two numbers, and those behind it
pub between_cons : (rows : List Row) (at end : ℕ) (d : Row) → at < end → at < length rows
    → take (end - at) (drop at rows) ≡ get_or rows at d ∷ take (end - at - 1) (drop (at + 1) rows)
between_cons rows at end d some within =
    let e : end - at ≡ suc (end - at - 1) = omega arith in
    ap (λ (k : ℕ). take k (drop at rows)) e ∙ ap (λ (x : List Row). take (suc (end - at - 1)) x) (drop_more rows at d within)

-- the rows behind the first one
abbrev pub rows_behind : List Row → ℕ → ℕ → List Row
rows_behind rows at end = take (end - at - 1) (drop (at + 1) rows)

pub all_take : {A : Type 0} (P : A → Type 0) (n : ℕ) (l : List A) → AllByRecursion P l → AllByRecursion P (take n l)
all_take P zero l each = tt
all_take P (suc n) [] each = tt
all_take P (suc n) (x ∷ l) each = (each.0, all_take P n l each.1)

pub all_drop : {A : Type 0} (P : A → Type 0) (n : ℕ) (l : List A) → AllByRecursion P l → AllByRecursion P (drop n l)
all_drop P zero l each = each
all_drop P (suc n) [] each = tt
all_drop P (suc n) (x ∷ l) each = all_drop P n l each.1

have_bytes : (l : List Row) → AllByRecursion IsRow l → HasBytes itself l
have_bytes [] each = tt
have_bytes (r ∷ l) each = (let large = each.0.large in omega arith, have_bytes l each.1)

-- some rows from the front on have bit C where each of them has it
abbrev HaveC : List Row → Type 0
HaveC l = AllByRecursion (λ (r : Row). IsTrue r.cbit) l

all_marked : (l : List Row) (k : ℕ) → k ≤ length l → ((i : ℕ) → i < k → (get_or l i no_row).cbit ≡ true) → HaveC (take k l)
all_marked l zero within each = tt
all_marked [] (suc k) within each = absurd (omega arith)
all_marked (r ∷ l) (suc k) within each = (each 0 (omega arith), all_marked l k (omega arith) (λ i inside. each (suc i) (omega arith)))

each_marked : (l : List Row) (k i : ℕ) → HaveC (take k l) → i < k → i < length l → (get_or l i no_row).cbit ≡ true
each_marked l zero i each inside within = absurd (omega arith)
each_marked [] (suc k) i each inside within = absurd (omega arith)
each_marked (r ∷ l) (suc k) zero each inside within = each.0
each_marked (r ∷ l) (suc k) (suc i) each inside within = each_marked l k i each.1 (omega arith) (omega arith)

no_count : (found : Option ℕ) → ((k : ℕ) → found ≡ Some k → ⊥) → None ≡ found
no_count None never = refl
no_count (Some k) never = absurd (never k refl)

-- row `at` and its members among the rows before row `end`, where those behind it have bit C up to row `free`
module _ (rows : List Row) (at end : ℕ) (between : IsBetween rows at end) (each : AllByRecursion IsRow rows) (p : ℕ) (places : List ℕ)
    (are : places ≡ places_from p rows) where
  abbrev header : Row
  header = get_or rows at no_row

  abbrev rest : List Row
  rest = rows_behind rows at end

  first : rows_between rows at end ≡ header ∷ rest
  first = let some = between.some in let bounds = between.bounds in between_cons rows at end no_row some (omega arith)

  counted : member_count itself header rest ≡ members_in (rows_between rows at end)
  counted = sym (ap members_in first)

  rest_bytes : HasBytes itself rest
  rest_bytes = have_bytes rest (all_take IsRow (end - at - 1) (drop (at + 1) rows) (all_drop IsRow (at + 1) rows each))

  length-rest : length rest ≡ end - at - 1
  length-rest =
      let some = between.some in
      let bounds = between.bounds in
      omega (arith, length-take (end - at - 1) (drop (at + 1) rows), length-drop (at + 1) rows)

  front : (k : ℕ) → k ≤ end - at - 1 → take k rest ≡ take k (drop (at + 1) rows)
  front k few = take-take k (end - at - 1) (drop (at + 1) rows) few

  row_behind : (i : ℕ) → i < end - at - 1 → get_or rest i no_row ≡ get_or rows (at + 1 + i) no_row
  row_behind i inside = get_or-take (end - at - 1) (drop (at + 1) rows) i no_row inside ∙ get_or-drop (at + 1) rows i no_row

  -- a place behind the header is as far from its own as it and the rows between have bytes
  distance : (k : ℕ) → at + 1 + k ≤ end → get_or places (at + 1 + k) 0 ≡ get_or places at 0 + (header.size + bytes_of itself (take k rest))
  distance k inside =
      let bounds = between.bounds in
      let e : at + 1 + k ≡ at + suc k = omega arith in
      ap (λ (l : List ℕ). get_or l (at + 1 + k) 0) are ∙ ap (λ (n : ℕ). get_or (places_from p rows) n 0) e
      ∙ places_apart p rows at (suc k) (omega arith)
      ∙ ap (λ (l : List Row). get_or (places_from p rows) at 0 + bytes_of itself (take (suc k) l)) (drop_more rows at no_row (omega arith))
      ∙ ap (λ (l : List Row). get_or (places_from p rows) at 0 + (header.size + bytes_of itself l)) (sym (front k (omega arith)))
      ∙ ap (λ (l : List ℕ). get_or l at 0 + (header.size + bytes_of itself (take k rest))) (sym are)

  module _ (total wanted : ℕ) (total_is : total ≡ header.total) (wanted_is : wanted ≡ get_or places at 0 + (38 + 2 * total)) (free : ℕ)
      (marked : HaveBitC rows (at + 1) free) where
    -- what ends at the wanted place are members
    pub members_found : (k : ℕ) → at + 1 + k ≤ free → at + 1 + k ≤ end → get_or places (at + 1 + k) 0 ≡ wanted → Some k ≡ members_in (rows_between rows at end)
    members_found k inside before here =
        let few : k ≤ end - at - 1 = omega arith in
        let far = distance k before in
        let long = length-rest in
        let members : AreMembers itself header rest k = record {
          within = omega arith;
          marked = all_marked rest k (omega arith) (λ i low. ap (λ (r : Row). r.cbit) (row_behind i (omega arith)) ∙ marked (at + 1 + i)
              (omega arith) (omega arith));
          bytes = omega (arith, total_is);
        } in
        sym ((members_are itself header rest k rest_bytes).1 members) ∙ counted

    -- no member stands behind a row without bit C
    past_free : (k : ℕ) → at + 1 ≤ free → k ≤ length rest → HaveC (take k rest) → (free < length rows → (get_or rows free no_row).cbit ≡
        false) → free < at + 1 + k
        → at + 1 + k ≤ end → ⊥
    past_free k behind few each_bit stops past low =
        let long = length-rest in
        let bounds = between.bounds in
        let place : at + 1 + (free - (at + 1)) ≡ free = omega arith in
        let bit : (get_or rest (free - (at + 1)) no_row).cbit ≡ true = each_marked rest k (free - (at + 1)) each_bit (omega arith) (omega arith) in
        let same = ap (λ (r : Row). r.cbit) (row_behind (free - (at + 1)) (omega arith)) ∙ ap (λ (n : ℕ). (get_or rows n no_row).cbit) place in
        let clash : true ≡ false = sym bit ∙ same ∙ stops (omega arith) in
        cc

    -- where nothing ends there it has none
    pub none_found : at + 1 ≤ free → (free < length rows → (get_or rows free no_row).cbit ≡ false)
        → ((k : ℕ) → at + 1 + k ≤ free → at + 1 + k ≤ end → get_or places (at + 1 + k) 0 ≡ wanted → ⊥)
        → None ≡ members_in (rows_between rows at end)
    none_found behind stops never = no_count (member_count itself header rest) (λ k is.
        let members = (members_are itself header rest k rest_bytes).0 is in
        let long = length-rest in
        let few = members.within in
        let some = between.some in
        let bounds = between.bounds in
        let bytes = members.bytes in
        let low : at + 1 + k ≤ end = omega arith in
        let far = distance k low in
        elim (cases_lt free (at + 1 + k)) [
          | inl past ↦ absurd (past_free k behind few members.marked stops past low)
          | inr inside ↦ never k inside low (omega (arith, total_is))
        ]) ∙ counted
