-- What is kept of the first elements where others, which nest apart from them, stand behind.
use Rattle.std.proofs.Common.{◌≡◌, ℕ, zero, suc, ◌+◌, ◌≤◌, ◌<◌, List, [], ◌∷◌, ◌++◌, length, take, drop, map, refl, sym, ap, ◌∙◌, subst, arith}
use Rattle.std.proofs.Common.{length-append, inl, inr}
use Rattle.std.specs.Prelude.{None, Option, slice_get, nat_lt}
use Rattle.std.specs.List.Sorted.{IsPartitionedBy}
use Rattle.std.specs.List.{AllByRecursion}
use Rattle.std.proofs.lemmas.List.{take_at, drop_at, take_all, take-map, take-append-drop, length-take}
use Rattle.std.proofs.lemmas.Bool.{cases_lt}
use Rattle.dgn_drawing.specs.declared.row.Row.{Row}
use Rattle.dgn_drawing.specs.Nesting.{Whole, nest, BeginsFree, itself}
use Rattle.dgn_drawing.specs.Numbering.{Mark, marks, is_broken, is_broken_as}
use Rattle.nest_tree.specs.NestEntries.{NestEntry}
use Rattle.nest_tree.specs.Depths.{IsWordTotal}
use Rattle.nest_tree.specs.Passing.{passing, broken_in, below}
use Rattle.nest_tree.specs.Places.{marks_in, entry_of, end_of_mark, ArePlaces, NestApart}
use Rattle.nest_tree.specs.Nested.{IsNest}
use Rattle.nest_tree.proofs.HeaderChains.{get_first}
use Rattle.nest_tree.proofs.ListStacks.{length-marks_in}
use Rattle.nest_tree.proofs.OpenLists.{length-ends}
use Rattle.nest_tree.proofs.BrokenList.{parted}
use Rattle.nest_tree.proofs.NumbersApart.{numbered_behind}
use Rattle.nest_tree.proofs.FirstEntries.{all_marks}
use Rattle.nest_tree.proofs.BrokenNumbers.{passing_same, below_first, below_all}

all_front : {A : Type 0} (P : A → Type 0) (n : ℕ) (l : List A) → AllByRecursion P l → AllByRecursion P (take n l)
all_front P zero l each = tt
all_front P (suc n) [] each = tt
all_front P (suc n) (x ∷ l) each = (each.0, all_front P n l each.1)

pub all_both : {A : Type 0} (P : A → Type 0) (xs ys : List A) → AllByRecursion P xs → AllByRecursion P ys → AllByRecursion P (xs ++ ys)
all_both P [] ys each more = more
all_both P (x ∷ xs) ys each more = (each.0, all_both P xs ys each.1 more)

broken_all : (rows : List Row) (n : ℕ) → length rows ≤ n → below n (broken_in rows) ≡ broken_in rows
unfolding broken_in
broken_all rows n past = below_all (is_broken itself rows) 0 (length rows) n (omega arith)

broken_parted : (rows : List Row) (n : ℕ) (list : List ℕ) → list ≡ broken_in rows → IsPartitionedBy (λ m. nat_lt m n) list
unfolding broken_in
broken_parted rows n list are = subst (IsPartitionedBy (λ m. nat_lt m n)) (sym are) (parted (is_broken itself rows) (length rows) n)

-- rows, and behind them others that nest apart
module _ (rows new : List Row) (some : 0 < length rows) (free : BeginsFree itself new) where
  pub marks_behind : NestApart rows new
  unfolding marks_in
  marks_behind = numbered_behind rows new some free

module _ (rows new : List Row) (apart : NestApart rows new) where
  pub marks_first : take (length rows) (marks_in (rows ++ new)) ≡ marks_in rows
  marks_first = ap (take (length rows)) apart
      ∙ take_at (marks_in rows) (marks (nest itself Whole new) (length rows) 0 None) (length rows) (length-marks_in rows)

  pub marks_last : drop (length rows) (marks_in (rows ++ new)) ≡ marks (nest itself Whole (drop (length rows) (rows ++ new))) (length rows) 0 None
  marks_last =
      ap (drop (length rows)) apart ∙ drop_at (marks_in rows) (marks (nest itself Whole new) (length rows) 0 None) (length rows) (length-marks_in rows)
      ∙ ap (λ (l : List Row). marks (nest itself Whole l) (length rows) 0 None) (sym (drop_at rows new (length rows) refl))

  -- the first elements are broken as they were
  broken_first : (k : ℕ) → 0 ≤ k → k < 0 + length rows → is_broken itself rows k ≡ is_broken itself (rows ++ new) k
  unfolding marks_in
  broken_first k from before =
      let inside : k < length rows = omega arith in
      let mark : slice_get (marks_in rows) k ≡ slice_get (marks_in (rows ++ new)) k =
      sym (ap (λ (l : List Mark). slice_get l k) apart
      ∙ get_first (marks_in rows) (marks (nest itself Whole new) (length rows) 0 None) k (omega (arith, length-marks_in rows))) in
      ap (λ (o : Option Mark). is_broken_as itself k o (slice_get rows k)) mark
      ∙ ap (is_broken_as itself k (slice_get (marks_in (rows ++ new)) k)) (sym (get_first rows new k inside))

  pub broken_begun : broken_in rows ≡ passing (is_broken itself (rows ++ new)) 0 (length rows)
  unfolding broken_in
  broken_begun = passing_same (is_broken itself rows) (is_broken itself (rows ++ new)) 0 (length rows) broken_first

  pub broken_left : below (length rows) (broken_in (rows ++ new)) ≡ broken_in rows
  unfolding broken_in
  broken_left =
      ap (λ (k : ℕ). below (length rows) (passing (is_broken itself (rows ++ new)) 0 k)) (length-append rows new)
      ∙ below_first (is_broken itself (rows ++ new)) 0 (length rows) (length new) (length rows) (omega arith)
      ∙ sym (passing_same (is_broken itself rows) (is_broken itself (rows ++ new)) 0 (length rows) broken_first)

-- what is kept of the rows is what is kept of the first of all
module _ (rows new all : List Row) (ends : List ℕ) (entries : List NestEntry) (broken : List ℕ) (kept : IsNest rows ends entries broken)
    (apart : NestApart rows new)
    (is : all ≡ rows ++ new) where
  pub length-grown : length all ≡ length rows + length new
  length-grown = ap (length {A = Row}) is ∙ length-append rows new

  pub length-kept_ends : length ends ≡ length rows
  length-kept_ends = length-ends rows (length rows) ends entries kept.places

  -- the new rows are those behind the kept places
  pub grown_new : new ≡ drop (length ends) all
  grown_new = sym (drop_at rows new (length ends) (sym length-kept_ends)) ∙ ap (drop (length ends)) (sym is)

  pub grown_words : AllByRecursion IsWordTotal new → AllByRecursion IsWordTotal all
  grown_words more = subst (AllByRecursion IsWordTotal) (sym is) (all_both IsWordTotal rows new kept.words more)

  grown_marks : take (length rows) (marks_in all) ≡ take (length rows) (marks_in rows)
  grown_marks = ap (λ (l : List Row). take (length rows) (marks_in l)) is ∙ marks_first rows new apart ∙ sym (all_marks rows)

  pub grown_places : ArePlaces all (length ends) ends entries
  grown_places =
      subst (λ (k : ℕ). ArePlaces all k ends entries) (sym length-kept_ends)
      record {
        within = omega (arith, length-grown);
        ends_are = kept.places.ends_are ∙ ap (map end_of_mark) (sym grown_marks);
        entries_are = kept.places.entries_are ∙ ap (map entry_of) (sym grown_marks);
      }

  pub grown_apart : drop (length ends) (marks_in all) ≡ marks (nest itself Whole (drop (length ends) all)) (length ends) 0 None
  grown_apart =
      subst (λ (k : ℕ). drop k (marks_in all) ≡ marks (nest itself Whole (drop k all)) k 0 None) (sym length-kept_ends)
      (subst (λ (l : List Row). drop (length rows) (marks_in l) ≡ marks (nest itself Whole (drop (length rows) l)) (length rows) 0 None) (sym is)
      (marks_last rows new apart))

  pub grown_broken : (first : ℕ) → first ≡ length ends → broken ≡ passing (is_broken itself all) 0 first
  grown_broken first at =
      kept.are_broken ∙ broken_begun rows new apart ∙ ap (λ (l : List Row). passing (is_broken itself l) 0 (length rows)) (sym is)
      ∙ ap (passing (is_broken itself all) 0) (sym (at ∙ length-kept_ends))

-- the first ones of all are left
module _ (all : List Row) (ends : List ℕ) (entries : List NestEntry) (broken : List ℕ) (kept : IsNest all ends entries broken) (count : ℕ) (some : 1 ≤ count)
    (free : BeginsFree itself (drop count all)) where
  left_some : 0 < length (take count all)
  left_some = let all_some = kept.some in omega (arith, length-take count all)

  left_apart : NestApart (take count all) (drop count all)
  left_apart = marks_behind (take count all) (drop count all) left_some free

  joined_again : take count all ++ drop count all ≡ all
  joined_again = take-append-drop count all

  left_marks : take count (marks_in all) ≡ marks_in (take count all)
  left_marks = elim (cases_lt count (length all)) [
    | inl less ↦
        let few : count ≡ length (take count all) = omega (arith, length-take count all) in
        ap (λ (l : List Row). take count (marks_in l)) (sym joined_again) ∙ ap (λ (k : ℕ). take k (marks_in (take count all ++ drop count all))) few
        ∙ marks_first (take count all) (drop count all) left_apart
    | inr past ↦ take_all count (marks_in all) (omega (arith, length-marks_in all)) ∙ ap marks_in (sym (take_all count all past))
  ]

  -- the first ones of what is kept of each
  left_of : {A : Type 0} (f : Mark → A) (l : List A) → l ≡ map f (take (length all) (marks_in all))
      → take count l ≡ map f (take (length (take count all)) (marks_in (take count all)))
  left_of f l are =
      ap (take count) (are ∙ ap (map f) (all_marks all)) ∙ take-map f count (marks_in all) ∙ ap (map f) (left_marks ∙ sym (all_marks (take count all)))

  left_broken : below count broken ≡ broken_in (take count all)
  left_broken = elim (cases_lt count (length all)) [
    | inl less ↦
        let few : count ≡ length (take count all) = omega (arith, length-take count all) in
        ap (below count) (kept.are_broken ∙ ap broken_in (sym joined_again)) ∙ ap (λ (k : ℕ). below k (broken_in (take count all ++ drop count all))) few
        ∙ broken_left (take count all) (drop count all) left_apart
    | inr past ↦ ap (below count) kept.are_broken ∙ broken_all all count past ∙ ap broken_in (sym (take_all count all past))
  ]

  pub left : IsNest (take count all) (take count ends) (take count entries) (below count broken)
  left =
      let few = kept.few in
      record {
        some = left_some;
        few = omega (arith, length-take count all);
        words = all_front IsWordTotal count all kept.words;
        places = record {
          within = omega arith;
          ends_are = left_of end_of_mark ends kept.places.ends_are;
          entries_are = left_of entry_of entries kept.places.entries_are;
        };
        are_broken = left_broken;
      }

  pub kept_parted : IsPartitionedBy (λ m. nat_lt m count) broken
  kept_parted = broken_parted all count broken kept.are_broken
