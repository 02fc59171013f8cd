-- The places where rows begin: how far apart they are, and how they are found one behind the other.
use Rattle.std.proofs.Common.{◌≡◌, ℕ, zero, suc, ◌+◌, ◌-◌, ◌*◌, ◌≤◌, ◌<◌, List, [], ◌∷◌, ◌++◌, length, take, drop, get_or, refl, sym, ap, ◌∙◌, subst, arith}
use Rattle.std.specs.List.{AllByRecursion}
use Rattle.std.specs.Prelude.{nat_lt, true, false}
use Rattle.std.specs.List.Sorted.{IsPartitionedBy}
use Rattle.std.proofs.lemmas.List.{length-take, length-drop, get_or-take, get_or-drop, get_or_default, take_all, take_more}
use Rattle.std.proofs.lemmas.List.Sorted.{IsPartitionedBy-ltb}
use Rattle.std.proofs.lemmas.Bool.{ltb-true, ltb-false}
use Rattle.dgn_drawing.specs.declared.row.Row.{Row}
use Rattle.dgn_drawing.specs.Nesting.{bytes_of, itself}
use Rattle.nest_tree.specs.Shapes.{IsRow}
use Rattle.nest_tree.specs.Sources.{places_from, Rises}

pub length-places : (p : ℕ) (l : List Row) → length (places_from p l) ≡ length l + 1
unfolding places_from
length-places p [] = refl
length-places p (r ∷ l) = omega (arith, length-places (p + r.size) l)

-- a place is as far behind the first one as the rows between have bytes
pub place_at : (p : ℕ) (l : List Row) (i : ℕ) → i ≤ length l → get_or (places_from p l) i 0 ≡ p + bytes_of itself (take i l)
unfolding places_from
place_at p [] zero within = omega arith
place_at p [] (suc i) within = absurd (omega arith)
place_at p (r ∷ l) zero within = omega arith
place_at p (r ∷ l) (suc i) within = omega (arith, place_at (p + r.size) l i (omega arith))

none : (j : ℕ) → 0 ≡ 0 + bytes_of itself (take j [])
none zero = refl
none (suc j) = refl

pub bytes-split : (i j : ℕ) (l : List Row) → bytes_of itself (take (i + j) l) ≡ bytes_of itself (take i l) + bytes_of itself (take j (drop i l))
bytes-split zero j l = let e : 0 + j ≡ j = omega arith in ap (λ (k : ℕ). bytes_of itself (take k l)) e ∙ omega arith
bytes-split (suc i) j [] = let e : suc i + j ≡ suc (i + j) = omega arith in ap (λ (k : ℕ). bytes_of itself (take k [])) e ∙ none j
bytes-split (suc i) j (r ∷ l) =
    let e : suc i + j ≡ suc (i + j) = omega arith in
    ap (λ (k : ℕ). bytes_of itself (take k (r ∷ l))) e ∙ omega (arith, bytes-split i j l)

-- two places are as far from each other as the rows between them have bytes
pub places_apart : (p : ℕ) (l : List Row) (i j : ℕ) → i + j ≤ length l
    → get_or (places_from p l) (i + j) 0 ≡ get_or (places_from p l) i 0 + bytes_of itself (take j (drop i l))
places_apart p l i j within = omega (arith, place_at p l (i + j) within, place_at p l i (omega arith), bytes-split i j l)

-- each row of an element has four bytes at the least
pub four_bytes : (j : ℕ) (l : List Row) → AllByRecursion IsRow l → j ≤ length l → 4 * j ≤ bytes_of itself (take j l)
four_bytes zero l each within = omega arith
four_bytes (suc j) [] each within = absurd (omega arith)
four_bytes (suc j) (r ∷ l) each within = let large = each.0.large in omega (arith, four_bytes j l each.1 (omega arith))

pub places_rise : (p : ℕ) (l : List Row) → Rises (places_from p l)
places_rise p l i j ordered within =
    let long = length-places p l in
    let e : i + (j - i) ≡ j = omega arith in
    let apart = places_apart p l i (j - i) (omega arith) in
    let same = ap (λ (k : ℕ). get_or (places_from p l) k 0) e in
    omega arith

bytes-within : (i : ℕ) (l : List Row) → bytes_of itself (take i l) ≤ bytes_of itself l
bytes-within zero l = omega arith
bytes-within (suc i) [] = omega arith
bytes-within (suc i) (r ∷ l) = omega (arith, bytes-within i l)

pub place_light : (rows : List Row) (sums : List ℕ) (i : ℕ) → sums ≡ places_from 0 rows → bytes_of itself rows ≤ 4294967295 * length rows
    → length rows ≤ 4294967295 → i ≤ length rows → get_or sums i 0 ≤ 4294967295 * 4294967295
place_light rows sums i are light few within =
    omega (arith, ap (λ (l : List ℕ). get_or l i 0) are, place_at 0 rows i within, bytes-within i rows)

all_push : {A : Type 0} (P : A → Type 0) (xs : List A) (y : A) → AllByRecursion P xs → P y → AllByRecursion P (xs ++ y ∷ [])
all_push P [] y each here = (here, tt)
all_push P (x ∷ xs) y each here = (each.0, all_push P xs y each.1 here)

-- what holds of the rows before row i and of row i
pub all_more : (P : Row → Type 0) (rows : List Row) (i : ℕ) (d : Row) → i < length rows → AllByRecursion P (take i rows) → P (get_or rows i d)
    → AllByRecursion P (take (i + 1) rows)
all_more P rows i d within each here = subst (AllByRecursion P) (sym (take_more rows i d within)) (all_push P (take i rows) (get_or rows i d) each here)

pub all_rows : (P : Row → Type 0) (rows : List Row) (i : ℕ) → length rows ≤ i → AllByRecursion P (take i rows) → AllByRecursion P rows
all_rows P rows i past each = subst (AllByRecursion P) (take_all i rows past) each

-- the sums as far as row i, and how many bytes the rows before it have
pub record Summed (rows : List Row) (sums : List ℕ) (sum i : ℕ) : Type 0 where
  pub are : sums ≡ take (i + 1) (places_from 0 rows)
  pub sum_is : sum ≡ bytes_of itself (take i rows)
  pub light : sum ≤ 4294967295 * i
  pub within : i ≤ length rows

bytes-more : (rows : List Row) (i : ℕ) (d : Row) → i < length rows → bytes_of itself (take (i + 1) rows) ≡ bytes_of itself (take i rows) +
    (get_or rows i d).size
bytes-more [] i d within = absurd (omega arith)
bytes-more (r ∷ rows) zero d within = omega arith
bytes-more (r ∷ rows) (suc i) d within =
    let e : suc i + 1 ≡ suc (i + 1) = omega arith in
    ap (λ (k : ℕ). bytes_of itself (take k (r ∷ rows))) e ∙ omega (arith, bytes-more rows i d (omega arith))

-- before the first row they are one sum
first_sum : (rows : List Row) → 0 ∷ [] ≡ take 1 (places_from 0 rows)
unfolding places_from
first_sum [] = refl
first_sum (r ∷ rows) = refl

pub summed_first : (rows : List Row) (none one : List ℕ) → none ≡ [] → one ≡ none ++ 0 ∷ [] → Summed rows one 0 0
summed_first rows none one empty is = record {
  are = is ∙ ap (λ (l : List ℕ). l ++ 0 ∷ []) empty ∙ first_sum rows;
  sum_is = refl;
  light = omega arith;
  within = omega arith;
}

pub summed_more : (rows : List Row) (sums : List ℕ) (sum i w : ℕ) (d : Row) → Summed rows sums sum i → i < length rows → w ≡ (get_or rows i d).size
    → w ≤ 4294967295
    → Summed rows (sums ++ (sum + w) ∷ []) (sum + w) (i + 1)
summed_more rows sums sum i w d s within is small =
    let long = length-places 0 rows in
    let light = s.light in
    let now : sum + w ≡ bytes_of itself (take (i + 1) rows) = omega (arith, s.sum_is, bytes-more rows i d within) in
    let there : get_or (places_from 0 rows) (i + 1) 0 ≡ sum + w = place_at 0 rows (i + 1) (omega arith) ∙ omega arith in
    record {
      are = ap (λ (l : List ℕ). l ++ (sum + w) ∷ []) s.are ∙ ap (λ (k : ℕ). take (i + 1) (places_from 0 rows) ++ k ∷ []) (sym there)
          ∙ sym (take_more (places_from 0 rows) (i + 1) 0 (omega arith));
      sum_is = now;
      light = omega arith;
      within = omega arith;
    }

pub summed_all : (rows : List Row) (sums : List ℕ) (sum i : ℕ) → Summed rows sums sum i → length rows ≤ i → sums ≡ places_from 0 rows
summed_all rows sums sum i s past = s.are ∙ take_all (i + 1) (places_from 0 rows) (omega (arith, length-places 0 rows))

-- those of a list that rises from one number on, before another one
module _ (l : List ℕ) (first last wanted : ℕ) (known : last ≤ length l) (list : List ℕ) (is : list ≡ take (last - first) (drop first l)) where
  pub length-window : length list ≡ last - first
  length-window = ap (length {A = ℕ}) is ∙ omega (arith, length-take (last - first) (drop first l), length-drop first l)

  in_window : (k : ℕ) → k < last - first → get_or list k 0 ≡ get_or l (first + k) 0
  in_window k inside = ap (λ (x : List ℕ). get_or x k 0) is ∙ get_or-take (last - first) (drop first l) k 0 inside ∙ get_or-drop first l k 0

  pub window_before : (n : ℕ) → n ≤ length list → ((k : ℕ) → k < n → nat_lt (get_or list k 0) wanted ≡ true) → (k : ℕ) → k < n → get_or l (first + k) 0 < wanted
  window_before n within low k early =
      let long = length-window in
      omega (arith, in_window k (omega arith), ltb-true (get_or list k 0) wanted (low k early))

  pub window_from : (n : ℕ) → ((k : ℕ) → n ≤ k → k < length list → nat_lt (get_or list k 0) wanted ≡ false) → first + n < last → wanted ≤ get_or l (first + n) 0
  window_from n high inside =
      let long = length-window in
      omega (arith, in_window n (omega arith), ltb-false (get_or list n 0) wanted (high n (omega arith) (omega arith)))

pub window_parted : (l : List ℕ) (first last wanted : ℕ) → Rises l → last ≤ length l → (list : List ℕ) → list ≡ take (last - first) (drop first l)
    → IsPartitionedBy (λ m. nat_lt m wanted) list
window_parted l first last wanted rise known list is =
    let long = length-window l first last wanted known list is in
    IsPartitionedBy-ltb (λ (m : ℕ). m) list wanted (λ i j d up inside. omega (
      arith,
      rise (first + i) (first + j) (omega arith) (omega arith),
      in_window l first last wanted known list is i (omega arith),
      in_window l first last wanted known list is j (omega arith),
      get_or_default list i d 0 (omega arith),
      get_or_default list j d 0 inside,
    ))
