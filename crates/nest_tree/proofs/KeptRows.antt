-- The rows of elements by what is kept of each.
use Rattle.std.proofs.Common.{◌≡◌, ℕ, zero, suc, ◌+◌, ◌-◌, ◌%◌, ◌≤◌, ◌<◌, List, [], ◌∷◌, ◌++◌, length, take, drop, get_or, refl, ap, ◌∙◌, arith}
use Rattle.std.proofs.Common.{true, false, Bool, cond}
use Rattle.std.specs.Prelude.{leb}
use Rattle.std.specs.List.{AllByRecursion}
use Rattle.std.proofs.lemmas.List.{get_or-drop}
use Rattle.std.proofs.lemmas.Bool.{cond-true}
use Rattle.dgn_layout.specs.Classes.{class_of}
use Rattle.dgn_drawing.specs.declared.row.Row.{Row}
use Rattle.dgn_drawing.specs.Nesting.{is_counted}
use Rattle.nest_tree.specs.Depths.{IsWordTotal}
use Rattle.nest_tree.specs.Shapes.{IsRow}
use Rattle.nest_tree.specs.Kept.{next_place, counts, kept_rows, counted_in}
use Rattle.nest_tree.specs.Sources.{no_row, places_from}

-- the totals that the first element leaves
abbrev pub totals_behind : ℕ → List ℕ → List ℕ
totals_behind k ts = cond (counts k) (drop 1 ts) ts

pub length-kept : (ps ks ts : List ℕ) (end : ℕ) → length ks ≡ length ps → length (kept_rows ps ks ts end) ≡ length ps
length-kept [] ks ts end same = refl
length-kept (p ∷ ps) [] ts end same = same
length-kept (p ∷ ps) (k ∷ ks) ts end same = omega (arith, length-kept ps ks (totals_behind k ts) end (omega arith))

pub kind_kept : (ps ks ts : List ℕ) (end i : ℕ) → length ks ≡ length ps → i < length ps → (get_or (kept_rows ps ks ts end) i no_row).kind ≡ get_or ks i 0 % 128
kind_kept [] ks ts end i same within = absurd (omega arith)
kind_kept (p ∷ ps) [] ts end i same within = absurd (omega arith)
kind_kept (p ∷ ps) (k ∷ ks) ts end zero same within = refl
kind_kept (p ∷ ps) (k ∷ ks) ts end (suc i) same within = kind_kept ps ks (totals_behind k ts) end i (omega arith) (omega arith)

pub cbit_kept : (ps ks ts : List ℕ) (end i : ℕ) → length ks ≡ length ps → i < length ps → (get_or (kept_rows ps ks ts end) i no_row).cbit ≡
    leb 128 (get_or ks i 0)
cbit_kept [] ks ts end i same within = absurd (omega arith)
cbit_kept (p ∷ ps) [] ts end i same within = absurd (omega arith)
cbit_kept (p ∷ ps) (k ∷ ks) ts end zero same within = refl
cbit_kept (p ∷ ps) (k ∷ ks) ts end (suc i) same within = cbit_kept ps ks (totals_behind k ts) end i (omega arith) (omega arith)

behind_total : (b : Bool) (ts : List ℕ) (n : ℕ) → get_or (cond b (drop 1 ts) ts) n 0 ≡ get_or ts (cond {A = ℕ} b 1 0 + n) 0
behind_total true ts n = get_or-drop 1 ts n 0
behind_total false ts n = let e : n ≡ 0 + n = omega arith in ap (λ (k : ℕ). get_or ts k 0) e

taken : (b : Bool) (ts : List ℕ) (n : ℕ) → n ≡ cond b 1 0 → drop n ts ≡ cond b (drop 1 ts) ts
taken true ts n is = ap (λ (k : ℕ). drop k ts) is
taken false ts n is = ap (λ (k : ℕ). drop k ts) is

-- the total of a row that counts its members is that behind as many as count theirs before it
pub total_kept : (ps ks ts : List ℕ) (end i : ℕ) → length ks ≡ length ps → i < length ps → counts (get_or ks i 0) ≡ true
    → (get_or (kept_rows ps ks ts end) i no_row).total ≡ get_or ts (counted_in (take i (kept_rows ps ks ts end))) 0
total_kept [] ks ts end i same within count = absurd (omega arith)
total_kept (p ∷ ps) [] ts end i same within count = absurd (omega arith)
total_kept (p ∷ ps) (k ∷ ks) ts end zero same within count = cond-true (counts k) (get_or ts 0 0) 0 count
total_kept (p ∷ ps) (k ∷ ks) ts end (suc i) same within count =
    total_kept ps ks (totals_behind k ts) end i (omega arith) (omega arith) count
    ∙ behind_total (counts k) ts (counted_in (take i (kept_rows ps ks (totals_behind k ts) end)))

-- where each has at least four bytes the places are those of the rows
pub places_kept : (ps ks ts : List ℕ) (end : ℕ) → length ks ≡ length ps → AllByRecursion IsRow (kept_rows ps ks ts end)
    → ps ++ end ∷ [] ≡ places_from (next_place ps end) (kept_rows ps ks ts end)
unfolding places_from
places_kept [] ks ts end same each = refl
places_kept (p ∷ ps) [] ts end same each = absurd (omega arith)
places_kept (p ∷ ps) (k ∷ ks) ts end same each =
    let large : 4 ≤ next_place ps end - p = each.0.large in
    let next : next_place ps end ≡ p + (next_place ps end - p) = omega arith in
    ap (λ (l : List ℕ). p ∷ l) (places_kept ps ks (totals_behind k ts) end (omega arith) each.1
    ∙ ap (λ (q : ℕ). places_from q (kept_rows ps ks (totals_behind k ts) end)) next)

abbrev one_if : Row → ℕ
one_if r = cond (is_counted (class_of r.kind)) 1 0

-- one more counts its members, or not
pub counted_more : (rows : List Row) (i : ℕ) → i < length rows → counted_in (take (i + 1) rows) ≡ counted_in (take i rows) + one_if (get_or rows i no_row)
counted_more [] i within = absurd (omega arith)
counted_more (r ∷ rows) zero within = omega arith
counted_more (r ∷ rows) (suc i) within =
    let e : suc i + 1 ≡ suc (i + 1) = omega arith in
    ap (λ (k : ℕ). counted_in (take k (r ∷ rows))) e ∙ omega (arith, counted_more rows i (omega arith))

one_counts : (b : Bool) → b ≡ true → ◌≡◌ {A = ℕ} (cond b 1 0) 1
one_counts true is = refl
one_counts false is = absurd (let e = is in cc)

none_counts : (b : Bool) → b ≡ false → ◌≡◌ {A = ℕ} (cond b 1 0) 0
none_counts true is = absurd (let e = is in cc)
none_counts false is = refl

at_most_one : (b : Bool) → cond {A = ℕ} b 1 0 ≤ 1
at_most_one true = omega arith
at_most_one false = omega arith

pub counted_one : (rows : List Row) (i : ℕ) → i < length rows → is_counted (class_of (get_or rows i no_row).kind) ≡ true
    → counted_in (take (i + 1) rows) ≡ counted_in (take i rows) + 1
counted_one rows i within is = omega (arith, counted_more rows i within, one_counts (is_counted (class_of (get_or rows i no_row).kind)) is)

pub counted_none : (rows : List Row) (i : ℕ) → i < length rows → is_counted (class_of (get_or rows i no_row).kind) ≡ false
    → counted_in (take (i + 1) rows) ≡ counted_in (take i rows)
counted_none rows i within is = omega (arith, counted_more rows i within, none_counts (is_counted (class_of (get_or rows i no_row).kind)) is)

pub few_counted : (rows : List Row) (i : ℕ) → i < length rows → is_counted (class_of (get_or rows i no_row).kind) ≡ true
    → counted_in (take i rows) < counted_in rows
few_counted [] i within is = absurd (omega arith)
few_counted (r ∷ rows) zero within is = omega (arith, one_counts (is_counted (class_of r.kind)) is)
few_counted (r ∷ rows) (suc i) within is = omega (arith, few_counted rows i (omega arith) is)

pub counted_most : (rows : List Row) (i : ℕ) → counted_in (take i rows) ≤ length rows
counted_most rows zero = omega arith
counted_most [] (suc i) = omega arith
counted_most (r ∷ rows) (suc i) = omega (arith, counted_most rows i, at_most_one (is_counted (class_of r.kind)))

-- totals of two bytes are words
abbrev pub AreWords : List ℕ → Type 0
AreWords ts = AllByRecursion (λ (t : ℕ). t < 65536) ts

pub are_words : (ts : List ℕ) → ((i : ℕ) → i < length ts → get_or ts i 0 < 65536) → AreWords ts
are_words [] each = tt
are_words (t ∷ ts) each = (each 0 (omega arith), are_words ts (λ i within. each (suc i) (omega arith)))

word_or_none : (b : Bool) (ts : List ℕ) → AreWords ts → cond b (get_or ts 0 0) 0 < 65536
word_or_none true [] each = omega arith
word_or_none true (t ∷ ts) each = each.0
word_or_none false ts each = omega arith

words_left : (b : Bool) (ts : List ℕ) → AreWords ts → AreWords (cond b (drop 1 ts) ts)
words_left true [] each = tt
words_left true (t ∷ ts) each = each.1
words_left false ts each = each

pub words_kept : (ps ks ts : List ℕ) (end : ℕ) → AreWords ts → AllByRecursion IsWordTotal (kept_rows ps ks ts end)
words_kept [] ks ts end each = tt
words_kept (p ∷ ps) [] ts end each = tt
words_kept (p ∷ ps) (k ∷ ks) ts end each =
    (word_or_none (counts k) ts each, words_kept ps ks (totals_behind k ts) end (words_left (counts k) ts each))

-- those behind the first one, where it takes a total if it counts its members
pub kept_behind : (ps ks ts : List ℕ) (end n : ℕ) → length ks ≡ length ps → n ≡ cond (counts (get_or ks 0 0)) 1 0
    → kept_rows (drop 1 ps) (drop 1 ks) (drop n ts) end ≡ drop 1 (kept_rows ps ks ts end)
kept_behind [] ks ts end n same is = refl
kept_behind (p ∷ ps) [] ts end n same is = absurd (omega arith)
kept_behind (p ∷ ps) (k ∷ ks) ts end n same is = ap (λ (l : List ℕ). kept_rows ps ks l end) (taken (counts k) ts n is)
