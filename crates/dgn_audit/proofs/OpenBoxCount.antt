-- Few boxes are open at once: they are those of headers above one element, and no element lies deep.
use Rattle.std.proofs.Common.{◌≡◌, ◌⊎◌, ◌==◌, ℕ, zero, suc, ◌+◌, ◌<◌, ◌≤◌, List, [], ◌∷◌, ◌++◌, length, drop, map, Option, Some, None, Bool, true, false}
use Rattle.std.proofs.Common.{cond, refl, sym, ap, ◌∙◌, subst, inl, inr, arith, append_assoc, length-append}
use Rattle.std.specs.Prelude.{slice_get}
use Rattle.std.specs.List.{AllByRecursion}
use Rattle.std.proofs.lemmas.List.{append-nil, length-drop}
use Rattle.std.proofs.lemmas.Bool.{cond-true, eq-eqb, eqb-false}
use Rattle.range_code.specs.declared.Box3.{Box3}
use Rattle.range_code.specs.Ranges.{join_of}
use Rattle.dgn_drawing.specs.Element.{Element}
use Rattle.dgn_drawing.specs.Rows.{row_of}
use Rattle.dgn_drawing.specs.Nesting.{Forest, NoTree, Tree, flat, forest}
use Rattle.dgn_drawing.specs.Numbering.{Mark, end_of, marks, marks_of}
use Rattle.nest_tree.proofs.NestingSteps.{flat-forest}
use Rattle.nest_tree.proofs.MemberBytes.{all_drop}
use Rattle.nest_tree.proofs.Depths.{depths_low}
use Rattle.elem_index.specs.declared.design.Design.{Design}
use Rattle.elem_index.specs.Design.{elements, IsWhole}
use Rattle.elem_index.proofs.Places.{axes_of}
use Rattle.level_view.proofs.ItemsBack.{here_and_behind, length-marks}
use Rattle.level_view.proofs.ElementRows.{marks_by_rows}
use Rattle.level_view.proofs.RowSizes.{rows_fit}
use Rattle.dgn_audit.specs.declared.reported.Reported.{Reported}
use Rattle.dgn_audit.specs.declared.open_box.OpenBox.{OpenBox}
use Rattle.dgn_audit.specs.Hulls.{tree_hull}
use Rattle.dgn_audit.specs.OpenBoxes.{box_for, without, with_hull, with_hulls}
use Rattle.dgn_audit.proofs.ReadBack.{read_marked, read_back}

-- the boxes are those of some of these headers, in their order
abbrev IsAmong : List OpenBox → List ℕ → Type 0
IsAmong [] hs = Unit {0}
IsAmong (o ∷ os) [] = ⊥
IsAmong (o ∷ os) (h ∷ hs) = ((o.header ≡ h) × IsAmong os hs) ⊎ IsAmong (o ∷ os) hs

among_more : (os : List OpenBox) (h : ℕ) (hs : List ℕ) → IsAmong os hs → IsAmong os (h ∷ hs)
among_more [] h hs is = tt
among_more (o ∷ os) h hs is = inr is

among_rest : (o : OpenBox) (os : List OpenBox) (hs : List ℕ) → IsAmong (o ∷ os) hs → IsAmong os hs
among_rest o os [] is = absurd is
among_rest o os (h ∷ hs) (inl both) = among_more os h hs both.1
among_rest o os (h ∷ hs) (inr is) = among_more os h hs (among_rest o os hs is)

-- so there are no more of them than headers
among_few : (os : List OpenBox) (hs : List ℕ) → IsAmong os hs → length os ≤ length hs
among_few [] hs is = omega arith
among_few (o ∷ os) [] is = absurd is
among_few (o ∷ os) (h ∷ hs) (inl both) = omega (arith, among_few os hs both.1)
among_few (o ∷ os) (h ∷ hs) (inr is) = omega (arith, among_few (o ∷ os) hs is)

-- where the box of the first header is taken away, they are among the others
among_without : (n : ℕ) (os : List OpenBox) (hs : List ℕ) → IsAmong os (n ∷ hs) → IsAmong (without n os) hs
among_without n [] hs is = tt
among_without n (o ∷ os) hs (inl both) =
    subst (λ (l : List OpenBox). IsAmong l hs) (sym (cond-true (o.header == n) os (o ∷ os) (eq-eqb o.header n both.0))) both.1
among_without n (o ∷ os) hs (inr is) = by_same (o.header == n)
  where
    by_same : (t : Bool) → IsAmong (cond t os (o ∷ os)) hs
    by_same true = among_rest o os hs is
    by_same false = is

-- the first header's box may be widened, or added
among_with_hull : (p : ℕ) (hull : Box3) (os : List OpenBox) (hs : List ℕ) → IsAmong os (p ∷ hs) → IsAmong (with_hull p hull os) (p ∷ hs)
among_with_hull p hull [] hs is = inl (refl, tt)
among_with_hull p hull (o ∷ os) hs is = by_same (o.header == p) refl is
  where
    by_same : (t : Bool) → o.header == p ≡ t → IsAmong (o ∷ os) (p ∷ hs)
        → IsAmong (cond t (record { header = p; hull = join_of hull o.hull } ∷ os) (record { header = p; hull = hull } ∷ o ∷ os)) (p ∷ hs)
    by_same true same (inl both) = inl (refl, both.1)
    by_same true same (inr is) = inl (refl, among_rest o os hs is)
    by_same false other (inl both) = absurd (eqb-false o.header p other both.0)
    by_same false other (inr is) = inl (refl, is)

-- the first of some headers
abbrev first_number : List ℕ → Option ℕ
first_number [] = None
first_number (h ∷ hs) = Some h

among_with : (parent : Option ℕ) (hull : Option Box3) (os : List OpenBox) (hs : List ℕ) → parent ≡ first_number hs → IsAmong os hs
    → IsAmong (with_hulls parent hull os) hs
among_with None hull os hs first is = is
among_with (Some p) None os hs first is = is
among_with (Some p) (Some hull) os [] first is = absurd (let x = first in cc)
among_with (Some p) (Some hull) os (h ∷ hs) first is =
    let same : p ≡ h = (let x = first in cc) in
    subst (λ (k : ℕ). IsAmong (with_hull k hull os) (h ∷ hs)) (sym same) (among_with_hull h hull os hs is)

-- boxes that are among the first headers are among the second
abbrev Holds : List ℕ → List ℕ → Type 0
Holds fewer more = (os : List OpenBox) → IsAmong os fewer → IsAmong os more

-- the headers above the next element are among the element and those above it, and each mark says how many there are,
-- and the nearest
abbrev Chained : ℕ → List ℕ → List Mark → Type 0
Chained n top [] = Unit {0}
Chained n top (m ∷ ms) = (up : List ℕ) × (Holds up top × ((length up ≡ m.depth) × ((m.parent ≡ first_number up) × Chained (n + 1) (n ∷ up) ms)))

-- so it is of trees, and of what stands behind them
module _ {A : Type 0} where
  chained : (f : Forest A) (n depth : ℕ) (parent : Option ℕ) (up top : List ℕ) (rest : List Mark) → length up ≡ depth → parent ≡ first_number up → Holds up top
      → ((last : List ℕ) → Holds up last → Chained (n + length (flat f)) last rest) → Chained n top (marks f n depth parent ++ rest)
  chained NoTree n depth parent up top rest many first holds after =
      let here : n + 0 ≡ n = omega arith in
      subst (λ (k : ℕ). Chained k top rest) here (after top holds)
  chained (Tree knot h below behind) n depth parent up top rest many first holds after =
      let past : end_of n below + length (flat behind) ≡ n + length (flat (Tree knot h below behind)) =
      omega (arith, length-append (flat below) (flat behind)) in
      let inner : Chained (n + 1) (n ∷ up) (marks below (n + 1) (depth + 1) (Some n) ++ (marks behind (end_of n below) depth parent ++ rest)) =
      chained below (n + 1) (depth + 1) (Some n) (n ∷ up) (n ∷ up) (marks behind (end_of n below) depth parent ++ rest) (omega (arith, many)) refl (λ os is. is)
      (λ last holds_more. chained behind (end_of n below) depth parent up last rest many first (λ os is. holds_more os (among_more os n up is))
      (λ final holds_all. subst (λ (k : ℕ). Chained k final rest) (sym past) (after final holds_all))) in (
        up,
        (
          holds,
          (
            many,
            (
              first,
              subst (Chained (n + 1) (n ∷ up)) (sym (append_assoc (marks below (n + 1) (depth + 1) (Some n)) (marks behind (end_of n below) depth parent) rest))
                  inner,
            ),
          ),
        ),
      )

  chained_all : (f : Forest A) → Chained 0 [] (marks_of f)
  chained_all f = subst (Chained 0 []) (append-nil (marks f 0 0 None)) (chained f 0 0 None [] [] [] refl refl (λ os is. is) (λ last holds. tt))

-- from any element on
chained_from : (k n : ℕ) (top : List ℕ) (ms : List Mark) → Chained n top ms → (last : List ℕ) × Chained (n + k) last (drop k ms)
chained_from zero n top ms is = let here : n ≡ n + 0 = omega arith in (top, subst (λ (j : ℕ). Chained j top ms) here is)
chained_from (suc k) n top [] is = (top, tt)
chained_from (suc k) n top (m ∷ ms) is =
    let rest = chained_from k (n + 1) (n ∷ is.0) ms is.1.1.1.1 in
    let here : n + 1 + k ≡ n + suc k = omega arith in
    (rest.0, subst (λ (j : ℕ). Chained j rest.0 (drop k ms)) here rest.1)

there : {A : Type 0} (xs : List A) (n : ℕ) → n < length xs → (x : A) × (slice_get xs n ≡ Some x)
there [] n within = absurd (omega (arith, within))
there (x ∷ xs) zero within = (x, refl)
there (x ∷ xs) (suc n) within = there xs n (omega (arith, within))

module _ (keep : Reported) (dim : ℕ) (es : List Element) where
  -- the boxes that are open where so many elements from number n on have been read
  abbrev boxes_at : ℕ → ℕ → List OpenBox
  boxes_at n count = (read_back keep dim es n count).open_boxes

  boxes_among : (count n : ℕ) (top : List ℕ) (ms : List Mark) → drop n (marks_of (forest row_of es)) ≡ ms → Chained n top ms → count ≤ length ms
      → n + count ≤ length es
      → AllByRecursion (λ (m : Mark). m.depth ≤ 3278) ms → IsAmong (boxes_at n count) top × (length (boxes_at n count) ≤ 3278)
  boxes_among zero n top ms are is short within low = (tt, omega arith)
  boxes_among (suc count) n top [] are is short within low = absurd (omega (arith, short))
  boxes_among (suc count) n top (m ∷ ms) are is short within low =
      let next = here_and_behind (marks_of (forest row_of es)) n m ms are in
      let behind = boxes_among count (n + 1) (n ∷ is.0) ms next.1 is.1.1.1.1 (omega (arith, short)) (omega (arith, within)) low.1 in
      let e = there es n (omega (arith, within)) in
      let read : boxes_at n (suc count)
      ≡ with_hulls m.parent (tree_hull dim m.knot e.0 (box_for n (boxes_at (n + 1) count))) (without n (boxes_at (n + 1) count)) =
      ap (λ (o : Option Mark). (read_marked keep dim n o (slice_get es n) (read_back keep dim es (n + 1) count)).open_boxes) next.0
      ∙ ap (λ (o : Option Element). (read_marked keep dim n (Some m) o (read_back keep dim es (n + 1) count)).open_boxes) e.1 in
      let here : IsAmong (boxes_at n (suc count)) is.0 =
      subst (λ (os : List OpenBox). IsAmong os is.0) (sym read)
      (among_with m.parent (tree_hull dim m.knot e.0 (box_for n (boxes_at (n + 1) count))) (without n (boxes_at (n + 1) count)) is.0 is.1.1.1.0
      (among_without n (boxes_at (n + 1) count) is.0 behind.0)) in
      (is.1.0 (boxes_at n (suc count)) here, omega (arith, among_few (boxes_at n (suc count)) is.0 here, is.1.1.0, low.0))

-- at most 3278 boxes are open at once
pub few_open : (d : Design) → IsWhole d → (keep : Reported) (n count : ℕ) → n + count ≤ length (elements d)
    → length (read_back keep d.dim (elements d) n count).open_boxes ≤ 3278
few_open d whole keep n count within =
    let fit = rows_fit d.dim (axes_of d whole) (elements d) whole.is_open.opens.each in
    let low : AllByRecursion (λ (m : Mark). m.depth ≤ 3278) (marks_of (forest row_of (elements d))) =
    subst (AllByRecursion (λ (m : Mark). m.depth ≤ 3278)) (sym (marks_by_rows (elements d))) (depths_low (map row_of (elements d)) fit.0 fit.1) in
    let long : length (marks_of (forest row_of (elements d))) ≡ length (elements d) =
    length-marks (forest row_of (elements d)) 0 0 None ∙ ap (length {A = Element}) (flat-forest row_of (elements d)) in
    let from = chained_from n 0 [] (marks_of (forest row_of (elements d))) (chained_all (forest row_of (elements d))) in
    let here : 0 + n ≡ n = omega arith in
    let chain : Chained n from.0 (drop n (marks_of (forest row_of (elements d)))) =
    subst (λ (k : ℕ). Chained k from.0 (drop n (marks_of (forest row_of (elements d))))) here from.1 in
    (boxes_among keep d.dim (elements d) count n from.0 (drop n (marks_of (forest row_of (elements d)))) refl chain
    (omega (arith, long, length-drop n (marks_of (forest row_of (elements d))))) within
    (all_drop (λ (m : Mark). m.depth ≤ 3278) n (marks_of (forest row_of (elements d))) low)).1
