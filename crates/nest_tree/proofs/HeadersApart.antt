-- Headers above elements that nest apart are among these.
use Rattle.std.proofs.Common.{◌≡◌, ℕ, ◌+◌, ◌-◌, ◌≤◌, ◌<◌, List, [], ◌∷◌, length, drop, get_or, refl, sym, ap, ◌∙◌, subst, arith, zero, suc}
use Rattle.std.specs.Prelude.{Option, Some, None, IfSome}
use Rattle.std.specs.List.{AllByRecursion}
use Rattle.std.proofs.lemmas.List.{get_or-map, get_or-drop, length-drop}
use Rattle.dgn_drawing.specs.declared.row.Row.{Row}
use Rattle.dgn_drawing.specs.Nesting.{Forest, NoTree, Tree, Whole, nest, itself}
use Rattle.dgn_drawing.specs.Numbering.{Mark, end_of, marks}
use Rattle.nest_tree.specs.declared.open_list.OpenList.{OpenList}
use Rattle.nest_tree.specs.Places.{Going, marks_in, parent_in, depth_in, list_in, list_around}
use Rattle.nest_tree.proofs.ListStacks.{length-marks_in, header_of}
use Rattle.nest_tree.proofs.OpenLists.{no_mark}
use Rattle.nest_tree.proofs.GrownNestings.{all_both}

-- a header, where there is one, isn't before a number
abbrev pub NotBefore : ℕ → Mark → Type 0
NotBefore low m = IfSome m.parent (λ p. low ≤ p)

parents_from : (f : Forest Row) (low n depth : ℕ) (parent : Option ℕ) → low ≤ n → IfSome parent (λ p. low ≤ p)
    → AllByRecursion (NotBefore low) (marks f n depth parent)
parents_from NoTree low n depth parent early above = tt
parents_from (Tree knot h below behind) low n depth parent early above = (
  above,
  all_both (NotBefore low) (marks below (n + 1) (depth + 1) (Some n)) (marks behind (end_of n below) depth parent)
      (parents_from below low (n + 1) (depth + 1) (Some n) (omega arith) early)
      (parents_from behind low (end_of n below) depth parent (omega arith) above),
)

-- so it is for all that nest apart
pub reached : (rows : List Row) (first : ℕ) → drop first (marks_in rows) ≡ marks (nest itself Whole (drop first rows)) first 0 None
    → AllByRecursion (NotBefore first) (drop first (marks_in rows))
reached rows first apart =
    subst (AllByRecursion (NotBefore first)) (sym apart) (parents_from (nest itself Whole (drop first rows)) first first 0 None (omega arith) tt)

pub all_at : {A : Type 0} (P : A → Type 0) (l : List A) (i : ℕ) (d : A) → AllByRecursion P l → i < length l → P (get_or l i d)
all_at P [] i d each within = absurd (omega arith)
all_at P (x ∷ l) zero d each within = each.0
all_at P (x ∷ l) (suc i) d each within = all_at P l i d each.1 (omega arith)

pub parent_reached : (rows : List Row) (first n : ℕ) → AllByRecursion (NotBefore first) (drop first (marks_in rows)) → first ≤ n → n < length rows
    → IfSome (parent_in rows n) (λ p. first ≤ p)
parent_reached rows first n each from within =
    let place : first + (n - first) ≡ n = omega arith in
    let there = all_at (NotBefore first) (drop first (marks_in rows)) (n - first) no_mark each
    (omega (arith, length-drop first (marks_in rows), length-marks_in rows)) in
    let same : get_or (drop first (marks_in rows)) (n - first) no_mark ≡ get_or (marks_in rows) n no_mark =
    get_or-drop first (marks_in rows) (n - first) no_mark ∙ ap (λ (k : ℕ). get_or (marks_in rows) k no_mark) place in
    subst (λ (o : Option ℕ). IfSome o (λ p. first ≤ p))
    (sym (get_or-map (λ (m : Mark). m.parent) (marks_in rows) n no_mark None (omega (arith, length-marks_in rows))))
    (subst (NotBefore first) same there)

list_parent : (rows : List Row) (o : Option ℕ) (depth : ℕ) → (list_in rows o depth).parent ≡ o
list_parent rows None depth = refl
list_parent rows (Some p) depth = refl

-- the header of the list around one of them
pub around_reached : (rows : List Row) (first n : ℕ) → AllByRecursion (NotBefore first) (drop first (marks_in rows)) → first ≤ n → n < length rows
    → IfSome (list_around rows n).parent (λ p. first ≤ p)
around_reached rows first n each from within =
    subst (λ (o : Option ℕ). IfSome o (λ p. first ≤ p)) (sym (list_parent rows (parent_in rows n) (depth_in rows n)))
    (parent_reached rows first n each from within)

weaker : (o : Option ℕ) (a b : ℕ) → a ≤ b → IfSome o (λ p. p < a) → IfSome o (λ p. p < b)
weaker None a b up before = tt
weaker (Some p) a b up before = omega arith

-- the header of a list that is read stands before what is read
pub parent_small : (rows : List Row) (at : ℕ) (f : OpenList) → Going rows at f → at < 4294967295 → IfSome f.parent (λ p. p < 4294967295)
parent_small rows at f going few = weaker f.parent at 4294967295 (omega arith) (header_of rows at f going.stack going.stands)
