-- Among rows of elements none lies so deep that a word doesn't say how deep: the members of a group are few, since each
-- has four bytes and the total is a word.
use Rattle.std.proofs.Common.{◌≡◌, ℕ, zero, suc, ◌+◌, ◌-◌, ◌*◌, ◌≤◌, ◌<◌, List, [], ◌∷◌, length, take, drop, get_or, refl, sym, ap, ◌∙◌, subst, arith}
use Rattle.std.specs.Prelude.{Option, Some, None, ◌==◌}
use Rattle.std.specs.List.{AllByRecursion}
use Rattle.std.proofs.lemmas.List.{length-take, length-drop, get_or-map, get_or-drop}
use Rattle.std.proofs.lemmas.Bool.{and_parts, both_ways}
use Rattle.dgn_drawing.specs.declared.row.Row.{Row}
use Rattle.dgn_drawing.specs.Nesting.{Scope, Whole, Members, Parts, is_all, member_count, front_count, is_spline_part, has_bit, group_or_loose, shape}
use Rattle.dgn_drawing.specs.Nesting.{nest, itself}
use Rattle.dgn_drawing.specs.Numbering.{Mark, marks}
use Rattle.nest_tree.specs.Depths.{IsWordTotal}
use Rattle.nest_tree.specs.Shapes.{IsRow}
use Rattle.nest_tree.specs.declared.open_list.OpenList.{OpenList}
use Rattle.nest_tree.specs.Places.{marks_in, Going}
use Rattle.nest_tree.proofs.NestingSteps.{shape_cases}
use Rattle.nest_tree.proofs.MemberBytes.{all_take, all_drop}
use Rattle.nest_tree.proofs.Depths.{bytes, Each, each_cons, each_nil, all_weaker, group_bytes, short_front, short_rest, parts_flat}
use Rattle.nest_tree.proofs.ListStacks.{length-marks_in, mark_is}
use Rattle.nest_tree.proofs.OpenLists.{no_mark}
use Rattle.nest_tree.proofs.HeadersApart.{all_at}

many_bytes : (l : List Row) → AllByRecursion IsRow l → 4 * length l ≤ bytes l
many_bytes [] each = omega arith
many_bytes (r ∷ l) each = let large = each.0.large in omega (arith, many_bytes l each.1)

few_members : (h : Row) (r : List Row) (k : ℕ) → IsWordTotal h → AllByRecursion IsRow r → member_count itself h r ≡ Some k → length (take k r) ≤ 32777
few_members h r k word each is = omega (arith, group_bytes h r k is, many_bytes (take k r) (all_take IsRow k r each), word)

-- each step down goes past an element
below_in : (m : ℕ) (scope : Scope) (l : List Row) (n d : ℕ) (p : Option ℕ) → length l ≤ m → Each (λ x. x.depth ≤ d + length l) (nest itself scope l) n d p
below_in m scope [] n d p short = each_nil (λ x. x.depth ≤ d + 0) scope n d p
below_in zero scope (h ∷ r) n d p short = absurd (omega arith)
below_in (suc m) scope (h ∷ r) n d p short =
    let c = (shape itself scope h r).count in
    let inside = (shape itself scope h r).inside in
    each_cons (λ x. x.depth ≤ d + suc (length r)) scope h r n d p (λ x is. omega arith)
    (all_weaker (λ x. x.depth ≤ d + 1 + length (take c r)) (λ x. x.depth ≤ d + suc (length r)) (marks (nest itself inside (take c r)) (n + 1) (d + 1) (Some n))
    (λ x low. omega (arith, length-take c r))
    (below_in m inside (take c r) (n + 1) (d + 1) (Some n) (short_front c m r (omega arith))))
    (λ k. all_weaker (λ x. x.depth ≤ d + length (drop c r)) (λ x. x.depth ≤ d + suc (length r)) (marks (nest itself scope (drop c r)) k d p)
    (λ x low. omega (arith, length-drop c r))
    (below_in m scope (drop c r) k d p (short_rest c m r (omega arith))))

grouped_near : (h : Row) (r : List Row) (n d : ℕ) (o : Option ℕ) → IsWordTotal h → AllByRecursion IsRow r → o ≡ member_count itself h r
    → Each (λ x. x.depth ≤ d + 32778) (nest itself (group_or_loose o).inside (take (group_or_loose o).count r)) (n + 1) (d + 1) (Some n)
grouped_near h r n d None word each is = each_nil (λ x. x.depth ≤ d + 32778) Members (n + 1) (d + 1) (Some n)
grouped_near h r n d (Some k) word each is =
    let few = few_members h r k word each (sym is) in
    all_weaker (λ x. x.depth ≤ d + 1 + length (take k r)) (λ x. x.depth ≤ d + 32778) (marks (nest itself Members (take k r)) (n + 1) (d + 1) (Some n))
    (λ x low. omega arith) (below_in (length (take k r)) Members (take k r) (n + 1) (d + 1) (Some n) (omega arith))

parts_near : (r : List Row) (n d k : ℕ) → Each (λ x. x.depth ≤ d + 32778) (nest itself Parts (take k r)) (n + 1) (d + 1) (Some n)
parts_near r n d k =
    all_weaker (λ x. x.depth ≤ d + 1) (λ x. x.depth ≤ d + 32778) (marks (nest itself Parts (take k r)) (n + 1) (d + 1) (Some n)) (λ x low. omega arith)
    (parts_flat (length (take k r)) (take k r) (n + 1) (d + 1) (Some n) (omega arith))

members_near : (m : ℕ) (l : List Row) (n d : ℕ) (p : Option ℕ) → length l ≤ m → AllByRecursion IsRow l → AllByRecursion IsWordTotal l
    → Each (λ x. x.depth ≤ d + 32778) (nest itself Members l) n d p
members_near m [] n d p short each words = each_nil (λ x. x.depth ≤ d + 32778) Members n d p
members_near zero (h ∷ r) n d p short each words = absurd (omega arith)
members_near (suc m) (h ∷ r) n d p short each words =
    each_cons (λ x. x.depth ≤ d + 32778) Members h r n d p (λ x is. omega arith)
    (shape_cases (λ s. Each (λ x. x.depth ≤ d + 32778) (nest itself s.inside (take s.count r)) (n + 1) (d + 1) (Some n)) Members h (member_count itself h r)
    (front_count is_spline_part r) (front_count has_bit r)
    (each_nil (λ x. x.depth ≤ d + 32778) Members (n + 1) (d + 1) (Some n))
    (λ counted. grouped_near h r n d (member_count itself h r) words.0 each.1 refl)
    (λ _ _. parts_near r n d (front_count is_spline_part r))
    (λ _ shared. absurd (both_ways (is_all Members) refl ((and_parts (h.kind == 34) (is_all Members) shared).1))))
    (λ k. let c = (shape itself Members h r).count in
    members_near m (drop c r) k d p (short_rest c m r (omega arith)) (all_drop IsRow c r each.1) (all_drop IsWordTotal c r words.1))

-- a part of a shared cell definition is one step below it
all_near : (m : ℕ) (l : List Row) (n d : ℕ) (p : Option ℕ) → length l ≤ m → AllByRecursion IsRow l → AllByRecursion IsWordTotal l
    → Each (λ x. x.depth ≤ d + 32779) (nest itself Whole l) n d p
all_near m [] n d p short each words = each_nil (λ x. x.depth ≤ d + 32779) Whole n d p
all_near zero (h ∷ r) n d p short each words = absurd (omega arith)
all_near (suc m) (h ∷ r) n d p short each words =
    each_cons (λ x. x.depth ≤ d + 32779) Whole h r n d p (λ x is. omega arith)
    (shape_cases (λ s. Each (λ x. x.depth ≤ d + 32779) (nest itself s.inside (take s.count r)) (n + 1) (d + 1) (Some n)) Whole h (member_count itself h r)
    (front_count is_spline_part r) (front_count has_bit r)
    (each_nil (λ x. x.depth ≤ d + 32779) Members (n + 1) (d + 1) (Some n))
    (λ counted. let o = member_count itself h r in
    all_weaker (λ x. x.depth ≤ d + 32778) (λ x. x.depth ≤ d + 32779)
    (marks (nest itself (group_or_loose o).inside (take (group_or_loose o).count r)) (n + 1) (d + 1) (Some n)) (λ x low. omega arith)
    (grouped_near h r n d (member_count itself h r) words.0 each.1 refl))
    (λ _ _. let k = front_count is_spline_part r in
    all_weaker (λ x. x.depth ≤ d + 32778) (λ x. x.depth ≤ d + 32779) (marks (nest itself Parts (take k r)) (n + 1) (d + 1) (Some n)) (λ x low. omega arith)
    (parts_near r n d k))
    (λ _ _. let k = front_count has_bit r in
    all_weaker (λ x. x.depth ≤ d + 1 + 32778) (λ x. x.depth ≤ d + 32779) (marks (nest itself Members (take k r)) (n + 1) (d + 1) (Some n))
    (λ x low. omega arith)
    (members_near (length (take k r)) (take k r) (n + 1) (d + 1) (Some n) (omega arith) (all_take IsRow k r each.1) (all_take IsWordTotal k r words.1))))
    (λ k. let c = (shape itself Whole h r).count in
    all_near m (drop c r) k d p (short_rest c m r (omega arith)) (all_drop IsRow c r each.1) (all_drop IsWordTotal c r words.1))

abbrev pub IsNear : Mark → Type 0
IsNear m = m.depth ≤ 32779

-- so those that nest apart lie near their roots
pub near_apart : (rows : List Row) (first : ℕ) → drop first (marks_in rows) ≡ marks (nest itself Whole (drop first rows)) first 0 None
    → AllByRecursion IsRow (drop first rows) → AllByRecursion IsWordTotal (drop first rows) → AllByRecursion IsNear (drop first (marks_in rows))
near_apart rows first apart each words =
    subst (AllByRecursion IsNear) (sym apart)
    (all_weaker (λ x. x.depth ≤ 0 + 32779) IsNear (marks (nest itself Whole (drop first rows)) first 0 None) (λ x low. omega arith)
    (all_near (length (drop first rows)) (drop first rows) first 0 None (omega arith) each words))

-- and the lists that are read too
module _ (rows : List Row) (at : ℕ) (f : OpenList) (going : Going rows at f) (inside : at < f.end) where
  pub near_list : (first : ℕ) → first ≤ at → at < length rows → AllByRecursion IsNear (drop first (marks_in rows)) → f.depth ≤ 32779
  near_list first from within near =
      let place : first + (at - first) ≡ at = omega arith in
      let there = all_at IsNear (drop first (marks_in rows)) (at - first) no_mark near
      (omega (arith, length-drop first (marks_in rows), length-marks_in rows)) in
      let same : get_or (drop first (marks_in rows)) (at - first) no_mark ≡ get_or (marks_in rows) at no_mark =
      get_or-drop first (marks_in rows) (at - first) no_mark ∙ ap (λ (k : ℕ). get_or (marks_in rows) k no_mark) place in
      let depth = mark_is rows at f going inside (λ (m : Mark). m.depth) 0 in
      let mark = get_or-map (λ (m : Mark). m.depth) (marks_in rows) at no_mark 0 (omega (arith, length-marks_in rows)) in
      omega (arith, subst IsNear same there, depth, mark)
