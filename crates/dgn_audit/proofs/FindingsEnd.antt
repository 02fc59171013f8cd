-- After a fit no element of the tree is a finding, and the findings of all other trees are as before.
use Rattle.std.proofs.Common.{◌≡◌, ℕ, ℤ, zero, suc, ◌+◌, ◌-◌, ◌<◌, ◌≤◌, ◌==◌, List, [], ◌∷◌, ◌++◌, length, take, drop, Option, Some, None, Bool, true}
use Rattle.std.proofs.Common.{false, cond, refl, sym, ap, ◌∙◌, subst, arith, length-append, inl, inr}
use Rattle.std.specs.Prelude.{nat_lt, nat_le, not, ◌&&◌, filter}
use Rattle.std.specs.List.{AllByRecursion}
use Rattle.std.specs.Cmp.{int_eq_equiv}
use Rattle.std.proofs.lemmas.List.{append-nil}
use Rattle.std.proofs.lemmas.Bool.{cond-true, cond-false, cond_both, cases_Bool, ltb-true, ltb-false, lt-ltb, le-ltb, le-leb, lt-leb, and_from, and_left}
use Rattle.std.proofs.lemmas.Bool.{and_right, both_ways}
use Rattle.range_code.specs.declared.Box3.{Box3}
use Rattle.range_code.specs.Ranges.{on_axis}
use Rattle.dgn_layout.specs.Classes.{class_of}
use Rattle.dgn_drawing.specs.Element.{Display, Parts, Body, Silent, Shown, Element}
use Rattle.dgn_drawing.specs.WellFormed.{IsDimension}
use Rattle.dgn_drawing.specs.Changes.{points_in}
use Rattle.dgn_drawing.specs.Items.{in_space}
use Rattle.dgn_drawing.specs.Rows.{row_of}
use Rattle.dgn_drawing.specs.Nesting.{Knot, Leaf, Group, Run, Loose, Forest, NoTree, Tree, flat, forest}
use Rattle.dgn_drawing.specs.Numbering.{Mark, end_of, mark_of, span_of}
use Rattle.dgn_drawing.proofs.Places.{in_both}
use Rattle.nest_tree.proofs.NestingSteps.{flat-forest}
use Rattle.level_view.proofs.Places.{mark_part}
use Rattle.edit_ops.specs.Trees.{count_in, tree_at, exchange}
use Rattle.dgn_audit.specs.declared.reported.Reported.TheVariants as keeps
use Rattle.dgn_audit.specs.declared.finding.Finding.{Finding}
use Rattle.dgn_audit.specs.Hulls.{hull_join, on_axes, box_of, stored_of, is_vertices, points_hull, range_hull, hull_in, tree_hull, hull_of}
use Rattle.dgn_audit.specs.Findings.{same_corner, same_box, is_fitted, is_kept, finding_of, finding_as, findings_in}
use Rattle.dgn_drawing.specs.Changes.{display_ranged, body_ranged, with_range}
use Rattle.dgn_audit.specs.Fitting.{head_fitted, fitted, fitted_forest}
use Rattle.dgn_audit.specs.Laws.{is_outside, FitsEndFindings}
use Rattle.dgn_audit.proofs.Boxes.{IsOnAxes, set_on_axes, point_on_axes, hulls_on_axes}
use Rattle.dgn_audit.proofs.FittedBytes.{hull_shown}
use Rattle.dgn_audit.proofs.TreeHulls.{finding_each}
use Rattle.dgn_audit.proofs.TreePlaces.{part_tree, part_mark, part_marked, part_end}
use Rattle.dgn_audit.proofs.FitKeepsRows.{axes_of, done_at, made_nested}

-- a box is the same as itself
corner_self : (a : List ℤ) → same_corner a a ≡ true
corner_self a = and_from _ _ (int_eq_equiv.refl (on_axis a 0)) (and_from _ _ (int_eq_equiv.refl (on_axis a 1)) (int_eq_equiv.refl (on_axis a 2)))

box_self : (r : Box3) → same_box r r ≡ true
box_self r = and_from _ _ (corner_self r.lo) (corner_self r.hi)

-- hulls are on the file's axes
module _ (dim : ℕ) (axes : IsDimension dim) where
  points_axes : (ps : List (List ℤ)) → IsOnAxes dim (points_hull dim ps)
  points_axes [] = tt
  points_axes (p ∷ ps) = hulls_on_axes dim (Some (box_of dim p)) (points_hull dim ps) axes (point_on_axes dim p axes) (points_axes ps)

  range_axes : (kind : ℕ) (d : Display) → IsOnAxes dim (range_hull dim kind d)
  range_axes kind d = cond_both (kind == 34) None (Some (on_axes dim (record { lo = d.low; hi = d.high }))) (IsOnAxes dim) (λ _. tt)
      (λ _. set_on_axes dim (record { lo = d.low; hi = d.high }) axes)

  body_axes : (knot : Knot) (kind : ℕ) (b : Body) (members : Option Box3) → IsOnAxes dim members → IsOnAxes dim (hull_in dim knot kind b members)
  body_axes knot kind (Silent rest) members held = tt
  body_axes Leaf kind (Shown d parts rest) members held =
      cond_both (is_vertices (class_of kind)) (points_hull dim (points_in parts)) (range_hull dim kind d) (IsOnAxes dim)
      (λ _. points_axes (points_in parts)) (λ _. range_axes kind d)
  body_axes Group kind (Shown d parts rest) members held = held
  body_axes Run kind (Shown d parts rest) members held = range_axes kind d
  body_axes Loose kind (Shown d parts rest) members held = tt

  tree_axes : (knot : Knot) (e : Element) (members : Option Box3) → IsOnAxes dim members → IsOnAxes dim (tree_hull dim knot e members)
  tree_axes knot e members held =
      cond_both e.deleted None (hull_in dim knot e.kind e.body members) (IsOnAxes dim) (λ _. tt) (λ _. body_axes knot e.kind e.body members held)

  hull_axes : (f : Forest Element) → IsOnAxes dim (hull_of dim f)
  hull_axes NoTree = tt
  hull_axes (Tree knot e below behind) =
      hulls_on_axes dim (tree_hull dim knot e (hull_of dim below)) (hull_of dim behind) axes (tree_axes knot e (hull_of dim below) (hull_axes below))
      (hull_axes behind)

-- another range leaves the hull of what is fitted
body_stays : (dim : ℕ) (knot : Knot) (kind : ℕ) (b : Body) (r : Box3) (members : Option Box3) → is_fitted knot kind ≡ true
    → hull_in dim knot kind (body_ranged dim r b) members ≡ hull_in dim knot kind b members
body_stays dim knot kind (Silent rest) r members is = refl
body_stays dim Leaf kind (Shown d parts rest) r members is =
    cond-true (is_vertices (class_of kind)) (points_hull dim (points_in parts)) (range_hull dim kind (display_ranged dim r d)) is
    ∙ sym (cond-true (is_vertices (class_of kind)) (points_hull dim (points_in parts)) (range_hull dim kind d) is)
body_stays dim Group kind (Shown d parts rest) r members is = refl
body_stays dim Run kind (Shown d parts rest) r members is = absurd (both_ways false refl is)
body_stays dim Loose kind (Shown d parts rest) r members is = absurd (both_ways false refl is)

module _ (dim : ℕ) (knot : Knot) (e : Element) where
  head_stays : (h members : Option Box3) → tree_hull dim knot (head_fitted dim knot e h) members ≡ tree_hull dim knot e members
  head_stays None members = refl
  head_stays (Some r) members =
      cond_both (is_fitted knot e.kind) (with_range dim r e) e (λ (x : Element). tree_hull dim knot x members ≡ tree_hull dim knot e members)
      (λ is. ap (λ (o : Option Box3). cond e.deleted None o) (body_stays dim knot e.kind e.body r members is)) (λ _. refl)

  head_deleted : (h : Option Box3) → (head_fitted dim knot e h).deleted ≡ e.deleted
  head_deleted None = refl
  head_deleted (Some r) = cond_both (is_fitted knot e.kind) (with_range dim r e) e (λ (x : Element). x.deleted ≡ e.deleted) (λ _. refl) (λ _. refl)

-- so fitted trees have the hulls of the old ones
hulls_stay : (dim : ℕ) (f : Forest Element) → hull_of dim (fitted dim f) ≡ hull_of dim f
hulls_stay dim NoTree = refl
hulls_stay dim (Tree knot e below behind) =
    let inner : hull_of dim (cond e.deleted below (fitted dim below)) ≡ hull_of dim below =
    cond_both e.deleted below (fitted dim below) (λ (g : Forest Element). hull_of dim g ≡ hull_of dim below) (λ _. refl) (λ _. hulls_stay dim below) in
    ap (λ (o : Option Box3). hull_join (tree_hull dim knot (head_fitted dim knot e (tree_hull dim knot e (hull_of dim below))) o)
    (hull_of dim (fitted dim behind))) inner
    ∙ ap (λ (o : Option Box3). hull_join o (hull_of dim (fitted dim behind)))
    (head_stays dim knot e (tree_hull dim knot e (hull_of dim below)) (hull_of dim below))
    ∙ ap (hull_join (tree_hull dim knot e (hull_of dim below))) (hulls_stay dim behind)

-- and as many elements
counts_stay : (dim : ℕ) (f : Forest Element) → length (flat (fitted dim f)) ≡ length (flat f)
counts_stay dim NoTree = refl
counts_stay dim (Tree knot e below behind) =
    let inner : length (flat (cond e.deleted below (fitted dim below))) ≡ length (flat below) =
    cond_both e.deleted below (fitted dim below) (λ (g : Forest Element). length (flat g) ≡ length (flat below)) (λ _. refl) (λ _. counts_stay dim below) in
    omega (
      arith,
      inner,
      counts_stay dim behind,
      length-append (flat below) (flat behind),
      length-append (flat (cond e.deleted below (fitted dim below))) (flat (fitted dim behind)),
    )

-- a corner on the axes that is put over another one is there
over_corner : (dim : ℕ) (a b : List ℤ) → IsDimension dim → in_space (take dim (take dim (in_space (take dim a)) ++ drop dim b)) ≡ in_space (take dim a)
over_corner dim a b axes = in_both (λ (d : ℕ). in_space (take d (take d (in_space (take d a)) ++ drop d b)) ≡ in_space (take d a)) (two a) refl axes
  where
    two : (a : List ℤ) → in_space (take 2 (take 2 (in_space (take 2 a)) ++ drop 2 b)) ≡ in_space (take 2 a)
    two [] = refl
    two (x ∷ []) = refl
    two (x ∷ y ∷ z) = refl

-- what is stored of a box that is put there is the box
stored_fitted : (dim : ℕ) (r : Box3) (d : Display) (parts : Parts) (rest : List ℕ) → IsDimension dim → on_axes dim r ≡ r
    → stored_of dim (body_ranged dim r (Shown d parts rest)) ≡ r
stored_fitted dim r d parts rest axes on =
    ap (λ (x : Box3). stored_of dim (body_ranged dim x (Shown d parts rest))) (sym on)
    ∙ ap (λ (l : List ℤ). record { lo = l; hi = in_space (take dim (take dim (in_space (take dim r.hi)) ++ drop dim d.high)) })
    (over_corner dim r.lo d.low axes)
    ∙ ap (λ (h : List ℤ). record { lo = in_space (take dim r.lo); hi = h }) (over_corner dim r.hi d.high axes)
    ∙ on

-- a hull that isn't fitted is the stored range
pub stored_other : (dim : ℕ) (knot : Knot) (kind : ℕ) (b : Body) (members : Option Box3) (r : Box3) → hull_in dim knot kind b members ≡ Some r
    → is_fitted knot kind ≡ false → stored_of dim b ≡ r
stored_other dim knot kind (Silent rest) members r is not_fitted = absurd (let x = is in cc)
stored_other dim Leaf kind (Shown d parts rest) members r is not_fitted =
    of_range (kind == 34) (sym (cond-false (is_vertices (class_of kind)) (points_hull dim (points_in parts)) (range_hull dim kind d) not_fitted) ∙ is)
  where
    of_range : (t : Bool) → cond t None (Some (stored_of dim (Shown d parts rest))) ≡ Some r → stored_of dim (Shown d parts rest) ≡ r
    of_range true some = absurd (let x = some in cc)
    of_range false some = let x = some in cc
stored_other dim Group kind (Shown d parts rest) members r is not_fitted = absurd (let x = not_fitted in cc)
stored_other dim Run kind (Shown d parts rest) members r is not_fitted = of_range (kind == 34) is
  where
    of_range : (t : Bool) → cond t None (Some (stored_of dim (Shown d parts rest))) ≡ Some r → stored_of dim (Shown d parts rest) ≡ r
    of_range true some = absurd (let x = some in cc)
    of_range false some = let x = some in cc
stored_other dim Loose kind (Shown d parts rest) members r is not_fitted = absurd (let x = is in cc)

-- an element with its hull as its range is no finding
pub same_none : (dim : ℕ) (knot : Knot) (n : ℕ) (x : Element) (r : Box3) → stored_of dim x.body ≡ r → finding_as keeps.Differing dim knot n x (Some r) ≡ []
same_none dim knot n x r is =
    let same : same_box (stored_of dim x.body) r ≡ true = ap (λ (s : Box3). same_box s r) is ∙ box_self r in
    cond-false (not (same_box (stored_of dim x.body) r)) (finding_of dim n x r ∷ []) [] (ap not same)

module _ (dim : ℕ) (axes : IsDimension dim) where
  -- a head with its hull as its range is no finding
  fitted_same : (knot : Knot) (e : Element) (members : Option Box3) (r : Box3) → tree_hull dim knot e members ≡ Some r → on_axes dim r ≡ r
      → stored_of dim (head_fitted dim knot e (Some r)).body ≡ r
  fitted_same knot e members r is on =
      cond_both (is_fitted knot e.kind) (with_range dim r e) e (λ (x : Element). stored_of dim x.body ≡ r)
      (λ _. let shown = hull_shown dim knot e members r is in
      ap (λ (b : Body). stored_of dim (body_ranged dim r b)) shown.body ∙ stored_fitted dim r shown.display shown.parts shown.rest axes on)
      (λ other. stored_other dim knot e.kind e.body members r (alive e.deleted is) other)
    where
      alive : (t : Bool) → cond t None (hull_in dim knot e.kind e.body members) ≡ Some r → hull_in dim knot e.kind e.body members ≡ Some r
      alive true some = absurd (let x = some in cc)
      alive false some = some

  head_none : (knot : Knot) (n : ℕ) (e : Element) (members h : Option Box3) → tree_hull dim knot e members ≡ h → IsOnAxes dim h
      → finding_as keeps.Differing dim knot n (head_fitted dim knot e h) h ≡ []
  head_none knot n e members None is on = refl
  head_none knot n e members (Some r) is on = same_none dim knot n (head_fitted dim knot e (Some r)) r (fitted_same knot e members r is on)

  -- the first tree of fitted trees, over g in the place of what stands below it
  abbrev first_finding : Knot → ℕ → Element → Option Box3 → Forest Element → List Finding
  first_finding knot n x members g =
      cond x.deleted [] (finding_as keeps.Differing dim knot n x (tree_hull dim knot x members) ++ findings_in keeps.Differing dim (n + 1) g)

  tree_none : (knot : Knot) (n : ℕ) (e : Element) (below g : Forest Element) → hull_of dim g ≡ hull_of dim below
      → (e.deleted ≡ false → findings_in keeps.Differing dim (n + 1) g ≡ [])
      → first_finding knot n (head_fitted dim knot e (tree_hull dim knot e (hull_of dim below))) (hull_of dim g) g ≡ []
  tree_none knot n e below g same none =
      cond_both (head_fitted dim knot e (tree_hull dim knot e (hull_of dim below))).deleted []
      (finding_as keeps.Differing dim knot n (head_fitted dim knot e (tree_hull dim knot e (hull_of dim below)))
      (tree_hull dim knot (head_fitted dim knot e (tree_hull dim knot e (hull_of dim below))) (hull_of dim g)) ++ findings_in keeps.Differing dim (n + 1) g)
      (λ (l : List Finding). l ≡ []) (λ _. refl)
      (λ alive.
      let lives : e.deleted ≡ false = sym (head_deleted dim knot e (tree_hull dim knot e (hull_of dim below))) ∙ alive in
      let hull : tree_hull dim knot (head_fitted dim knot e (tree_hull dim knot e (hull_of dim below))) (hull_of dim g)
      ≡ tree_hull dim knot e (hull_of dim below) =
      head_stays dim knot e (tree_hull dim knot e (hull_of dim below)) (hull_of dim g) ∙ ap (tree_hull dim knot e) same in
      ap (λ (o : Option Box3). finding_as keeps.Differing dim knot n (head_fitted dim knot e (tree_hull dim knot e (hull_of dim below))) o
      ++ findings_in keeps.Differing dim (n + 1) g) hull
      ∙ ap (λ (l : List Finding). l ++ findings_in keeps.Differing dim (n + 1) g)
      (head_none knot n e (hull_of dim below) (tree_hull dim knot e (hull_of dim below)) refl
      (tree_axes dim axes knot e (hull_of dim below) (hull_axes dim axes below)))
      ∙ none lives)

  -- what stands below a head that is marked deleted stays
  abbrev pub below_fitted : Element → Forest Element → Forest Element
  below_fitted e below = cond e.deleted below (fitted dim below)

  below_same : (e : Element) (below : Forest Element) → hull_of dim (below_fitted e below) ≡ hull_of dim below
  below_same e below = cond_both e.deleted below (fitted dim below) (λ (g : Forest Element). hull_of dim g ≡ hull_of dim below) (λ _. refl)
      (λ _. hulls_stay dim below)

  below_count : (e : Element) (below : Forest Element) → length (flat (below_fitted e below)) ≡ length (flat below)
  below_count e below = cond_both e.deleted below (fitted dim below) (λ (g : Forest Element). length (flat g) ≡ length (flat below)) (λ _. refl)
      (λ _. counts_stay dim below)

  -- fitted trees have no findings
  no_findings : (f : Forest Element) (n : ℕ) → findings_in keeps.Differing dim n (fitted dim f) ≡ []
  no_findings NoTree n = refl
  no_findings (Tree knot e below behind) n =
      ap (λ (l : List Finding). l ++ findings_in keeps.Differing dim (end_of n (below_fitted e below)) (fitted dim behind))
      (tree_none knot n e below (below_fitted e below) (below_same e below)
      (λ lives. ap (findings_in keeps.Differing dim (n + 1)) (cond-false e.deleted below (fitted dim below) lives) ∙ no_findings below (n + 1)))
      ∙ no_findings behind (end_of n (below_fitted e below))

  first_none : (knot : Knot) (n : ℕ) (e : Element) (below : Forest Element)
      → first_finding knot n (head_fitted dim knot e (tree_hull dim knot e (hull_of dim below))) (hull_of dim (below_fitted e below)) (below_fitted e below)
      ≡ []
  first_none knot n e below =
      tree_none knot n e below (below_fitted e below) (below_same e below)
      (λ lives. ap (findings_in keeps.Differing dim (n + 1)) (cond-false e.deleted below (fitted dim below) lives) ∙ no_findings below (n + 1))

  -- the trees with the part of element n fitted
  abbrev with_fitted : ℕ → Forest Element → Forest Element
  with_fitted n f = exchange (λ header. header) (fitted dim) n f

  -- their hulls stay, and so does their number
  hulls_kept : (n : ℕ) (f : Forest Element) → hull_of dim (with_fitted n f) ≡ hull_of dim f
  hulls_kept n NoTree = refl
  hulls_kept zero (Tree knot e below behind) =
      ap (λ (o : Option Box3). hull_join (tree_hull dim knot (head_fitted dim knot e (tree_hull dim knot e (hull_of dim below))) o) (hull_of dim behind))
      (below_same e below)
      ∙ ap (λ (o : Option Box3). hull_join o (hull_of dim behind)) (head_stays dim knot e (tree_hull dim knot e (hull_of dim below)) (hull_of dim below))
  hulls_kept (suc n) (Tree knot e below behind) =
      cond_both (nat_lt n (count_in below)) (Tree knot e (with_fitted n below) behind) (Tree knot e below (with_fitted (n - count_in below) behind))
      (λ (g : Forest Element). hull_of dim g ≡ hull_of dim (Tree knot e below behind))
      (λ _. ap (λ (o : Option Box3). hull_join (tree_hull dim knot e o) (hull_of dim behind)) (hulls_kept n below))
      (λ _. ap (hull_join (tree_hull dim knot e (hull_of dim below))) (hulls_kept (n - count_in below) behind))

  counts_kept : (n : ℕ) (f : Forest Element) → length (flat (with_fitted n f)) ≡ length (flat f)
  counts_kept n NoTree = refl
  counts_kept zero (Tree knot e below behind) =
      omega (arith, below_count e below, length-append (flat below) (flat behind), length-append (flat (below_fitted e below)) (flat behind))
  counts_kept (suc n) (Tree knot e below behind) =
      cond_both (nat_lt n (count_in below)) (Tree knot e (with_fitted n below) behind) (Tree knot e below (with_fitted (n - count_in below) behind))
      (λ (g : Forest Element). length (flat g) ≡ length (flat (Tree knot e below behind)))
      (λ _. omega (arith, counts_kept n below, length-append (flat below) (flat behind), length-append (flat (with_fitted n below)) (flat behind)))
      (λ _. omega (
        arith,
        counts_kept (n - count_in below) behind,
        length-append (flat below) (flat behind),
        length-append (flat below) (flat (with_fitted (n - count_in below) behind)),
      ))

-- what is left of a list by a test
filter_both : (test : Finding → Bool) (xs ys : List Finding) → filter test (xs ++ ys) ≡ filter test xs ++ filter test ys
filter_both test [] ys = refl
filter_both test (x ∷ xs) ys = by_test (test x) (filter_both test xs ys)
  where
    by_test : (t : Bool) → filter test (xs ++ ys) ≡ filter test xs ++ filter test ys
        → cond t (x ∷ filter test (xs ++ ys)) (filter test (xs ++ ys)) ≡ cond t (x ∷ filter test xs) (filter test xs) ++ filter test ys
    by_test true rest = ap (λ (l : List Finding). x ∷ l) rest
    by_test false rest = rest

filter_all : (test : Finding → Bool) (xs : List Finding) → AllByRecursion (λ x. test x ≡ true) xs → filter test xs ≡ xs
filter_all test [] each = refl
filter_all test (x ∷ xs) each = cond-true (test x) (x ∷ filter test xs) (filter test xs) each.0 ∙ ap (λ (l : List Finding). x ∷ l) (filter_all test xs each.1)

filter_none : (test : Finding → Bool) (xs : List Finding) → AllByRecursion (λ x. test x ≡ false) xs → filter test xs ≡ []
filter_none test [] each = refl
filter_none test (x ∷ xs) each = cond-false (test x) (x ∷ filter test xs) (filter test xs) each.0 ∙ filter_none test xs each.1

module _ (root end : ℕ) where
  -- whether a number is outside
  abbrev out : ℕ → Bool
  out k = not (nat_le root k && nat_lt k end)

  out_before : (k : ℕ) → k < root → out k ≡ true
  out_before k before = ap not (and_left (nat_le root k) (nat_lt k end) (lt-leb root k before))

  out_after : (k : ℕ) → end ≤ k → out k ≡ true
  out_after k after = ap not (and_right (nat_le root k) (nat_lt k end) (le-ltb k end after))

  in_part : (k : ℕ) → root ≤ k → k < end → out k ≡ false
  in_part k from to = ap not (and_from (nat_le root k) (nat_lt k end) (le-leb root k from) (lt-ltb k end to))

module _ (dim : ℕ) (axes : IsDimension dim) where
  abbrev noted : ℕ → Forest Element → List Finding
  noted k f = findings_in keeps.Differing dim k f

  -- of trees none of whose elements lies in the part all findings are left
  all_out : (root end k : ℕ) (f : Forest Element) → ((m : ℕ) → k ≤ m → m < k + length (flat f) → out root end m ≡ true)
      → filter (is_outside root end) (noted k f) ≡ noted k f
  all_out root end k f each = filter_all (is_outside root end) (noted k f) (finding_each (λ m. out root end m ≡ true) keeps.Differing dim k f each)

  -- a tree, by what is told of its head and of what stands below it
  abbrev headed : Element → List Finding → List Finding → List Finding
  headed e head inner = cond e.deleted [] (head ++ inner)

  filter_headed : (root end : ℕ) (e : Element) (head inner : List Finding) → filter (is_outside root end) head ≡ head
      → filter (is_outside root end) (headed e head inner) ≡ headed e head (filter (is_outside root end) inner)
  filter_headed root end e head inner same = by_deleted e.deleted
    where
      by_deleted : (t : Bool) → filter (is_outside root end) (cond t [] (head ++ inner)) ≡ cond t [] (head ++ filter (is_outside root end) inner)
      by_deleted true = refl
      by_deleted false = filter_both (is_outside root end) head inner ∙ ap (λ (l : List Finding). l ++ filter (is_outside root end) inner) same

  head_out : (root end k : ℕ) (knot : Knot) (e : Element) (h : Option Box3) → out root end k ≡ true
      → filter (is_outside root end) (finding_as keeps.Differing dim knot k e h) ≡ finding_as keeps.Differing dim knot k e h
  head_out root end k knot e None is = refl
  head_out root end k knot e (Some r) is = by_kept (is_kept keeps.Differing dim knot e r)
    where
      by_kept : (t : Bool) → filter (is_outside root end) (cond t (finding_of dim k e r ∷ []) []) ≡ cond t (finding_of dim k e r ∷ []) []
      by_kept true = cond-true (out root end k) (finding_of dim k e r ∷ []) [] is
      by_kept false = refl

  -- what is told where the part of element n is fitted
  pub findings_left : (n k root end : ℕ) (f : Forest Element) → n < length (flat f) → root ≡ k + n → end ≡ root + count_in (tree_at n f)
      → noted k (with_fitted dim axes n f) ≡ filter (is_outside root end) (noted k f)
  findings_left n k root end NoTree known at to = absurd (omega (arith, known))
  findings_left zero k root end (Tree knot e below behind) known at to =
      let size : length (flat below ++ []) ≡ length (flat below) = ap (length {A = Element}) (append-nil (flat below)) in
      let ends : end ≡ end_of k below = omega (arith, at, to, size) in
      let gone : filter (is_outside root end)
      (headed e (finding_as keeps.Differing dim knot k e (tree_hull dim knot e (hull_of dim below))) (noted (k + 1) below)) ≡ [] =
      ap (filter (is_outside root end))
      (sym (append-nil (headed e (finding_as keeps.Differing dim knot k e (tree_hull dim knot e (hull_of dim below))) (noted (k + 1) below))))
      ∙ filter_none (is_outside root end) (noted k (Tree knot e below NoTree))
      (finding_each (λ m. out root end m ≡ false) keeps.Differing dim k (Tree knot e below NoTree)
      (λ m from below_end. in_part root end m (omega (arith, from, at)) (omega (arith, below_end, ends, size)))) in
      let kept : filter (is_outside root end) (noted (end_of k below) behind) ≡ noted (end_of k below) behind =
      all_out root end (end_of k below) behind (λ m from below_end. out_after root end m (omega (arith, from, ends))) in
      let number : end_of k (below_fitted dim axes e below) ≡ end_of k below = omega (arith, below_count dim axes e below) in
      ap (λ (l : List Finding). l ++ noted (end_of k (below_fitted dim axes e below)) behind) (first_none dim axes knot k e below)
      ∙ ap (λ (m : ℕ). noted m behind) number
      ∙ sym kept
      ∙ ap (λ (l : List Finding). l ++ filter (is_outside root end) (noted (end_of k below) behind)) (sym gone)
      ∙ sym (filter_both (is_outside root end)
      (headed e (finding_as keeps.Differing dim knot k e (tree_hull dim knot e (hull_of dim below))) (noted (k + 1) below)) (noted (end_of k below) behind))
  findings_left (suc n) k root end (Tree knot e below behind) known at to =
      elim (cases_Bool (nat_lt n (count_in below))) [
        | inl within ↦
            let early : n < length (flat below) = ltb-true n (length (flat below)) within in
            let tree : tree_at (suc n) (Tree knot e below behind) ≡ tree_at n below =
            cond-true (nat_lt n (count_in below)) (tree_at n below) (tree_at (n - count_in below) behind) within in
            let ends : end ≡ root + count_in (tree_at n below) = to ∙ ap (λ (g : Forest Element). root + count_in g) tree in
            let inner = findings_left n (k + 1) root end below early (omega (arith, at)) ends in
            let inside : end ≤ end_of k below = omega (arith, ends, at, part_long n below early) in
            let number : end_of k (with_fitted dim axes n below) ≡ end_of k below = omega (arith, counts_kept dim axes n below) in
            ap (noted k) (cond-true (nat_lt n (count_in below)) (Tree knot e (with_fitted dim axes n below) behind)
            (Tree knot e below (with_fitted dim axes (n - count_in below) behind)) within)
            ∙ ap (λ (o : Option Box3). headed e (finding_as keeps.Differing dim knot k e (tree_hull dim knot e o))
            (noted (k + 1) (with_fitted dim axes n below)) ++ noted (end_of k (with_fitted dim axes n below)) behind) (hulls_kept dim axes n below)
            ∙ ap (λ (m : ℕ). headed e (finding_as keeps.Differing dim knot k e (tree_hull dim knot e (hull_of dim below)))
            (noted (k + 1) (with_fitted dim axes n below)) ++ noted m behind) number
            ∙ ap (λ (l : List Finding). headed e (finding_as keeps.Differing dim knot k e (tree_hull dim knot e (hull_of dim below))) l
            ++ noted (end_of k below) behind) inner
            ∙ ap (λ (l : List Finding). l ++ noted (end_of k below) behind)
            (sym (filter_headed root end e (finding_as keeps.Differing dim knot k e (tree_hull dim knot e (hull_of dim below))) (noted (k + 1) below)
            (head_out root end k knot e (tree_hull dim knot e (hull_of dim below)) (out_before root end k (omega (arith, at))))))
            ∙ ap (λ (l : List Finding). filter (is_outside root end)
            (headed e (finding_as keeps.Differing dim knot k e (tree_hull dim knot e (hull_of dim below))) (noted (k + 1) below)) ++ l)
            (sym (all_out root end (end_of k below) behind (λ m from below_end. out_after root end m (omega (arith, from, inside)))))
            ∙ sym (filter_both (is_outside root end)
            (headed e (finding_as keeps.Differing dim knot k e (tree_hull dim knot e (hull_of dim below))) (noted (k + 1) below))
            (noted (end_of k below) behind))
        | inr past ↦
            let late : length (flat below) ≤ n = ltb-false n (length (flat below)) past in
            let tree : tree_at (suc n) (Tree knot e below behind) ≡ tree_at (n - count_in below) behind =
            cond-false (nat_lt n (count_in below)) (tree_at n below) (tree_at (n - count_in below) behind) past in
            let ends : end ≡ root + count_in (tree_at (n - count_in below) behind) = to ∙ ap (λ (g : Forest Element). root + count_in g) tree in
            let outer = findings_left (n - count_in below) (end_of k below) root end behind
            (omega (arith, known, late, length-append (flat below) (flat behind))) (omega (arith, at, late)) ends in
            ap (noted k) (cond-false (nat_lt n (count_in below)) (Tree knot e (with_fitted dim axes n below) behind)
            (Tree knot e below (with_fitted dim axes (n - count_in below) behind)) past)
            ∙ ap (λ (l : List Finding). headed e (finding_as keeps.Differing dim knot k e (tree_hull dim knot e (hull_of dim below))) (noted (k + 1) below)
            ++ l) outer
            ∙ ap (λ (l : List Finding). l ++ filter (is_outside root end) (noted (end_of k below) behind))
            (sym (filter_headed root end e (finding_as keeps.Differing dim knot k e (tree_hull dim knot e (hull_of dim below))) (noted (k + 1) below)
            (head_out root end k knot e (tree_hull dim knot e (hull_of dim below)) (out_before root end k (omega (arith, at))))
            ∙ ap (headed e (finding_as keeps.Differing dim knot k e (tree_hull dim knot e (hull_of dim below))))
            (all_out root end (k + 1) below (λ m from below_end. out_before root end m (omega (arith, below_end, at, late))))))
            ∙ sym (filter_both (is_outside root end)
            (headed e (finding_as keeps.Differing dim knot k e (tree_hull dim knot e (hull_of dim below))) (noted (k + 1) below))
            (noted (end_of k below) behind))
      ]
    where
      -- a part ends where its trees do, or before
      part_long : (n : ℕ) (f : Forest Element) → n < length (flat f) → n + count_in (tree_at n f) ≤ length (flat f)
      part_long n NoTree known = absurd (omega (arith, known))
      part_long zero (Tree knot e below behind) known =
          let size : length (flat below ++ []) ≡ length (flat below) = ap (length {A = Element}) (append-nil (flat below)) in
          omega (arith, size, length-append (flat below) (flat behind))
      part_long (suc n) (Tree knot e below behind) known =
          cond_both (nat_lt n (count_in below)) (tree_at n below) (tree_at (n - count_in below) behind)
          (λ (g : Forest Element). suc n + count_in g ≤ length (flat (Tree knot e below behind)))
          (λ is. omega (arith, part_long n below (ltb-true n (length (flat below)) is), length-append (flat below) (flat behind)))
          (λ is. let late : length (flat below) ≤ n = ltb-false n (length (flat below)) is in
          omega (
            arith,
            late,
            part_long (n - count_in below) behind (omega (arith, known, late, length-append (flat below) (flat behind))),
            length-append (flat below) (flat behind),
          ))

-- the end of a span
span_end : (es : List Element) (n end : ℕ) (m : Mark) → mark_of row_of es n ≡ Some m → span_of row_of es n ≡ Some (n, end) → end ≡ m.end
span_end es n end m marked is =
    ap (λ (x : ℕ × ℕ). x.1) (mark_part (λ (x : Mark). (n, x.end)) m (mark_of row_of es n) (n, end) (sym is) marked)

-- a fit ends the findings of its tree, and leaves all others
pub ends_findings : FitsEndFindings
ends_findings f dim es t n made root end opens done at spanned =
    let is = done_at dim es n made done in
    let same : is.root ≡ root = (let one = is.at in let two = at in cc) in
    let known : root < length es = subst (λ (k : ℕ). k < length es) same is.known in
    let axes : IsDimension dim = axes_of f dim es t opens root known in
    let made_is : made ≡ flat (fitted_forest dim es root) = is.is ∙ ap (λ (k : ℕ). flat (fitted_forest dim es k)) same in
    let tree = part_tree dim es root known in
    let size : length (flat tree.below ++ []) ≡ length (flat tree.below) = ap (length {A = Element}) (append-nil (flat tree.below)) in
    let count : count_in (tree_at root (forest row_of es)) ≡ suc (length (flat tree.below ++ [])) = ap count_in tree.tree in
    let ends : end ≡ end_of root tree.below =
    span_end es root end (part_mark dim es root known) (part_marked dim es root known) spanned ∙ part_end dim es root known in
    ap (λ (l : List Element). findings_in keeps.Differing dim 0 (forest row_of l)) made_is
    ∙ ap (findings_in keeps.Differing dim 0) (made_nested f dim es t opens root known)
    ∙ findings_left dim axes root 0 root end (forest row_of es) (omega (arith, known, ap (length {A = Element}) (flat-forest row_of es))) (omega arith)
    (omega (arith, ends, count, size))
