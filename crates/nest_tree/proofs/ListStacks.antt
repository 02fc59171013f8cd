-- The lists that are being read, each in the next: reading goes on in the innermost one, a list that has ended
-- is left, and that of the elements below the one that was read is entered.
use Rattle.std.proofs.Common.{◌≡◌, ℕ, ◌+◌, ◌-◌, ◌≤◌, ◌<◌, List, [], ◌∷◌, ◌++◌, length, take, drop, map, get_or, refl, sym, ap, ◌∙◌, subst, arith, false}
use Rattle.std.specs.Prelude.{Option, Some, None, IfSome, option_map, slice_get}
use Rattle.std.proofs.lemmas.List.{drop_more, length-drop, length-take, length-map, get_or-map, length-append, take_more}
use Rattle.std.proofs.lemmas.Option.{slice_get-get_or, slice_get-map}
use Rattle.dgn_layout.specs.Classes.{class_of}
use Rattle.dgn_drawing.specs.declared.row.Row.{Row}
use Rattle.dgn_drawing.specs.Nesting.{leaf, shape, member_count, front_count, is_spline_part, has_bit, itself, nest, forest, flat, Forest, Tree, NoTree}
use Rattle.dgn_drawing.specs.Numbering.{Mark, end_of, marks}
use Rattle.nest_tree.specs.declared.knot.Knot.{Knot}
use Rattle.nest_tree.specs.NestEntries.{NestEntry}
use Rattle.nest_tree.specs.declared.shape.Scope.{Scope}
use Rattle.nest_tree.specs.declared.shape.Shape as code
use Rattle.nest_tree.specs.declared.open_list.OpenList.{OpenList}
use Rattle.nest_tree.specs.Shapes.{code_knot, defined_scope, code_shape, rows_between, shape_in}
use Rattle.nest_tree.specs.Places.{marks_in, entry_of, parent_in, depth_in, knot_in, kind_in, scope_below, list_in, list_around, resume, IsInside, IsStack}
use Rattle.nest_tree.specs.Places.{Going}
use Rattle.dgn_drawing.specs.Nesting.{is_header}
use Rattle.nest_tree.proofs.NestingSteps.{nest_nil, count_within, flat-forest}
use Rattle.nest_tree.proofs.LeafShapes.{leaf_shape}
use Rattle.nest_tree.specs.Sources.{no_row}
use Rattle.nest_tree.proofs.MemberBytes.{between_cons}
use Rattle.nest_tree.proofs.ListEntry.{at_place, below_cases, mark_here, list_here, enters}

-- each element has a mark
pub length-marks : {A : Type 0} (f : Forest A) (n depth : ℕ) (parent : Option ℕ) → length (marks f n depth parent) ≡ length (flat f)
length-marks NoTree n depth parent = refl
length-marks (Tree knot h below behind) n depth parent =
    omega (
      arith,
      length-marks below (n + 1) (depth + 1) (Some n),
      length-marks behind (end_of n below) depth parent,
      length-append (marks below (n + 1) (depth + 1) (Some n)) (marks behind (end_of n below) depth parent),
      length-append (flat below) (flat behind),
    )

pub length-marks_in : (rows : List Row) → length (marks_in rows) ≡ length rows
unfolding marks_in
length-marks_in rows = length-marks (forest itself rows) 0 0 None ∙ ap (length {A = Row}) (flat-forest itself rows)

-- a list of the stack is what its header and its depth say
as_said : (rows : List Row) (at : ℕ) (f : OpenList) (fs : List OpenList) → IsStack rows at f fs → f ≡ list_in rows f.parent f.depth
as_said rows at f [] is = is ∙ ap (λ (x : OpenList). list_in rows x.parent x.depth) (sym is)
as_said rows at f (g ∷ gs) is = is.0.list ∙ ap (λ (x : OpenList). list_in rows x.parent x.depth) (sym is.0.list)

within_rows : (rows : List Row) (at : ℕ) (f : OpenList) (fs : List OpenList) → IsStack rows at f fs → f.end ≤ length rows
within_rows rows at f [] is = let e = ap (λ (x : OpenList). x.end) is in omega arith
within_rows rows at f (g ∷ gs) is = is.0.ends

not_deep : (rows : List Row) (at : ℕ) (f : OpenList) (fs : List OpenList) → IsStack rows at f fs → f.depth ≤ at
not_deep rows at f [] is = let e = ap (λ (x : OpenList). x.depth) is in omega arith
not_deep rows at f (g ∷ gs) is = is.0.deep

-- one element on, the lists stand as they stood
stands_on : (rows : List Row) (at : ℕ) (f : OpenList) (fs : List OpenList) → IsStack rows at f fs → IsStack rows (at + 1) f fs
stands_on rows at f [] is = is
stands_on rows at f (g ∷ gs) is =
    let before = is.0.before in
    let deep = is.0.deep in (
      record { header = is.0.header; before = omega arith; list = is.0.list; around = is.0.around; ends = is.0.ends; deep = omega arith },
      stands_on rows at g gs is.1,
    )

pub going_ends : (rows : List Row) (at : ℕ) (f : OpenList) → Going rows at f → f.end ≤ length rows
going_ends rows at f going = within_rows rows at f going.stack going.stands

pub going_deep : (rows : List Row) (at : ℕ) (f : OpenList) → Going rows at f → f.depth ≤ at
going_deep rows at f going = not_deep rows at f going.stack going.stands

-- a list of which nothing is left has no marks
skipped : (f : OpenList) (fs : List OpenList) (at : ℕ) (l : List Row) → f.end ≤ at → resume (f ∷ fs) at l ≡ resume fs at l
skipped f fs at l past =
    let none : f.end - at ≡ 0 = omega arith in
    ap (λ (k : ℕ). marks (nest itself (defined_scope f.scope) (take k l)) at f.depth f.parent ++ resume fs (at + k) (drop k l)) none
    ∙ ap (λ (t : Forest Row). marks t at f.depth f.parent ++ resume fs (at + 0) l) (nest_nil itself (defined_scope f.scope))
    ∙ (let e : at + 0 ≡ at = omega arith in ap (λ (k : ℕ). resume fs k l) e)

-- a list that has ended is one below a header, and reading goes on in the list around it
pub record Leaves (rows : List Row) (at : ℕ) (f : OpenList) (n : ℕ) : Type 0 where
  pub before : n < at
  pub above : IfSome (parent_in rows n) (λ p. p < at)
  pub around : Going rows at (list_around rows n)
  pub shallow : (list_around rows n).depth < f.depth

pub header_of : (rows : List Row) (at : ℕ) (g : OpenList) (gs : List OpenList) → IsStack rows at g gs → IfSome g.parent (λ p. p < at)
header_of rows at g [] is = subst (λ (o : Option ℕ). IfSome o (λ p. p < at)) (sym (ap (λ (x : OpenList). x.parent) is)) tt
header_of rows at g (k ∷ gs) is = subst (λ (o : Option ℕ). IfSome o (λ p. p < at)) (sym (ap (λ (x : OpenList). x.parent) is.0.list)) is.0.before

list_in-parent : (rows : List Row) (o : Option ℕ) (depth : ℕ) → (list_in rows o depth).parent ≡ o
list_in-parent rows None depth = refl
list_in-parent rows (Some p) depth = refl

same_header : (a b : ℕ) (o : Option ℕ) → o ≡ Some a → o ≡ Some b → a ≡ b
same_header a b o p q = cc

leaves_inside : (rows : List Row) (at : ℕ) (f g : OpenList) (gs : List OpenList) (n : ℕ) → at < length rows → f.end ≤ at → IsInside rows at g f
    → IsStack rows at g gs
    → drop at (marks_in rows) ≡ resume (f ∷ (g ∷ gs)) at (drop at rows) → f.parent ≡ Some n → Leaves rows at f n
leaves_inside rows at f g gs n within past inside stands left is =
    let same : inside.header ≡ n = same_header inside.header n f.parent (ap (λ (x : OpenList). x.parent) inside.list) is in
    let around : g ≡ list_around rows n = inside.around ∙ ap (list_around rows) same in
    let parent : g.parent ≡ parent_in rows n = ap (λ (x : OpenList). x.parent) around ∙ list_in-parent rows (parent_in rows n) (depth_in rows n) in
    let before = inside.before in
    let deeper : f.depth ≡ g.depth + 1 = ap (λ (x : OpenList). x.depth) inside.list in
    let onward : Going rows at g = record { stack = gs; stands = stands; left = left ∙ skipped f (g ∷ gs) at (drop at rows) past } in
    record {
      before = omega arith;
      above = subst (λ (o : Option ℕ). IfSome o (λ p. p < at)) parent (header_of rows at g gs stands);
      around = subst (Going rows at) around onward;
      shallow = subst (λ (x : OpenList). x.depth < f.depth) around (omega arith);
    }

pub leaves : (rows : List Row) (at : ℕ) (f : OpenList) (n : ℕ) → at < length rows → f.end ≤ at → Going rows at f → f.parent ≡ Some n → Leaves rows at f n
leaves rows at f n within past going is = go going.stack going.stands going.left
  where
    go : (fs : List OpenList) → IsStack rows at f fs → drop at (marks_in rows) ≡ resume (f ∷ fs) at (drop at rows) → Leaves rows at f n
    go [] stands left = absurd (let e = ap (λ (x : OpenList). x.end) stands in omega arith)
    go (g ∷ gs) stands left = leaves_inside rows at f g gs n within past stands.0 stands.1 left is

pub never_ends : (rows : List Row) (at : ℕ) (f : OpenList) → at < length rows → f.end ≤ at → Going rows at f → f.parent ≡ None → ⊥
never_ends rows at f within past going is = go going.stack going.stands
  where
    go : (fs : List OpenList) → IsStack rows at f fs → ⊥
    go [] stands = absurd (let e = ap (λ (x : OpenList). x.end) stands in omega arith)
    go (g ∷ gs) stands = absurd (let e : f.parent ≡ Some stands.0.header = ap (λ (x : OpenList). x.parent) stands.0.list in cc)

-- one element is read
module _ (rows : List Row) (at : ℕ) (f : OpenList) (going : Going rows at f) (inside : at < f.end) where
  ends : f.end ≤ length rows
  ends = going_ends rows at f going

  abbrev pub h : Row
  h = get_or rows at no_row

  abbrev pub r : List Row
  r = drop (at + 1) rows

  abbrev pub mark_read : Mark
  mark_read = mark_here f going.stack at h r inside

  abbrev pub list_read : OpenList
  list_read = list_here f going.stack at h r inside

  rows_left : drop at rows ≡ h ∷ r
  rows_left = let e = ends in drop_more rows at no_row (omega arith)

  left_one : drop at (marks_in rows) ≡ mark_read ∷ resume (list_read ∷ (f ∷ going.stack)) (at + 1) r
  left_one =
      let e = ends in
      going.left ∙ ap (resume (f ∷ going.stack) at) rows_left ∙ enters f going.stack at h r inside (omega (arith, length-drop (at + 1) rows))

  marks_more : drop (at + 1) (marks_in rows) ≡ resume (list_read ∷ (f ∷ going.stack)) (at + 1) r
  marks_more =
      let e = ends in
      let long = length-marks_in rows in
      let split = drop_more (marks_in rows) at mark_read (omega arith) in
      let both = sym split ∙ left_one in
      cc

  pub mark_is : {B : Type 0} (g : Mark → B) (e : B) → get_or (map g (marks_in rows)) at e ≡ g mark_read
  mark_is g e = at_place g e at (marks_in rows) mark_read _ left_one

  pub take_marks : take (at + 1) (marks_in rows) ≡ take at (marks_in rows) ++ mark_read ∷ []
  take_marks =
      let e = ends in
      let long = length-marks_in rows in
      let split = drop_more (marks_in rows) at mark_read (omega arith) in
      let both = sym split ∙ left_one in
      let same : get_or (marks_in rows) at mark_read ≡ mark_read = cc in
      take_more (marks_in rows) at mark_read (omega arith) ∙ ap (λ (m : Mark). take at (marks_in rows) ++ m ∷ []) same

  pub count_read : mark_read.end ≤ f.end
  count_read =
      let most = count_within itself (defined_scope f.scope) h (take (f.end - at - 1) r) in
      omega (arith, length-take (f.end - at - 1) r)

  -- the shape that the code finds is that of the definition
  shape_is : shape_in f.scope (rows_between rows at f.end) ≡ shape itself (defined_scope f.scope) h (take (f.end - at - 1) r)
  shape_is = let e = ends in ap (shape_in f.scope) (between_cons rows at f.end no_row inside (omega arith))

  -- one of a type that heads nothing is a leaf
  pub leaf_read : (row : Row) → Some row ≡ slice_get rows at → is_header (class_of row.kind) ≡ false
      → code_shape leaf ≡ code_shape (shape_in f.scope (rows_between rows at f.end))
  leaf_read row here none =
      let e = ends in
      let found : Some row ≡ Some h = here ∙ slice_get-get_or rows at no_row (omega arith) in
      let same : row ≡ h = cc in
      ap code_shape (sym (shape_is ∙ leaf_shape (defined_scope f.scope) h (take (f.end - at - 1) r)
      (subst (λ (x : Row). is_header (class_of x.kind) ≡ false) same none)))

  module _ (s : code.Shape) (is : s ≡ code_shape (shape_in f.scope (rows_between rows at f.end))) where
    said : s ≡ code_shape (shape itself (defined_scope f.scope) h (take (f.end - at - 1) r))
    said = is ∙ ap code_shape shape_is

    pub end_read : mark_read.end ≡ at + 1 + s.count
    end_read = sym (ap (λ (x : code.Shape). at + 1 + x.count) said)

    pub end_fits : length rows < 4294967295 → at + 1 + s.count < 4294967295
    end_fits few =
        let e = ends in
        let most = count_read in
        omega (arith, end_read)

    pub entry_read : entry_of mark_read ≡ record { parent = f.parent; depth = f.depth; knot = s.knot }
    entry_read = sym (ap (λ (x : code.Shape). record { parent = f.parent; depth = f.depth; knot = x.knot }) said)

    pub known_entry : Some (record { parent = f.parent; depth = f.depth; knot = s.knot }) ≡ option_map entry_of (slice_get (marks_in rows) at)
    known_entry =
        let e = ends in
        let long = length-marks_in rows in
        let found = slice_get-get_or (map entry_of (marks_in rows)) at (entry_of mark_read) (omega (arith, length-map (marks_in rows) entry_of)) in
        sym (sym (slice_get-map entry_of (marks_in rows) at) ∙ found ∙ ap (λ (l : NestEntry). Some l) (mark_is entry_of (entry_of mark_read) ∙ entry_read))

    list_said : list_read ≡ record { scope = s.inside; end = at + 1 + s.count; depth = f.depth + 1; parent = Some at }
    list_said = sym (ap (λ (x : code.Shape). record { scope = x.inside; end = at + 1 + x.count; depth = f.depth + 1; parent = Some at }) said)

    list_below : list_read ≡ list_in rows (Some at) (f.depth + 1)
    list_below =
        let e = ends in
        let knot = mark_is (λ (m : Mark). code_knot m.knot) Knot.Leaf in
        let kind : kind_in rows at ≡ h.kind = get_or-map (λ (x : Row). x.kind) rows at no_row 0 (omega arith) in
        let scope = below_cases (defined_scope f.scope) h (member_count itself h (take (f.end - at - 1) r))
        (front_count is_spline_part (take (f.end - at - 1) r)) (front_count has_bit (take (f.end - at - 1) r)) in
        let end = mark_is (λ (m : Mark). m.end) 0 in
        ap (λ (c : Scope). record { scope = c; end = mark_read.end; depth = f.depth + 1; parent = Some at })
        (scope ∙ ap (λ (k : Knot). scope_below k h.kind) (sym knot) ∙ ap (scope_below (knot_in rows at)) (sym kind))
        ∙ ap (λ (n : ℕ). record { scope = scope_below (knot_in rows at) (kind_in rows at); end = n; depth = f.depth + 1; parent = Some at }) (sym end)

    stands_around : f ≡ list_around rows at
    stands_around =
        as_said rows at f going.stack going.stands
        ∙ ap (λ (o : Option ℕ). list_in rows o f.depth) (sym (mark_is (λ (m : Mark). m.parent) None))
        ∙ ap (list_in rows (parent_in rows at)) (sym (mark_is (λ (m : Mark). m.depth) 0))

    pub going_on : Going rows (at + 1) (record { scope = s.inside; end = at + 1 + s.count; depth = f.depth + 1; parent = Some at })
    going_on =
        let e = ends in
        let most = count_read in
        let deep = going_deep rows at f going in
        let entered : Going rows (at + 1) list_read = record {
          stack = f ∷ going.stack;
          stands = (
            record { header = at; before = omega arith; list = list_below; around = stands_around; ends = omega arith; deep = omega arith },
            stands_on rows at f going.stack going.stands,
          );
          left = marks_more;
        } in
        subst (Going rows (at + 1)) list_said entered

    -- where it has nothing below it, reading goes on in the list that it stands in
    pub going_past : s.count ≡ 0 → Going rows (at + 1) f
    going_past none = record {
      stack = going.stack;
      stands = stands_on rows at f going.stack going.stands;
      left = marks_more ∙ skipped list_read (f ∷ going.stack) (at + 1) r (let e = end_read in omega arith);
    }
