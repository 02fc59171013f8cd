-- The tree of one element, where it stands; and what holds of the fitted elements of trees.
use Rattle.std.proofs.Common.{◌≡◌, ℕ, zero, suc, ◌+◌, ◌-◌, ◌<◌, ◌≤◌, List, [], ◌∷◌, ◌++◌, length, take, drop, Option, Some, None, Bool, true, false, cond}
use Rattle.std.proofs.Common.{refl, sym, ap, ◌∙◌, subst, arith, append_assoc, length-append, inl, inr}
use Rattle.std.specs.Prelude.{◌==◌, ◌&&◌, nat_lt, slice_get, option_map, unwrap_or, IfSome}
use Rattle.std.specs.List.{AllByRecursion}
use Rattle.std.proofs.lemmas.List.{append-nil, length-drop}
use Rattle.std.proofs.lemmas.Bool.{cond-true, cond-false, cond_both, cases_Bool, ltb-true, ltb-false}
use Rattle.range_code.specs.declared.Box3.{Box3}
use Rattle.dgn_layout.specs.declared.types.Class.{Class}
use Rattle.dgn_layout.specs.Classes.{class_of, is_among}
use Rattle.dgn_layout.specs.Spots.{has_spots}
use Rattle.dgn_drawing.specs.declared.row.Row.{Row}
use Rattle.dgn_drawing.specs.Element.{Element}
use Rattle.dgn_drawing.specs.Rows.{row_of}
use Rattle.dgn_drawing.specs.Nesting.{Scope, Whole, Knot, Leaf, Group, Run, Loose, is_parts, is_all, is_counted, member_count, group_or_loose, Shape, shape}
use Rattle.dgn_drawing.specs.Nesting.{Forest, NoTree, Tree, nest_within, flat, forest}
use Rattle.dgn_drawing.specs.Numbering.{Mark, end_of, marks, mark_of, headers_in, headers_of, first_or, root_of}
use Rattle.nest_tree.proofs.GrownNestings.{all_both}
use Rattle.nest_tree.proofs.NestingSteps.{flat-forest}
use Rattle.level_view.proofs.ItemsBack.{Stands, head_marked, head_listed, below_stands, behind_stands, all_stand}
use Rattle.edit_ops.specs.Trees.{count_in, tree_at}
use Rattle.dgn_audit.specs.declared.reported.Reported.{Reported}
use Rattle.dgn_audit.specs.declared.reported.Reported.TheVariants as keeps
use Rattle.dgn_audit.specs.Hulls.{tree_hull, hull_of}
use Rattle.dgn_audit.specs.Findings.{is_fitted, finding_of, finding_as, findings_in, findings_of, fitted_in}
use Rattle.dgn_audit.proofs.ReadBack.{read_back}
use Rattle.dgn_audit.specs.Planned.{IsSpotted}
use Rattle.dgn_audit.specs.NestedElements.{bounds_of}
use Rattle.dgn_audit.proofs.ElementHulls.{row_spotted}
use Rattle.dgn_audit.proofs.HeaderBoxes.{IsBefore, before_on}
use Rattle.dgn_audit.proofs.TreeHulls.{all_read, part_read}

-- the head of a group is counted
abbrev pub IsCountedAs : Knot → ℕ → Type 0
IsCountedAs Leaf kind = Unit {0}
IsCountedAs Group kind = is_counted (class_of kind) ≡ true
IsCountedAs Run kind = Unit {0}
IsCountedAs Loose kind = Unit {0}

-- each head of a group is
abbrev pub AreCounted : {A : Type 0} → (A → Row) → Forest A → Type 0
AreCounted row NoTree = Unit {0}
AreCounted row (Tree knot h below behind) = IsCountedAs knot (row h).kind × AreCounted row below × AreCounted row behind

module _ {A : Type 0} (row : A → Row) where
  group_counted : (kind : ℕ) (members : Option ℕ) → is_counted (class_of kind) ≡ true → IsCountedAs (group_or_loose members).knot kind
  group_counted kind None is = tt
  group_counted kind (Some k) is = is

  head_counted : (scope : Scope) (h : A) (r : List A) → IsCountedAs (shape row scope h r).knot (row h).kind
  head_counted scope h r =
      cond_both (is_parts scope) _ _ (λ (s : Shape). IsCountedAs s.knot (row h).kind) (λ _. tt) (λ _.
      cond_both (is_counted (class_of (row h).kind)) _ _ (λ (s : Shape). IsCountedAs s.knot (row h).kind)
      (λ is. group_counted (row h).kind (member_count row (row h) r) is) (λ _.
      cond_both (is_among (row h).kind (24 ∷ 27 ∷ [])) _ _ (λ (s : Shape). IsCountedAs s.knot (row h).kind) (λ _. tt) (λ _.
      cond_both ((row h).kind == 34 && is_all scope) _ _ (λ (s : Shape). IsCountedAs s.knot (row h).kind) (λ _. tt) (λ _. tt))))

  within_counted : (n : ℕ) (scope : Scope) (l : List A) → AreCounted row (nest_within row n scope l)
  unfolding nest_within
  within_counted zero scope l = tt
  within_counted (suc n) scope [] = tt
  within_counted (suc n) scope (h ∷ r) = (
    head_counted scope h r,
    within_counted n (shape row scope h r).inside (take (shape row scope h r).count r),
    within_counted n scope (drop (shape row scope h r).count r),
  )

  pub forest_counted : (es : List A) → AreCounted row (forest row es)
  forest_counted [] = tt
  forest_counted (e ∷ es) = (tt, tt, within_counted (length es) Whole es)

-- a counted class has spots
counted_spotted : (c : Class) → is_counted c ≡ true → has_spots c ≡ true
counted_spotted Class.Counted is = refl
counted_spotted Class.Vertices is = refl
counted_spotted Class.Words is = refl
counted_spotted Class.Run is = absurd (let x = is in cc)
counted_spotted Class.Floating is = absurd (let x = is in cc)
counted_spotted Class.Boxed is = absurd (let x = is in cc)
counted_spotted Class.Silent is = absurd (let x = is in cc)

-- and so have fitted elements
pub fitted_spotted : (knot : Knot) (kind : ℕ) → IsCountedAs knot kind → is_fitted knot kind ≡ true → has_spots (class_of kind) ≡ true
fitted_spotted Leaf kind counted is = row_spotted (class_of kind) is
fitted_spotted Group kind counted is = counted_spotted (class_of kind) counted
fitted_spotted Run kind counted is = absurd (let x = is in cc)
fitted_spotted Loose kind counted is = absurd (let x = is in cc)

-- a first tree alone stands where it does
first_stands : (es : List Element) (knot : Knot) (h : Element) (below behind : Forest Element) (n depth : ℕ) (parent : Option ℕ)
    → Stands es (Tree knot h below behind) n depth parent → Stands es (Tree knot h below NoTree) n depth parent
first_stands es knot h below behind n depth parent stands =
    let mark : Mark = record { knot = knot; depth = depth; parent = parent; end = end_of n below } in
    record {
      marks_behind = marks behind (end_of n below) depth parent ++ stands.marks_behind;
      behind = flat behind ++ stands.behind;
      marked = stands.marked
          ∙ ap (λ (l : List Mark). mark ∷ l)
          (append_assoc (marks below (n + 1) (depth + 1) (Some n)) (marks behind (end_of n below) depth parent) stands.marks_behind
          ∙ ap (λ (l : List Mark). l ++ (marks behind (end_of n below) depth parent ++ stands.marks_behind))
          (sym (append-nil (marks below (n + 1) (depth + 1) (Some n)))));
      listed = stands.listed
          ∙ ap (λ (l : List Element). h ∷ l) (append_assoc (flat below) (flat behind) stands.behind
          ∙ ap (λ (l : List Element). l ++ (flat behind ++ stands.behind)) (sym (append-nil (flat below))));
    }

-- the tree of element n
pub record IsRooted (es : List Element) (n k : ℕ) (f : Forest Element) : Type 0 where
  pub knot : Knot
  pub head : Element
  pub below : Forest Element
  pub depth : ℕ
  pub parent : Option ℕ
  pub tree : tree_at k f ≡ Tree knot head below NoTree
  pub stands : Stands es (Tree knot head below NoTree) n depth parent
  pub before : IsBefore n parent
  pub counted : AreCounted row_of (Tree knot head below NoTree)

find_tree : (es : List Element) (f : Forest Element) (k first depth n : ℕ) (parent : Option ℕ) → n ≡ first + k → Stands es f first depth parent
    → IsBefore first parent → AreCounted row_of f → k < length (flat f) → IsRooted es n k f
find_tree es NoTree k first depth n parent is stands before counted known = absurd (omega (arith, known))
find_tree es (Tree knot h below behind) zero first depth n parent is stands before counted known =
    let here : first ≡ n = omega arith in
    record {
      knot = knot;
      head = h;
      below = below;
      depth = depth;
      parent = parent;
      tree = refl;
      stands = subst (λ (m : ℕ). Stands es (Tree knot h below NoTree) m depth parent) here (first_stands es knot h below behind first depth parent stands);
      before = subst (λ (m : ℕ). IsBefore m parent) here before;
      counted = (counted.0, counted.1, tt);
    }
find_tree es (Tree knot h below behind) (suc k) first depth n parent is stands before counted known =
    elim (cases_Bool (nat_lt k (count_in below))) [
      | inl within ↦
          let early : k < length (flat below) = ltb-true k (length (flat below)) within in
          let t = find_tree es below k (first + 1) (depth + 1) n (Some first) (omega arith) (below_stands es knot h below behind first depth parent stands)
          (omega arith) counted.1 early in
          record {
            knot = t.knot;
            head = t.head;
            below = t.below;
            depth = t.depth;
            parent = t.parent;
            tree = cond-true (nat_lt k (count_in below)) (tree_at k below) (tree_at (k - count_in below) behind) within ∙ t.tree;
            stands = t.stands;
            before = t.before;
            counted = t.counted;
          }
      | inr past ↦
          let late : length (flat below) ≤ k = ltb-false k (length (flat below)) past in
          let t = find_tree es behind (k - count_in below) (end_of first below) depth n parent (omega arith)
          (behind_stands es knot h below behind first depth parent stands) (before_on first (end_of first below) parent (omega arith) before) counted.2
          (omega (arith, known, length-append (flat below) (flat behind))) in
          record {
            knot = t.knot;
            head = t.head;
            below = t.below;
            depth = t.depth;
            parent = t.parent;
            tree = cond-false (nat_lt k (count_in below)) (tree_at k below) (tree_at (k - count_in below) behind) past ∙ t.tree;
            stands = t.stands;
            before = t.before;
            counted = t.counted;
          }
    ]

-- each element has its tree
pub rooted : (es : List Element) (n : ℕ) → n < length es → IsRooted es n n (forest row_of es)
rooted es n known =
    find_tree es (forest row_of es) n 0 0 n None (omega arith) (all_stand es) tt (forest_counted row_of es)
    (omega (arith, known, ap (length {A = Element}) (flat-forest row_of es)))

module _ (dim : ℕ) (es : List Element) where
  alone_spotted : (knot : Knot) (n : ℕ) (e : Element) (hull : Option Box3) → slice_get es n ≡ Some e → IsCountedAs knot e.kind
      → AllByRecursion (IsSpotted es) (finding_as keeps.Fitted dim knot n e hull)
  alone_spotted knot n e None there counted = tt
  alone_spotted knot n e (Some hull) there counted =
      cond_both (is_fitted knot e.kind) (finding_of dim n e hull ∷ []) [] (AllByRecursion (IsSpotted es))
      (λ is. (record { element = e; there = there; spotted = fitted_spotted knot e.kind counted is }, tt)) (λ _. tt)

  -- fitted elements have spots
  pub findings_spotted : (f : Forest Element) (n depth : ℕ) (parent : Option ℕ) → Stands es f n depth parent → AreCounted row_of f
      → AllByRecursion (IsSpotted es) (findings_in keeps.Fitted dim n f)
  findings_spotted NoTree n depth parent stands counted = tt
  findings_spotted (Tree knot e below behind) n depth parent stands counted =
      let head = alone_spotted knot n e (tree_hull dim knot e (hull_of dim below)) (head_listed es knot e below behind n depth parent stands) counted.0 in
      let inner = findings_spotted below (n + 1) (depth + 1) (Some n) (below_stands es knot e below behind n depth parent stands) counted.1 in
      let outer = findings_spotted behind (end_of n below) depth parent (behind_stands es knot e below behind n depth parent stands) counted.2 in
      all_both (IsSpotted es) (cond e.deleted []
      (finding_as keeps.Fitted dim knot n e (tree_hull dim knot e (hull_of dim below)) ++ findings_in keeps.Fitted dim (n + 1) below))
      (findings_in keeps.Fitted dim (end_of n below) behind)
      (cond_both e.deleted [] (finding_as keeps.Fitted dim knot n e (tree_hull dim knot e (hull_of dim below)) ++ findings_in keeps.Fitted dim (n + 1) below)
      (AllByRecursion (IsSpotted es))
      (λ _. tt) (λ _. all_both (IsSpotted es) (finding_as keeps.Fitted dim knot n e (tree_hull dim knot e (hull_of dim below)))
      (findings_in keeps.Fitted dim (n + 1) below) head inner))
      outer

  module _ (n : ℕ) (known : n < length es) where
    pub part_tree : IsRooted es n n (forest row_of es)
    part_tree = rooted es n known

    -- the fitted elements of the part of element n have spots
    pub part_spotted : AllByRecursion (IsSpotted es) (fitted_in dim es n)
    part_spotted =
        subst (λ (f : Forest Element). AllByRecursion (IsSpotted es) (findings_in keeps.Fitted dim n f)) (sym part_tree.tree)
        (findings_spotted (Tree part_tree.knot part_tree.head part_tree.below NoTree) n part_tree.depth part_tree.parent part_tree.stands part_tree.counted)

    -- its mark
    pub part_mark : Mark
    part_mark = record { knot = part_tree.knot; depth = part_tree.depth; parent = part_tree.parent; end = end_of n part_tree.below }

    pub part_marked : mark_of row_of es n ≡ Some part_mark
    unfolding part_mark
    part_marked = head_marked es part_tree.knot part_tree.head part_tree.below NoTree n part_tree.depth part_tree.parent part_tree.stands

    pub part_end : part_mark.end ≡ end_of n part_tree.below
    unfolding part_mark
    part_end = refl

    pub part_after : n < part_mark.end
    part_after = omega (arith, part_end)

    pub part_within : part_mark.end ≤ length es
    part_within =
        let listed : drop n es ≡ (part_tree.head ∷ (flat part_tree.below ++ [])) ++ part_tree.stands.behind = part_tree.stands.listed in
        let long : length (drop n es) ≡ length ((part_tree.head ∷ (flat part_tree.below ++ [])) ++ part_tree.stands.behind) =
        ap (length {A = Element}) listed in
        omega (
          arith,
          part_end,
          known,
          long,
          length-drop n es,
          length-append (flat part_tree.below ++ []) part_tree.stands.behind,
          ap (length {A = Element}) (append-nil (flat part_tree.below)),
        )

    part_bounds : bounds_of es (Some n) ≡ (n, part_mark.end)
    part_bounds = ap (λ (o : Option Mark). unwrap_or (option_map (λ (m : Mark). (n, m.end)) o) (n, n)) part_marked

module _ (keep : Reported) (dim : ℕ) (es : List Element) where
  -- the elements of a part, or of all, from the first one to the end
  pub record HasBounds (part : Option ℕ) (first end : ℕ) : Type 0 where
    pub ordered : first ≤ end
    pub within : end ≤ length es
    -- they are read from the end back
    pub found : (read_back keep dim es first (end - first)).noted ≡ findings_of keep dim es part

  all_bounds : HasBounds None 0 (length es)
  all_bounds =
      let all : length es - 0 ≡ length es = omega arith in
      record {
        ordered = omega arith;
        within = omega arith;
        found = ap (λ (k : ℕ). (read_back keep dim es 0 k).noted) all ∙ all_read keep dim es;
      }

  tree_bounds : (n : ℕ) (known : n < length es) → HasBounds (Some n) n (part_mark dim es n known).end
  tree_bounds n known =
      let t = part_tree dim es n known in
      let count : (part_mark dim es n known).end - n ≡ suc (length (flat t.below)) = omega (arith, part_end dim es n known) in
      record {
        ordered = omega (arith, part_after dim es n known);
        within = part_within dim es n known;
        found = part_read keep dim es t.knot t.head t.below n t.depth t.parent t.stands t.before ((part_mark dim es n known).end - n) count
            ∙ ap (findings_in keep dim n) (sym t.tree);
      }

  pub has_bounds : (part : Option ℕ) → IfSome part (λ n. n < length es) → (x : ℕ × ℕ) → x ≡ bounds_of es part → HasBounds part x.0 x.1
  has_bounds None known x is = subst (λ (y : ℕ × ℕ). HasBounds None y.0 y.1) (sym is) all_bounds
  has_bounds (Some n) known x is = subst (λ (y : ℕ × ℕ). HasBounds (Some n) y.0 y.1) (sym (is ∙ part_bounds dim es n known)) (tree_bounds n known)

-- the headers above an element have lesser numbers
headers_before : {A : Type 0} (n first : ℕ) (f : Forest A) → AllByRecursion (λ h. h < first + n) (headers_in n first f)
headers_before n first NoTree = tt
headers_before zero first (Tree knot h below behind) = tt
headers_before {A} (suc n) first (Tree knot h below behind) =
    elim (cases_Bool (nat_lt n (length (flat below)))) [
      | inl within ↦
          subst (AllByRecursion (λ k. k < first + suc n))
          (sym (cond-true (nat_lt n (length (flat below))) (first ∷ headers_in n (first + 1) below)
          (headers_in (n - length (flat below)) (end_of first below) behind) within))
          (omega arith, before_more (first + 1 + n) (first + suc n) (headers_in n (first + 1) below) (omega arith) (headers_before n (first + 1) below))
      | inr past ↦
          let late : length (flat below) ≤ n = ltb-false n (length (flat below)) past in
          subst (AllByRecursion (λ k. k < first + suc n))
          (sym (cond-false (nat_lt n (length (flat below))) (first ∷ headers_in n (first + 1) below)
          (headers_in (n - length (flat below)) (end_of first below) behind) past))
          (before_more (end_of first below + (n - length (flat below))) (first + suc n) (headers_in (n - length (flat below)) (end_of first below) behind)
          (omega arith) (headers_before (n - length (flat below)) (end_of first below) behind))
    ]
  where
    before_more : (m k : ℕ) (hs : List ℕ) → m ≤ k → AllByRecursion (λ h. h < m) hs → AllByRecursion (λ h. h < k) hs
    before_more m k [] less each = tt
    before_more m k (h ∷ hs) less each = (omega (arith, less, each.0), before_more m k hs less each.1)

-- the root of the tree that holds an element is one
pub root_known : (es : List Element) (n root : ℕ) → Some root ≡ root_of row_of es n → root < length es
root_known es n root is = by_known (nat_lt n (length es)) refl is
  where
    least : (hs : List ℕ) → AllByRecursion (λ h. h < n) hs → first_or n hs ≤ n
    least [] each = omega arith
    least (h ∷ hs) each = omega (arith, each.0)

    by_known : (t : Bool) → nat_lt n (length es) ≡ t → Some root ≡ cond t (Some (first_or n (headers_of row_of es n))) None → root < length es
    by_known true early some =
        let known : n < length es = ltb-true n (length es) early in
        let same : root ≡ first_or n (headers_of row_of es n) = (let x = some in cc) in
        omega (arith, known, same, least (headers_of row_of es n) (from_zero (headers_of row_of es n) (headers_before n 0 (forest row_of es))))
      where
        from_zero : (hs : List ℕ) → AllByRecursion (λ h. h < 0 + n) hs → AllByRecursion (λ h. h < n) hs
        from_zero [] each = tt
        from_zero (h ∷ hs) each = (omega (arith, each.0), from_zero hs each.1)
    by_known false late some = absurd (let x = some in cc)
