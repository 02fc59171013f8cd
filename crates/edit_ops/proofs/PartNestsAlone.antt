-- The part of an element nests alone as it nests among the others, unless its head begins a run; also where the head
-- has no bit C. So what a copy appends nests as the copied part.
use Rattle.std.proofs.Common.{◌≡◌, ℕ, zero, suc, ◌-◌, ◌≤◌, ◌<◌, ◌==◌, ◌&&◌, ◌||◌, List, [], ◌∷◌, ◌++◌, length, take, drop, map, Bool, true, false, cond}
use Rattle.std.proofs.Common.{refl, sym, ap, ◌∙◌, subst, arith, inl, inr}
use Rattle.std.specs.Prelude.{Option, Some, None, option_map, nat_le, nat_lt}
use Rattle.std.specs.List.{AllByRecursion}
use Rattle.std.proofs.lemmas.Bool.{cases_Bool, cond_both, cond-true, cond-false, eq-eqb, eqb-true, and_left, and_parts}
use Rattle.std.proofs.lemmas.List.{take_all, drop_all, length-take, length-drop, length-take-le, length-map, map-append, append-nil}
use Rattle.dgn_layout.specs.Classes.{class_of, is_among}
use Rattle.dgn_drawing.specs.declared.row.Row.{Row}
use Rattle.dgn_drawing.specs.Element.{Element}
use Rattle.dgn_drawing.specs.Rows.{row_of}
use Rattle.dgn_drawing.specs.Nesting.{Knot, Scope, Whole, Members, is_all, is_parts, is_counted, whole_of, filling, member_count, front_count}
use Rattle.dgn_drawing.specs.Nesting.{is_spline_part, has_bit, Shape, leaf, group_or_loose, shape_of, shape, Leaf, Forest, NoTree, Tree, nest, forest}
use Rattle.dgn_drawing.specs.Nesting.{joined, flat, forest_map, itself}
use Rattle.nest_tree.proofs.NestingSteps.{shape_cases, count_within, nest_cons, nest_nil, flat-nest, flat-forest}
use Rattle.nest_tree.proofs.MemberCounts.{filling_fills}
use Rattle.nest_tree.proofs.ByRows.{forest_rows, flat-map}
use Rattle.nest_tree.proofs.TreesApart.{forest_apart}
use Rattle.nest_tree.proofs.SameTrees.{known}
use Rattle.edit_ops.specs.Trees.{count_in, tree_at}
use Rattle.edit_ops.proofs.PartPlace.{flat-joined}
use Rattle.edit_ops.proofs.RowsKept.{map-joined}

-- what holds of each listed type holds of a type that is among them
pub among_each : (P : ℕ → Type 0) (kind : ℕ) (ks : List ℕ) → is_among kind ks ≡ true → AllByRecursion P ks → P kind
among_each P kind [] is each = absurd (let e = is in cc)
among_each P kind (k ∷ ks) is each = elim (cases_Bool (kind == k)) [
  | inl same ↦ subst P (sym (eqb-true kind k same)) each.0
  | inr other ↦ among_each P kind ks (sym (ap (λ (t : Bool). t || is_among kind ks) other) ∙ is) each.1
]

-- one less on both sides
one_less : (o : Option ℕ) (k : ℕ) → option_map suc o ≡ Some (suc k) → o ≡ Some k
one_less None k is = absurd (let e = is in cc)
one_less (Some m) k is = let e : suc m ≡ suc k = cc in let f : m ≡ k = omega arith in ap Some f

-- an element of a list of B-spline parts has a silent type, so it is no counted header
abbrev Uncounted : {A : Type 0} → (A → Row) → List A → Type 0
Uncounted row l = AllByRecursion (λ e. is_counted (class_of (row e).kind) ≡ false) l

abbrev IsFair : {A : Type 0} → (A → Row) → Scope → List A → Type 0
IsFair row scope l = is_parts scope ≡ true → Uncounted row l

-- the head, over what is below it, has the shape that it has alone, and what is below nests as it stands there
pub record IsAlone {A : Type 0} (row : A → Row) (knot : Knot) (h : A) (below : Forest A) : Type 0 where
  pub inside : Scope
  pub shaped : shape row Whole h (flat below) ≡ record { knot = knot; inside = inside; count = length (flat below) }
  pub nested : nest row inside (flat below) ≡ below

-- unless it begins a run
abbrev pub NestsAlone : {A : Type 0} → (A → Row) → Forest A → Type 0
NestsAlone row NoTree = Unit {0}
NestsAlone row (Tree knot h below behind) = is_among (row h).kind (24 ∷ 27 ∷ []) ≡ false → ((row h).kind == 34) ≡ false → IsAlone row knot h below

module _ {A : Type 0} (row : A → Row) where
  -- so many elements that fill some bytes do so where nothing follows them
  filling_alone : (bytes : ℕ) (l : List A) (k : ℕ) → filling row bytes l ≡ Some k → filling row bytes (take k l) ≡ Some k
  filling_alone bytes [] zero is = is
  filling_alone bytes [] (suc k) is = is
  filling_alone bytes (e ∷ l) zero is =
      let sum = (filling_fills row bytes (e ∷ l) 0 is).bytes_are in
      cond-true (bytes == 0) (Some 0) None (eq-eqb bytes 0 (sym sum))
  filling_alone bytes (e ∷ l) (suc k) is = elim (cases_Bool (bytes == 0)) [
    | inl none ↦ absurd (let f : Some 0 ≡ Some (suc k) = sym (cond-true (bytes == 0) _ _ none) ∙ is in cc)
    | inr some ↦
        let inner = sym (cond-false (bytes == 0) _ _ some) ∙ is in
        elim (cases_Bool ((row e).cbit && nat_le (row e).size bytes)) [
          | inl fits ↦
              let rest : filling row (bytes - (row e).size) l ≡ Some k =
              one_less _ k (sym (cond-true ((row e).cbit && nat_le (row e).size bytes) _ _ fits) ∙ inner) in
              ap (λ (o : Option ℕ). cond (bytes == 0) (Some 0) (cond ((row e).cbit && nat_le (row e).size bytes) (option_map suc o) None))
              (filling_alone (bytes - (row e).size) l k rest ∙ sym rest)
              ∙ is
          | inr fails ↦ absurd (let f : None ≡ Some (suc k) = sym (cond-false ((row e).cbit && nat_le (row e).size bytes) _ _ fails) ∙ inner in cc)
        ]
  ]

  -- where none fill them, nothing does
  filling_nothing : (bytes : ℕ) (l : List A) → filling row bytes l ≡ None → filling row bytes [] ≡ None
  filling_nothing bytes [] is = is
  filling_nothing bytes (e ∷ l) is = elim (cases_Bool (bytes == 0)) [
    | inl none ↦ absurd (let f : Some 0 ≡ None = sym (cond-true (bytes == 0) _ _ none) ∙ is in cc)
    | inr some ↦ cond-false (bytes == 0) (Some 0) None some
  ]

  module _ (h : Row) (r : List A) where
    -- a header has the same members where nothing follows these
    members_alone : (k : ℕ) → member_count row h r ≡ Some k → member_count row h (take k r) ≡ Some k
    members_alone k is = elim (cases_Bool (nat_le h.size (whole_of h))) [
      | inl fits ↦
          cond-true (nat_le h.size (whole_of h)) _ _ fits
          ∙ filling_alone (whole_of h - h.size) r k (sym (cond-true (nat_le h.size (whole_of h)) (filling row (whole_of h - h.size) r) None fits) ∙ is)
      | inr fails ↦ absurd (let f : None ≡ Some k = sym (cond-false (nat_le h.size (whole_of h)) (filling row (whole_of h - h.size) r) None fails) ∙ is in cc)
    ]

    -- one without members has none where nothing follows it
    members_nothing : member_count row h r ≡ None → member_count row h [] ≡ None
    members_nothing is = cond_both (nat_le h.size (whole_of h)) (filling row (whole_of h - h.size) []) None (λ (o : Option ℕ). o ≡ None)
        (λ fits. filling_nothing (whole_of h - h.size) r (sym (cond-true (nat_le h.size (whole_of h)) (filling row (whole_of h - h.size) r) None fits) ∙ is))
        (λ _. refl)

    -- so a counted header is what it was
    pub group_as : (o : Option ℕ) → member_count row h r ≡ o → group_or_loose (member_count row h (take (group_or_loose o).count r)) ≡ group_or_loose o
    group_as None is = ap group_or_loose (members_nothing is)
    group_as (Some k) is = ap group_or_loose (members_alone k is)

  -- the shape of an element that begins no run
  plain_shape : (scope : Scope) (h : Row) (members : Option ℕ) (spline_parts parts : ℕ) → is_among h.kind (24 ∷ 27 ∷ []) ≡ false → (h.kind == 34) ≡ false
      → shape_of scope h members spline_parts parts ≡ cond (is_parts scope) leaf (cond (is_counted (class_of h.kind)) (group_or_loose members) leaf)
  plain_shape scope h members spline_parts parts straight own =
      ap (λ (s : Shape). cond (is_parts scope) leaf (cond (is_counted (class_of h.kind)) (group_or_loose members) s))
      (cond-false (is_among h.kind (24 ∷ 27 ∷ [])) _ _ straight ∙ cond-false (h.kind == 34 && is_all scope) _ _ (and_left (h.kind == 34) (is_all scope) own))

  module _ (scope : Scope) (h : A) (r : List A) (straight : is_among (row h).kind (24 ∷ 27 ∷ []) ≡ false) (own : ((row h).kind == 34) ≡ false) where
    -- alone
    shape_among_all : (l : List A) → shape row Whole h l ≡ cond (is_counted (class_of (row h).kind)) (group_or_loose (member_count row (row h) l)) leaf
    shape_among_all l = plain_shape Whole (row h) (member_count row (row h) l) (front_count (λ e. is_spline_part (row e)) l)
        (front_count (λ e. has_bit (row e)) l) straight own

    -- its shape is the same alone, over what is below it
    shape_alone : IsFair row scope (h ∷ r) → shape row Whole h (take (shape row scope h r).count r) ≡ shape row scope h r
    shape_alone fair =
        let here = plain_shape scope (row h) (member_count row (row h) r) (front_count (λ e. is_spline_part (row e)) r)
        (front_count (λ e. has_bit (row e)) r) straight own in
        elim (cases_Bool (is_counted (class_of (row h).kind))) [
          | inl counted ↦
              let members : shape row scope h r ≡ group_or_loose (member_count row (row h) r) =
              here ∙ cond_both (is_parts scope) leaf (cond (is_counted (class_of (row h).kind)) (group_or_loose (member_count row (row h) r)) leaf)
              (λ (s : Shape). s ≡ group_or_loose (member_count row (row h) r))
              (λ parts. absurd (let not = (fair parts).0 in cc))
              (λ _. cond-true (is_counted (class_of (row h).kind)) _ _ counted) in
              shape_among_all (take (shape row scope h r).count r)
              ∙ cond-true (is_counted (class_of (row h).kind)) _ _ counted
              ∙ ap (λ (s : Shape). group_or_loose (member_count row (row h) (take s.count r))) members
              ∙ group_as (row h) r (member_count row (row h) r) refl
              ∙ sym members
          | inr plain ↦
              shape_among_all (take (shape row scope h r).count r)
              ∙ cond-false (is_counted (class_of (row h).kind)) _ _ plain
              ∙ sym (here ∙ cond_both (is_parts scope) leaf (cond (is_counted (class_of (row h).kind)) (group_or_loose (member_count row (row h) r)) leaf)
              (λ (s : Shape). s ≡ leaf) (λ _. refl) (λ _. cond-false (is_counted (class_of (row h).kind)) _ _ plain))
        ]

  -- the parts of a B-spline are no counted headers
  parts_uncounted : (r : List A) → Uncounted row (take (front_count (λ e. is_spline_part (row e)) r) r)
  parts_uncounted [] = tt
  parts_uncounted (e ∷ r) = cond_both (is_spline_part (row e)) (suc (front_count (λ e. is_spline_part (row e)) r)) 0 (λ (k : ℕ). Uncounted row (take k (e ∷ r)))
      (λ is. (
        among_each (λ kind. is_counted (class_of kind) ≡ false) (row e).kind (21 ∷ 25 ∷ 26 ∷ 28 ∷ []) (and_parts (row e).cbit _ is).1
            (refl, (refl, (refl, (refl, tt)))),
        parts_uncounted r,
      ))
      (λ _. tt)

  -- the elements below a header are a fair list
  group_fair : (o : Option ℕ) (l : List A) → IsFair row (group_or_loose o).inside l
  group_fair None l parts = absurd (let e = parts in cc)
  group_fair (Some k) l parts = absurd (let e = parts in cc)

  below_fair : (scope : Scope) (h : A) (r : List A) → IsFair row (shape row scope h r).inside (take (shape row scope h r).count r)
  below_fair scope h r =
      shape_cases (λ s. IsFair row s.inside (take s.count r)) scope (row h) (member_count row (row h) r) (front_count (λ e. is_spline_part (row e)) r)
      (front_count (λ e. has_bit (row e)) r)
      (λ parts. absurd (let e = parts in cc))
      (λ _. group_fair (member_count row (row h) r) _)
      (λ _ _ _. parts_uncounted r)
      (λ _ _ parts. absurd (let e = parts in cc))

  -- and so are those behind it
  last_uncounted : (k : ℕ) (l : List A) → Uncounted row l → Uncounted row (drop k l)
  last_uncounted zero l each = each
  last_uncounted (suc k) [] each = tt
  last_uncounted (suc k) (e ∷ l) each = last_uncounted k l each.1

  -- the first element of a list nests alone with what is below it
  first_alone : (scope : Scope) (h : A) (r : List A) → IsFair row scope (h ∷ r)
      → NestsAlone row (Tree (shape row scope h r).knot h (nest row (shape row scope h r).inside (take (shape row scope h r).count r)) NoTree)
  first_alone scope h r fair straight own =
      let k : ℕ = (shape row scope h r).count in
      let inside : Scope = (shape row scope h r).inside in
      let list : flat (nest row inside (take k r)) ≡ take k r = flat-nest row inside (take k r) in
      let long : length (flat (nest row inside (take k r))) ≡ k = ap (length {A = A}) list ∙ length-take-le k r (count_within row scope h r) in
      record {
        inside = inside;
        shaped = ap (shape row Whole h) list
            ∙ shape_alone scope h r straight own fair
            ∙ ap (λ (n : ℕ). record { knot = (shape row scope h r).knot; inside = (shape row scope h r).inside; count = n }) (sym long);
        nested = ap (nest row inside) list;
      }

  -- so does each element of a list
  nest_alone_in : (m n : ℕ) (scope : Scope) (l : List A) → length l ≤ m → IsFair row scope l → NestsAlone row (tree_at n (nest row scope l))
  nest_alone_in m n scope [] short fair = subst (λ (t : Forest A). NestsAlone row (tree_at n t)) (sym (nest_nil row scope)) tt
  nest_alone_in zero n scope (h ∷ r) short fair = absurd (omega arith)
  nest_alone_in (suc m) zero scope (h ∷ r) short fair =
      subst (λ (t : Forest A). NestsAlone row (tree_at 0 t)) (sym (nest_cons row scope h r)) (first_alone scope h r fair)
  nest_alone_in (suc m) (suc n) scope (h ∷ r) short fair =
      let k : ℕ = (shape row scope h r).count in
      let below : Forest A = nest row (shape row scope h r).inside (take k r) in
      let behind : Forest A = nest row scope (drop k r) in
      subst (λ (t : Forest A). NestsAlone row (tree_at (suc n) t)) (sym (nest_cons row scope h r))
      (cond_both (nat_lt n (count_in below)) (tree_at n below) (tree_at (n - count_in below) behind) (NestsAlone row)
      (λ _. nest_alone_in m n (shape row scope h r).inside (take k r) (omega (arith, length-take k r)) (below_fair scope h r))
      (λ _. nest_alone_in m (n - count_in below) scope (drop k r) (omega (arith, length-drop k r)) (λ parts. last_uncounted k r (fair parts).1)))

  -- and each one of a drawing but the first
  pub part_alone : (l : List A) (n : ℕ) → 0 < n → NestsAlone row (tree_at n (forest row l))
  part_alone [] n later = tt
  part_alone (e ∷ l) zero later = absurd (omega arith)
  part_alone (e ∷ l) (suc n) later =
      cond_both (nat_lt n 0) NoTree (tree_at (n - 0) (nest row Whole l)) (NestsAlone row) (λ _. tt)
      (λ _. nest_alone_in (length l) (n - 0) Whole l (omega arith) (λ parts. absurd (let f = parts in cc)))

-- what is made of one of two trees
map_either : {A B : Type 0} (f : A → B) (t : Bool) (x y : Forest A) → forest_map f (cond t x y) ≡ cond t (forest_map f x) (forest_map f y)
map_either f true x y = refl
map_either f false x y = refl

-- trees of what is made of each element have the parts of what is made of each
tree_at-map : {A B : Type 0} (f : A → B) (n : ℕ) (t : Forest A) → tree_at n (forest_map f t) ≡ forest_map f (tree_at n t)
tree_at-map f n NoTree = refl
tree_at-map f zero (Tree knot h below behind) = refl
tree_at-map {A} {B} f (suc n) (Tree knot h below behind) =
    let count : count_in (forest_map f below) ≡ count_in below = ap (length {A = B}) (flat-map f below) ∙ length-map (flat below) f in
    ap (λ (k : ℕ). cond (nat_lt n k) (tree_at n (forest_map f below)) (tree_at (n - k) (forest_map f behind))) count
    ∙ ap (λ (t : Forest B). cond (nat_lt n (count_in below)) t (tree_at (n - count_in below) (forest_map f behind))) (tree_at-map f n below)
    ∙ ap (λ (t : Forest B). cond (nat_lt n (count_in below)) (forest_map f (tree_at n below)) t) (tree_at-map f (n - count_in below) behind)
    ∙ sym (map_either f (nat_lt n (count_in below)) (tree_at n below) (tree_at (n - count_in below) behind))

-- the row without bit C
abbrev pub row_freed : Row → Row
row_freed r = record { size = r.size; kind = r.kind; cbit = false; total = r.total }

-- what nests alone does so without bit C
nests_freed : (knot : Knot) (h : Row) (below : Forest Row) → IsAlone itself knot h below
    → nest itself Whole (flat (Tree knot (row_freed h) below NoTree)) ≡ Tree knot (row_freed h) below NoTree
nests_freed knot h below alone =
    ap (λ (l : List Row). nest itself Whole (row_freed h ∷ l)) (append-nil (flat below))
    ∙ nest_cons itself Whole (row_freed h) (flat below)
    ∙ ap (λ (s : Shape). Tree s.knot (row_freed h) (nest itself s.inside (take s.count (flat below))) (nest itself Whole (drop s.count (flat below))))
    alone.shaped
    ∙ ap (λ (l : List Row). Tree knot (row_freed h) (nest itself alone.inside l) (nest itself Whole (drop (length (flat below)) (flat below))))
    (take_all (length (flat below)) (flat below) (omega arith))
    ∙ ap (λ (l : List Row). Tree knot (row_freed h) (nest itself alone.inside (flat below)) (nest itself Whole l))
    (drop_all (length (flat below)) (flat below) (omega arith))
    ∙ ap (λ (t : Forest Row). Tree knot (row_freed h) (nest itself alone.inside (flat below)) t) (nest_nil itself Whole)
    ∙ ap (λ (t : Forest Row). Tree knot (row_freed h) t NoTree) alone.nested

-- the part of element n of a drawing, which begins no run, and another tree with the rows of that part but a head
-- without bit C: what it appends nests as it does
module _ (es : List Element) (n : ℕ) (knot : Knot) (h other : Element) (below changed : Forest Element)
    (later : 0 < n) (known_n : n < length es) (tree : tree_at n (forest row_of es) ≡ Tree knot h below NoTree)
    (straight : is_among h.kind (24 ∷ 27 ∷ []) ≡ false) (own : (h.kind == 34) ≡ false)
    (head : row_of other ≡ row_freed (row_of h)) (inner : forest_map row_of changed ≡ forest_map row_of below) where
  -- the rows of the part nest alone
  rows_alone : IsAlone itself knot (row_of h) (forest_map row_of below)
  rows_alone =
      let at : tree_at n (forest itself (map row_of es)) ≡ Tree knot (row_of h) (forest_map row_of below) NoTree =
      ap (tree_at n) (sym (forest_rows row_of es)) ∙ tree_at-map row_of n (forest row_of es) ∙ ap (forest_map row_of) tree in
      subst (NestsAlone itself) at (part_alone itself (map row_of es) n later) straight own

  -- the rows of the other tree
  abbrev rows : Forest Row
  rows = Tree knot (row_freed (row_of h)) (forest_map row_of below) NoTree

  looks : forest_map row_of (Tree knot other changed NoTree) ≡ rows
  looks = ap (λ (r : Row). Tree knot r (forest_map row_of changed) NoTree) head ∙ ap (λ (t : Forest Row). Tree knot (row_freed (row_of h)) t NoTree) inner

  -- all elements, with those of the other tree behind the others
  order : flat (joined (forest row_of es) (Tree knot other changed NoTree)) ≡ es ++ flat (Tree knot other changed NoTree)
  order = flat-joined (forest row_of es) (Tree knot other changed NoTree)
      ∙ ap (λ (l : List Element). l ++ flat (Tree knot other changed NoTree)) (flat-forest row_of es)

  -- and their rows
  rows_are : map row_of (flat (joined (forest row_of es) (Tree knot other changed NoTree))) ≡ map row_of es ++ flat rows
  rows_are =
      ap (map row_of) order
      ∙ map-append row_of es (flat (Tree knot other changed NoTree))
      ∙ ap (λ (l : List Row). map row_of es ++ l) (sym (flat-map row_of (Tree knot other changed NoTree)) ∙ ap flat looks)

  all_look : forest_map row_of (joined (forest row_of es) (Tree knot other changed NoTree))
      ≡ forest itself (map row_of (flat (joined (forest row_of es) (Tree knot other changed NoTree))))
  all_look =
      map-joined row_of (forest row_of es) (Tree knot other changed NoTree)
      ∙ ap (λ (t : Forest Row). joined t (forest_map row_of (Tree knot other changed NoTree))) (forest_rows row_of es)
      ∙ ap (joined (forest itself (map row_of es))) (looks ∙ sym (nests_freed knot (row_of h) (forest_map row_of below) rows_alone))
      ∙ sym (forest_apart itself (map row_of es) (flat rows) (omega (arith, length-map es row_of)) refl)
      ∙ ap (forest itself) (sym rows_are)

  -- so all elements nest as the drawing's and, behind them, the other tree
  pub part_appended : forest row_of (es ++ flat (Tree knot other changed NoTree)) ≡ joined (forest row_of es) (Tree knot other changed NoTree)
  part_appended = sym (known row_of (joined (forest row_of es) (Tree knot other changed NoTree)) all_look ∙ ap (forest row_of) order)

-- an element that is neither a counted header nor begins a run is a leaf
leaf_alone : (e : Element) → is_counted (class_of e.kind) ≡ false → is_among e.kind (24 ∷ 27 ∷ []) ≡ false → (e.kind == 34) ≡ false
    → nest row_of Whole (e ∷ []) ≡ Tree Leaf e NoTree NoTree
leaf_alone e plain straight own =
    nest_cons row_of Whole e []
    ∙ ap (λ (s : Shape). Tree s.knot e (nest row_of s.inside (take s.count [])) (nest row_of Whole (drop s.count [])))
    (shape_among_all row_of Whole e [] straight own [] ∙ cond-false (is_counted (class_of e.kind)) _ _ plain)
    ∙ ap (λ (t : Forest Element). Tree Leaf e t (nest row_of Whole [])) (nest_nil row_of Members)
    ∙ ap (λ (t : Forest Element). Tree Leaf e NoTree t) (nest_nil row_of Whole)

-- appended behind a drawing without bit C, it nests as that
pub leaf_appended : (es : List Element) (e : Element) → 0 < length es → e.cbit ≡ false → is_counted (class_of e.kind) ≡ false
    → is_among e.kind (24 ∷ 27 ∷ []) ≡ false → (e.kind == 34) ≡ false
    → forest row_of (es ++ (e ∷ [])) ≡ joined (forest row_of es) (Tree Leaf e NoTree NoTree)
leaf_appended es e some free plain straight own =
    forest_apart row_of es (e ∷ []) some free ∙ ap (joined (forest row_of es)) (leaf_alone e plain straight own)
