-- What a change of the headers above an element and of the live elements of its part keeps: the rows of all
-- elements and so how they nest, what holds of each of them, and the first of them.
use Rattle.std.proofs.Common.{◌≡◌, ℕ, zero, suc, ◌+◌, ◌-◌, List, ◌∷◌, length, map, Bool, true, false, cond, refl, sym, ap, ◌∙◌, subst}
use Rattle.std.specs.Prelude.{nat_lt}
use Rattle.std.specs.List.{AllByRecursion}
use Rattle.std.proofs.lemmas.Bool.{cond_both}
use Rattle.dgn_drawing.specs.declared.row.Row.{Row}
use Rattle.dgn_drawing.specs.Element.{Element}
use Rattle.dgn_drawing.specs.Spelling.{size_of, spelling}
use Rattle.dgn_drawing.specs.Rows.{row_of}
use Rattle.dgn_drawing.specs.Nesting.{Knot, Forest, NoTree, Tree, flat, forest, joined, forest_map, itself}
use Rattle.dgn_drawing.specs.Numbering.{end_of}
use Rattle.nest_tree.proofs.NestingSteps.{flat-forest}
use Rattle.nest_tree.proofs.ByRows.{forest_rows, flat-map}
use Rattle.nest_tree.proofs.SameTrees.{known}
use Rattle.elem_index.specs.Offsets.{offset_of}
use Rattle.edit_ops.specs.Trees.{count_in, tree_at, exchange, live_map, Live, live_from, above_from, above_tree, every_from}
use Rattle.edit_ops.specs.Trees.{Reach, Living, Every, Head, reach_map, reached_from, reached}
use Rattle.edit_ops.proofs.PartPlace.{flat-joined}
use Rattle.edit_ops.proofs.EachLive.{each_both, each_first, each_last, tree_each, live_parts}

-- what is made of each element of trees behind trees
pub map-joined : {A B : Type 0} (f : A → B) (t u : Forest A) → forest_map f (joined t u) ≡ joined (forest_map f t) (forest_map f u)
map-joined f NoTree u = refl
map-joined {A} {B} f (Tree knot h below behind) u = ap (λ (t : Forest B). Tree knot (f h) (forest_map f below) t) (map-joined f behind u)

-- the headers above an element that lies below the first head or behind the first tree
abbrev pub above_side : Bool → ℕ → ℕ → ℕ → Element → Forest Element → Forest Element → List Live
above_side b n first p h below behind =
    cond b (record { number = first; place = p; element = h } ∷ above_from n (first + 1) (p + size_of h) below)
    (above_from (n - count_in below) (end_of first below) (p + (size_of h + length (spelling (flat below)))) behind)

-- its tree
abbrev pub tree_side : Bool → ℕ → Forest Element → Forest Element → Forest Element
tree_side b n below behind = cond b (tree_at n below) (tree_at (n - count_in below) behind)

module _ (above : Element → Element) (other : Forest Element → Forest Element) where
  -- and the trees with another one in its place
  abbrev pub exchange_side : Bool → ℕ → Knot → Element → Forest Element → Forest Element → Forest Element
  exchange_side b n knot h below behind =
      cond b (Tree knot (above h) (exchange above other n below) behind) (Tree knot h below (exchange above other (n - count_in below) behind))

  module _ {B : Type 0} (f : Element → B) where
    -- the header looks as before
    abbrev pub LooksSo : Live → Type 0
    LooksSo v = f (above v.element) ≡ f v.element

    looks_side : (b : Bool) (n first p : ℕ) (knot : Knot) (h : Element) (below behind : Forest Element)
        → AllByRecursion LooksSo (above_side b n first p h below behind)
        → forest_map f (other (tree_side b n below behind)) ≡ forest_map f (tree_side b n below behind)
        → (AllByRecursion LooksSo (above_from n (first + 1) (p + size_of h) below) → forest_map f (other (tree_at n below)) ≡ forest_map f (tree_at n below)
        → forest_map f (exchange above other n below) ≡ forest_map f below)
        → (AllByRecursion LooksSo (above_from (n - count_in below) (end_of first below) (p + (size_of h + length (spelling (flat below)))) behind)
        → forest_map f (other (tree_at (n - count_in below) behind)) ≡ forest_map f (tree_at (n - count_in below) behind)
        → forest_map f (exchange above other (n - count_in below) behind) ≡ forest_map f behind)
        → forest_map f (exchange_side b n knot h below behind) ≡ Tree knot (f h) (forest_map f below) (forest_map f behind)
    looks_side true n first p knot h below behind heads same inner outer =
        ap (λ (x : B). Tree knot x (forest_map f (exchange above other n below)) (forest_map f behind)) heads.0
        ∙ ap (λ (t : Forest B). Tree knot (f h) t (forest_map f behind)) (inner heads.1 same)
    looks_side false n first p knot h below behind heads same inner outer = ap (λ (t : Forest B). Tree knot (f h) (forest_map f below) t) (outer heads same)

    -- where another tree looks as the one in whose place it stands, and the headers above it as before, all look so
    pub exchange_looks : (n first p : ℕ) (t : Forest Element) → AllByRecursion LooksSo (above_from n first p t)
        → forest_map f (other (tree_at n t)) ≡ forest_map f (tree_at n t)
        → forest_map f (exchange above other n t) ≡ forest_map f t
    exchange_looks n first p NoTree heads same = refl
    exchange_looks zero first p (Tree knot h below behind) heads same =
        map-joined f (other (Tree knot h below NoTree)) behind ∙ ap (λ (t : Forest B). joined t (forest_map f behind)) same
    exchange_looks (suc n) first p (Tree knot h below behind) heads same =
        looks_side (nat_lt n (count_in below)) n first p knot h below behind heads same
        (exchange_looks n (first + 1) (p + size_of h) below)
        (exchange_looks (n - count_in below) (end_of first below) (p + (size_of h + length (spelling (flat below)))) behind)

  module _ (P : Element → Type 0) where
    -- it holds of the changed header
    abbrev pub HoldsSo : Live → Type 0
    HoldsSo v = P (above v.element)

    each_side : (b : Bool) (n first p : ℕ) (knot : Knot) (h : Element) (below behind : Forest Element)
        → P h → AllByRecursion P (flat below) → AllByRecursion P (flat behind)
        → AllByRecursion HoldsSo (above_side b n first p h below behind)
        → AllByRecursion P (flat (other (tree_side b n below behind)))
        → (AllByRecursion HoldsSo (above_from n (first + 1) (p + size_of h) below) → AllByRecursion P (flat (other (tree_at n below)))
        → AllByRecursion P (flat (exchange above other n below)))
        → (AllByRecursion HoldsSo (above_from (n - count_in below) (end_of first below) (p + (size_of h + length (spelling (flat below)))) behind)
        → AllByRecursion P (flat (other (tree_at (n - count_in below) behind)))
        → AllByRecursion P (flat (exchange above other (n - count_in below) behind)))
        → AllByRecursion P (flat (exchange_side b n knot h below behind))
    each_side true n first p knot h below behind head in_below in_behind heads those inner outer =
        (heads.0, each_both P (flat (exchange above other n below)) (flat behind) (inner heads.1 those) in_behind)
    each_side false n first p knot h below behind head in_below in_behind heads those inner outer =
        (head, each_both P (flat below) (flat (exchange above other (n - count_in below) behind)) in_below (outer heads those))

    -- what holds of each element of trees, of each changed header above element n, and of each element of another
    -- tree, holds of each where that one stands in the place of the tree of element n
    pub exchange_each : (n first p : ℕ) (t : Forest Element) → AllByRecursion P (flat t) → AllByRecursion HoldsSo (above_from n first p t)
        → AllByRecursion P (flat (other (tree_at n t))) → AllByRecursion P (flat (exchange above other n t))
    exchange_each n first p NoTree each heads those = tt
    exchange_each zero first p (Tree knot h below behind) each heads those =
        subst (AllByRecursion P) (sym (flat-joined (other (Tree knot h below NoTree)) behind))
        (each_both P (flat (other (Tree knot h below NoTree))) (flat behind) those (each_last P (flat below) (flat behind) each.1))
    exchange_each (suc n) first p (Tree knot h below behind) each heads those =
        let in_below = each_first P (flat below) (flat behind) each.1 in
        let in_behind = each_last P (flat below) (flat behind) each.1 in
        each_side (nat_lt n (count_in below)) n first p knot h below behind each.0 in_below in_behind heads those
        (exchange_each n (first + 1) (p + size_of h) below in_below)
        (exchange_each (n - count_in below) (end_of first below) (p + (size_of h + length (spelling (flat below)))) behind in_behind)

module _ (change : Element → Element) where
  -- a change that keeps the row of each live element keeps the rows of the trees
  pub live_looks : (n p : ℕ) (f : Forest Element) → AllByRecursion (λ (v : Live). row_of (change v.element) ≡ row_of v.element) (live_from n p f)
      → forest_map row_of (live_map (λ member. member.deleted) change f) ≡ forest_map row_of f
  live_looks n p NoTree kept = refl
  live_looks n p (Tree knot e below behind) kept =
      let parts = live_parts (λ (v : Live). row_of (change v.element) ≡ row_of v.element) n p knot e below behind kept in
      let head : row_of (cond e.deleted e (change e)) ≡ row_of e =
      cond_both e.deleted e (change e) (λ x. row_of x ≡ row_of e) (λ _. refl) (λ alive. parts.head alive) in
      let inner : forest_map row_of (cond e.deleted below (live_map (λ member. member.deleted) change below)) ≡ forest_map row_of below
      = cond_both e.deleted below (live_map (λ member. member.deleted) change below) (λ t. forest_map row_of t ≡ forest_map row_of below)
      (λ _. refl) (λ alive. live_looks (n + 1) (p + size_of e) below (parts.inner alive)) in
      let outer = live_looks (end_of n below) (p + (size_of e + length (spelling (flat below)))) behind parts.outer in
      ap (λ (r : Row). Tree knot r (forest_map row_of (cond e.deleted below (live_map (λ member. member.deleted) change below)))
      (forest_map row_of (live_map (λ member. member.deleted) change behind))) head
      ∙ ap (λ (t : Forest Row). Tree knot (row_of e) t (forest_map row_of (live_map (λ member. member.deleted) change behind))) inner
      ∙ ap (λ (t : Forest Row). Tree knot (row_of e) (forest_map row_of below) t) outer

  -- what holds of each element, and of what becomes of each live one, holds of each after the change
  pub live_map_each : (P : Element → Type 0) (n p : ℕ) (f : Forest Element) → AllByRecursion P (flat f)
      → AllByRecursion (λ (v : Live). P (change v.element)) (live_from n p f)
      → AllByRecursion P (flat (live_map (λ member. member.deleted) change f))
  live_map_each P n p NoTree each those = tt
  live_map_each P n p (Tree knot e below behind) each those =
      let parts = live_parts (λ (v : Live). P (change v.element)) n p knot e below behind those in
      let below_each = each_first P (flat below) (flat behind) each.1 in
      let head : P (cond e.deleted e (change e)) = cond_both e.deleted e (change e) P (λ _. each.0) (λ alive. parts.head alive) in
      let inner : AllByRecursion P (flat (cond e.deleted below (live_map (λ member. member.deleted) change below)))
      = cond_both e.deleted below (live_map (λ member. member.deleted) change below) (λ t. AllByRecursion P (flat t))
      (λ _. below_each) (λ alive. live_map_each P (n + 1) (p + size_of e) below below_each (parts.inner alive)) in
      let outer = live_map_each P (end_of n below) (p + (size_of e + length (spelling (flat below)))) behind (each_last P (flat below) (flat behind) each.1)
      parts.outer in (
        head,
        each_both P (flat (cond e.deleted below (live_map (λ member. member.deleted) change below)))
            (flat (live_map (λ member. member.deleted) change behind)) inner outer,
      )

  -- the same of a change of all
  every_looks : (n p : ℕ) (f : Forest Element) → AllByRecursion (λ (v : Live). row_of (change v.element) ≡ row_of v.element) (every_from n p f)
      → forest_map row_of (forest_map change f) ≡ forest_map row_of f
  every_looks n p NoTree kept = refl
  every_looks n p (Tree knot e below behind) kept =
      let Q : Live → Type 0 = λ v. row_of (change v.element) ≡ row_of v.element in
      let inside : List Live = every_from (n + 1) (p + size_of e) below in
      let past : List Live = every_from (end_of n below) (p + (size_of e + length (spelling (flat below)))) behind in
      let inner = every_looks (n + 1) (p + size_of e) below (each_first Q inside past kept.1) in
      let outer = every_looks (end_of n below) (p + (size_of e + length (spelling (flat below)))) behind (each_last Q inside past kept.1) in
      ap (λ (r : Row). Tree knot r (forest_map row_of (forest_map change below)) (forest_map row_of (forest_map change behind))) kept.0
      ∙ ap (λ (t : Forest Row). Tree knot (row_of e) t (forest_map row_of (forest_map change behind))) inner
      ∙ ap (λ (t : Forest Row). Tree knot (row_of e) (forest_map row_of below) t) outer

  every_map_each : (P : Element → Type 0) (n p : ℕ) (f : Forest Element) → AllByRecursion (λ (v : Live). P (change v.element)) (every_from n p f)
      → AllByRecursion P (flat (forest_map change f))
  every_map_each P n p NoTree those = tt
  every_map_each P n p (Tree knot e below behind) those =
      let Q : Live → Type 0 = λ v. P (change v.element) in
      let inside : List Live = every_from (n + 1) (p + size_of e) below in
      let past : List Live = every_from (end_of n below) (p + (size_of e + length (spelling (flat below)))) behind in (
        those.0,
        each_both P (flat (forest_map change below)) (flat (forest_map change behind))
            (every_map_each P (n + 1) (p + size_of e) below (each_first Q inside past those.1))
            (every_map_each P (end_of n below) (p + (size_of e + length (spelling (flat below)))) behind (each_last Q inside past those.1)),
      )

  -- so a change that keeps the row of each element that it reaches keeps the rows of the trees
  pub reach_looks : (reach : Reach) (n p : ℕ) (f : Forest Element)
      → AllByRecursion (λ (v : Live). row_of (change v.element) ≡ row_of v.element) (reached_from reach n p f)
      → forest_map row_of (reach_map reach change f) ≡ forest_map row_of f
  reach_looks Living n p f kept = live_looks n p f kept
  reach_looks Every n p f kept = every_looks n p f kept
  reach_looks Head n p NoTree kept = refl
  reach_looks Head n p (Tree knot e below behind) kept = ap (λ (r : Row). Tree knot r (forest_map row_of below) (forest_map row_of behind)) kept.0

  -- and what holds of each element, and of what becomes of each that it reaches, holds of each after the change
  pub reach_map_each : (P : Element → Type 0) (reach : Reach) (n p : ℕ) (f : Forest Element) → AllByRecursion P (flat f)
      → AllByRecursion (λ (v : Live). P (change v.element)) (reached_from reach n p f)
      → AllByRecursion P (flat (reach_map reach change f))
  reach_map_each P Living n p f each those = live_map_each P n p f each those
  reach_map_each P Every n p f each those = every_map_each P n p f those
  reach_map_each P Head n p NoTree each those = tt
  reach_map_each P Head n p (Tree knot e below behind) each those = (those.0, each.1)

module _ (es : List Element) (n : ℕ) (above change : Element → Element) (reach : Reach) where
  -- the trees of a drawing with the elements of one part that a change reaches, and the headers above it, changed
  abbrev made : Forest Element
  made = exchange above (reach_map reach change) n (forest row_of es)

  -- a header, and an element that is reached, keeps its row
  abbrev pub HeaderKept : Live → Type 0
  HeaderKept v = row_of (above v.element) ≡ row_of v.element

  abbrev pub ReachedKept : Live → Type 0
  ReachedKept v = row_of (change v.element) ≡ row_of v.element

  trees_kept : AllByRecursion HeaderKept (above_tree es n) → AllByRecursion ReachedKept (reached reach es n)
      → forest_map row_of (exchange above (reach_map reach change) n (forest row_of es)) ≡ forest_map row_of (forest row_of es)
  trees_kept heads kept =
      exchange_looks above (reach_map reach change) row_of n 0 0 (forest row_of es) heads
      (reach_looks change reach n (offset_of es n) (tree_at n (forest row_of es)) kept)

  -- a change that keeps the row of each header above an element, and of each element that is reached in its part, keeps the
  -- rows of all
  pub rows_kept : AllByRecursion HeaderKept (above_tree es n) → AllByRecursion ReachedKept (reached reach es n)
      → map row_of (flat (exchange above (reach_map reach change) n (forest row_of es))) ≡ map row_of es
  rows_kept heads kept =
      sym (flat-map row_of made) ∙ ap flat (trees_kept heads kept) ∙ flat-map row_of (forest row_of es) ∙ ap (map row_of) (flat-forest row_of es)

  -- so the elements that it leaves nest as the trees that it leaves
  pub nested_as : AllByRecursion HeaderKept (above_tree es n) → AllByRecursion ReachedKept (reached reach es n)
      → forest row_of (flat (exchange above (reach_map reach change) n (forest row_of es)))
      ≡ exchange above (reach_map reach change) n (forest row_of es)
  nested_as heads kept = sym (known row_of made (trees_kept heads kept ∙ forest_rows row_of es ∙ ap (forest itself) (sym (rows_kept heads kept))))

  -- what holds of each element, of what becomes of each header, and of what becomes of each that is
  -- reached, holds of each after the change
  pub each_kept : (P : Element → Type 0) → AllByRecursion P es → AllByRecursion (λ (v : Live). P (above v.element)) (above_tree es n)
      → AllByRecursion (λ (v : Live). P (change v.element)) (reached reach es n)
      → AllByRecursion P (flat (exchange above (reach_map reach change) n (forest row_of es)))
  each_kept P each heads those =
      let all : AllByRecursion P (flat (forest row_of es)) = subst (AllByRecursion P) (sym (flat-forest row_of es)) each in
      exchange_each above (reach_map reach change) P n 0 0 (forest row_of es) all heads
      (reach_map_each change P reach n (offset_of es n) (tree_at n (forest row_of es)) (tree_each P n (forest row_of es) all) those)
