-- What becomes of a drawing where the trees of chosen roots change in their places: what is put into their live
-- elements makes the bytes of the changed drawing, and all rows stay.
use Rattle.std.proofs.Common.{◌≡◌, ℕ, zero, suc, ◌+◌, ◌-◌, ◌≤◌, List, [], ◌∷◌, ◌++◌, length, take, Bool, true, false, cond, refl, sym, ap, ◌∙◌, subst}
use Rattle.std.proofs.Common.{arith, length-append}
use Rattle.std.specs.Prelude.{nat_lt, filter}
use Rattle.std.specs.List.{AllByRecursion, flat_map}
use Rattle.std.proofs.lemmas.Grind.{flat_map-append}
use Rattle.std.proofs.lemmas.List.{append-nil, take_at}
use Rattle.std.proofs.lemmas.Bool.{cond-false, le-ltb}
use Rattle.dgn_drawing.specs.declared.row.Row.{Row}
use Rattle.dgn_drawing.specs.Element.{Element}
use Rattle.dgn_drawing.specs.Spelling.{spell, spelling, size_of}
use Rattle.dgn_drawing.specs.WellFormed.{IsWellFormed}
use Rattle.dgn_drawing.specs.Rows.{row_of}
use Rattle.dgn_drawing.specs.Nesting.{Forest, NoTree, Tree, flat, forest, joined, forest_map}
use Rattle.dgn_drawing.specs.Numbering.{end_of}
use Rattle.dgn_drawing.specs.Shown.{roots}
use Rattle.nest_tree.proofs.NestingSteps.{flat-forest}
use Rattle.elem_index.specs.Offsets.{offset_of}
use Rattle.edit_ops.specs.Trees.{count_in, tree_at, live_map, Live, live_from, live_tree, above_from, above_tree}
use Rattle.edit_ops.specs.Fenced.{chosen_map}
use Rattle.edit_ops.specs.Rules.{Rule}
use Rattle.edit_ops.specs.Written.{live_puts}
use Rattle.edit_ops.proofs.PartPlace.{flat-joined}
use Rattle.edit_ops.proofs.EachLive.{each_both, each_first, each_last}
use Rattle.edit_ops.proofs.RowsKept.{map-joined, live_looks, live_map_each}
use Rattle.edit_ops.proofs.TextTurns.{Turns, turns_none, turns_then}
use Rattle.edit_ops.proofs.LivePuts.{IsPut, turns_as, forest_turned}
use Rattle.edit_ops.proofs.TreesBehind.{first_spelled}

-- the live elements of the chosen trees, of trees whose first element has number n and begins at byte p
abbrev pub chosen_live : (ℕ → Bool) → ℕ → ℕ → Forest Element → List Live
chosen_live chosen n p NoTree = []
chosen_live chosen n p (Tree knot h below behind) =
    cond (chosen n) (live_from n p (Tree knot h below NoTree)) []
    ++ chosen_live chosen (end_of n below) (p + (size_of h + length (spelling (flat below)))) behind

module _ (change : Element → Element) where
  -- one tree, changed where it is chosen
  abbrev one_changed : Bool → Forest Element → Forest Element
  one_changed b tree = cond b (live_map (λ e. e.deleted) change tree) tree

  one_looks : (b : Bool) (n p : ℕ) (tree : Forest Element)
      → AllByRecursion (λ (v : Live). row_of (change v.element) ≡ row_of v.element) (cond b (live_from n p tree) [])
      → forest_map row_of (one_changed b tree) ≡ forest_map row_of tree
  one_looks true n p tree kept = live_looks change n p tree kept
  one_looks false n p tree kept = refl

  one_each : (P : Element → Type 0) (b : Bool) (n p : ℕ) (tree : Forest Element) → AllByRecursion P (flat tree)
      → AllByRecursion (λ (v : Live). P (change v.element)) (cond b (live_from n p tree) [])
      → AllByRecursion P (flat (one_changed b tree))
  one_each P true n p tree each those = live_map_each change P n p tree each those
  one_each P false n p tree each those = each

  module _ (chosen : ℕ → Bool) where
    -- a change that keeps the row of each live element of the chosen trees keeps the rows of all
    pub chosen_looks : (n p : ℕ) (f : Forest Element) → AllByRecursion (λ (v : Live). row_of (change v.element) ≡ row_of v.element) (chosen_live chosen n p f)
        → forest_map row_of (chosen_map change chosen n f) ≡ forest_map row_of f
    chosen_looks n p NoTree kept = refl
    chosen_looks n p (Tree knot h below behind) kept =
        let Q : Live → Type 0 = λ v. row_of (change v.element) ≡ row_of v.element in
        let tree : Forest Element = Tree knot h below NoTree in
        let q : ℕ = p + (size_of h + length (spelling (flat below))) in
        let here : List Live = cond (chosen n) (live_from n p tree) [] in
        let there : List Live = chosen_live chosen (end_of n below) q behind in
        let others : Forest Element = chosen_map change chosen (end_of n below) behind in
        map-joined row_of (one_changed (chosen n) tree) others
        ∙ ap (λ (t : Forest Row). joined t (forest_map row_of others)) (one_looks (chosen n) n p tree (each_first Q here there kept))
        ∙ ap (λ (t : Forest Row). Tree knot (row_of h) (forest_map row_of below) t) (chosen_looks (end_of n below) q behind (each_last Q here there kept))

    -- what holds of each element, and of what becomes of each live one of the chosen trees, holds of each after the
    -- change
    pub chosen_each : (P : Element → Type 0) (n p : ℕ) (f : Forest Element) → AllByRecursion P (flat f)
        → AllByRecursion (λ (v : Live). P (change v.element)) (chosen_live chosen n p f)
        → AllByRecursion P (flat (chosen_map change chosen n f))
    chosen_each P n p NoTree each those = tt
    chosen_each P n p (Tree knot h below behind) each those =
        let Q : Live → Type 0 = λ v. P (change v.element) in
        let tree : Forest Element = Tree knot h below NoTree in
        let q : ℕ = p + (size_of h + length (spelling (flat below))) in
        let here : List Live = cond (chosen n) (live_from n p tree) [] in
        let there : List Live = chosen_live chosen (end_of n below) q behind in
        let others : Forest Element = chosen_map change chosen (end_of n below) behind in
        let inner : AllByRecursion P (flat tree) = (each.0, each_both P (flat below) [] (each_first P (flat below) (flat behind) each.1) tt) in
        subst (AllByRecursion P) (sym (flat-joined (one_changed (chosen n) tree) others))
        (each_both P (flat (one_changed (chosen n) tree)) (flat others) (one_each P (chosen n) n p tree inner (each_first Q here there those))
        (chosen_each P (end_of n below) q behind (each_last P (flat below) (flat behind) each.1) (each_last Q here there those)))

module _ (dim : ℕ) (r : Rule) (Ready : Element → Type 0) (put_right : (v : Element) → IsWellFormed dim v → Ready v → IsPut dim r v) where
  -- what a row puts into a chosen tree
  one_turned : (b : Bool) (n p : ℕ) (tree : Forest Element) → AllByRecursion (IsWellFormed dim) (flat tree)
      → AllByRecursion (λ (v : Live). Ready v.element) (cond b (live_from n p tree) [])
      → Turns p (spelling (flat tree)) (live_puts r (cond b (live_from n p tree) [])) (spelling (flat (one_changed r.made b tree)))
  one_turned true n p tree good ready = forest_turned dim r Ready put_right tree n p good ready
  one_turned false n p tree good ready = turns_none p (spelling (flat tree))

  -- what it puts into the live elements of the chosen trees turns the bytes of all into those of the changed ones
  pub chosen_turned : (chosen : ℕ → Bool) (n p : ℕ) (f : Forest Element) → AllByRecursion (IsWellFormed dim) (flat f)
      → AllByRecursion (λ (v : Live). Ready v.element) (chosen_live chosen n p f)
      → Turns p (spelling (flat f)) (live_puts r (chosen_live chosen n p f)) (spelling (flat (chosen_map r.made chosen n f)))
  chosen_turned chosen n p NoTree good ready = turns_none p []
  chosen_turned chosen n p (Tree knot h below behind) good ready =
      let Q : Live → Type 0 = λ v. Ready v.element in
      let tree : Forest Element = Tree knot h below NoTree in
      let q : ℕ = p + (size_of h + length (spelling (flat below))) in
      let here : List Live = cond (chosen n) (live_from n p tree) [] in
      let there : List Live = chosen_live chosen (end_of n below) q behind in
      let others : Forest Element = chosen_map r.made chosen (end_of n below) behind in
      let inner : AllByRecursion (IsWellFormed dim) (flat tree) =
      (good.0, each_both (IsWellFormed dim) (flat below) [] (each_first (IsWellFormed dim) (flat below) (flat behind) good.1) tt) in
      let long : length (spelling (flat tree)) ≡ size_of h + length (spelling (flat below)) =
      ap (λ (l : List Element). length (spelling (h ∷ l))) (append-nil (flat below)) ∙ length-append (spell h) (spelling (flat below)) in
      let first = one_turned (chosen n) n p tree inner (each_first Q here there ready) in
      let rest = chosen_turned chosen (end_of n below) q behind (each_last (IsWellFormed dim) (flat below) (flat behind) good.1)
      (each_last Q here there ready) in
      let both = turns_then p q _ _ _ _ _ _ (omega (arith, long)) first rest in
      turns_as p _ _ _ _ _ _ (sym (first_spelled tree behind)) (sym (flat_map-append (λ (v : Live). r.puts v.place v.element) here there))
      (sym (first_spelled (one_changed r.made (chosen n) tree) others)) both

-- an element behind some trees: its tree is that of the trees behind them
tree_past : {A : Type 0} (g f : Forest A) (n k : ℕ) → n ≡ count_in g + k → tree_at n (joined g f) ≡ tree_at k f
tree_past NoTree f n k is = let same : n ≡ k = omega arith in ap (λ (m : ℕ). tree_at m f) same
tree_past (Tree knot h below behind) f zero k is = absurd (omega arith)
tree_past (Tree knot h below behind) f (suc m) k is =
    let long = length-append (flat below) (flat behind) in
    let past : count_in below ≤ m = omega arith in
    cond-false (nat_lt m (count_in below)) (tree_at m below) (tree_at (m - count_in below) (joined behind f)) (le-ltb m (count_in below) past)
    ∙ tree_past behind f (m - count_in below) k (omega arith)

-- and a tree right behind them has no header above it
above_none : (first p : ℕ) (f : Forest Element) → above_from 0 first p f ≡ []
above_none first p NoTree = refl
above_none first p (Tree knot h below behind) = refl

above_past : (g f : Forest Element) (n first p : ℕ) → n ≡ count_in g → above_from n first p (joined g f) ≡ []
above_past NoTree f n first p is = ap (λ (m : ℕ). above_from m first p f) is ∙ above_none first p f
above_past (Tree knot h below behind) f zero first p is = absurd (omega arith)
above_past (Tree knot h below behind) f (suc m) first p is =
    let long = length-append (flat below) (flat behind) in
    let past : count_in below ≤ m = omega arith in
    cond-false (nat_lt m (count_in below)) _ _ (le-ltb m (count_in below) past)
    ∙ above_past behind f (m - count_in below) (end_of first below) (p + (size_of h + length (spelling (flat below)))) (omega arith)

-- trees behind trees behind trees
pub joined_assoc : {A : Type 0} (a b c : Forest A) → joined (joined a b) c ≡ joined a (joined b c)
joined_assoc NoTree b c = refl
joined_assoc {A} (Tree knot h below behind) b c = ap (λ (t : Forest A). Tree knot h below t) (joined_assoc behind b c)

-- what is listed of each of some chosen numbers of which the first is known
first_listed : {A : Type 0} (list : ℕ → List A) (b : Bool) (n : ℕ) (ns : List ℕ) → flat_map list (cond b (n ∷ ns) ns) ≡ cond b (list n) [] ++ flat_map list ns
first_listed list true n ns = refl
first_listed list false n ns = refl

-- a drawing of which some trees stand behind others
module _ (es : List Element) (g f : Forest Element) (whole : joined g f ≡ forest row_of es) (n : ℕ) (at : n ≡ count_in g) where
  parts : es ≡ flat g ++ flat f
  parts = sym (flat-forest row_of es) ∙ ap flat (sym whole) ∙ flat-joined g f

  -- the first of them begins where these end
  begins : offset_of es n ≡ length (spelling (flat g))
  begins = ap (λ (l : List Element). length (spelling l)) (ap (take n) parts ∙ take_at (flat g) (flat f) n (sym at))

  no_header : above_tree es n ≡ []
  no_header = ap (above_from n 0 0) (sym whole) ∙ above_past g f n 0 0 at

  -- its live elements
  live_there : live_tree es n ≡ live_from n (length (spelling (flat g))) (tree_at 0 f)
  live_there =
      ap (live_from n (offset_of es n)) (ap (tree_at n) (sym whole) ∙ tree_past g f n 0 (omega (arith, at)))
      ∙ ap (λ (p : ℕ). live_from n p (tree_at 0 f)) begins

-- the live elements of the chosen roots of trees behind others are those of the chosen trees
live_walk : (es : List Element) (chosen : ℕ → Bool) (g f : Forest Element) (n p : ℕ) → joined g f ≡ forest row_of es → n ≡ count_in g
    → p ≡ length (spelling (flat g))
    → flat_map (live_tree es) (filter chosen (roots n f)) ≡ chosen_live chosen n p f
live_walk es chosen g NoTree n p whole at place = refl
live_walk es chosen g (Tree knot h below behind) n p whole at place =
    let tree : Forest Element = Tree knot h below NoTree in
    let q : ℕ = p + (size_of h + length (spelling (flat below))) in
    let here : live_tree es n ≡ live_from n p tree = live_there es g (Tree knot h below behind) whole n at ∙ ap (λ (k : ℕ). live_from n k tree) (sym place) in
    let next : joined (joined g tree) behind ≡ forest row_of es = joined_assoc g tree behind ∙ whole in
    let inner = append-nil (flat below) in
    let more = ap (length {A = Element}) (flat-joined g tree) in
    let more_long = length-append (flat g) (flat tree) in
    let inner_long = ap (length {A = Element}) inner in
    let count : end_of n below ≡ count_in (joined g tree) = omega arith in
    let long : length (spelling (flat (joined g tree))) ≡ length (spelling (flat g)) + (size_of h + length (spelling (flat below))) =
    ap (length {A = ℕ}) (first_spelled g tree) ∙ length-append (spelling (flat g)) (spelling (flat tree))
    ∙ ap (λ (l : List Element). length (spelling (flat g)) + length (spelling (h ∷ l))) inner
    ∙ ap (λ (k : ℕ). length (spelling (flat g)) + k) (length-append (spell h) (spelling (flat below))) in
    first_listed (live_tree es) (chosen n) n (filter chosen (roots (end_of n below) behind))
    ∙ ap (λ (vs : List Live). cond (chosen n) vs [] ++ flat_map (live_tree es) (filter chosen (roots (end_of n below) behind))) here
    ∙ ap (λ (vs : List Live). cond (chosen n) (live_from n p tree) [] ++ vs)
    (live_walk es chosen (joined g tree) behind (end_of n below) q next count (omega (arith, long, place)))

-- so are those of the chosen roots of a drawing
pub roots_live : (es : List Element) (chosen : ℕ → Bool)
    → flat_map (live_tree es) (filter chosen (roots 0 (forest row_of es))) ≡ chosen_live chosen 0 0 (forest row_of es)
roots_live es chosen = live_walk es chosen NoTree (forest row_of es) 0 0 refl refl refl

-- no header is above a root
above_walk : (es : List Element) (g f : Forest Element) (n : ℕ) → joined g f ≡ forest row_of es → n ≡ count_in g
    → AllByRecursion (λ m. above_tree es m ≡ []) (roots n f)
above_walk es g NoTree n whole at = tt
above_walk es g (Tree knot h below behind) n whole at =
    let tree : Forest Element = Tree knot h below NoTree in
    let next : joined (joined g tree) behind ≡ forest row_of es = joined_assoc g tree behind ∙ whole in
    let inner = ap (length {A = Element}) (append-nil (flat below)) in
    let more = ap (length {A = Element}) (flat-joined g tree) in
    let more_long = length-append (flat g) (flat tree) in
    let count : end_of n below ≡ count_in (joined g tree) = omega arith in
    (no_header es g (Tree knot h below behind) whole n at, above_walk es (joined g tree) behind (end_of n below) next count)

pub roots_above : (es : List Element) → AllByRecursion (λ m. above_tree es m ≡ []) (roots 0 (forest row_of es))
roots_above es = above_walk es NoTree (forest row_of es) 0 refl refl
