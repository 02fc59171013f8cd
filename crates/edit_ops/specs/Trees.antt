-- The part of one element among the trees of a drawing, which is the element and all below it; its live elements
-- and the headers above it; and what becomes of the trees where it is changed. Elements are numbered from 0, in
-- the order of the trees.
use Rattle.std.specs.Prelude.{ℕ, zero, suc, ◌+◌, ◌-◌, nat_lt, Bool, if◌then◌else◌, List, [], ◌∷◌, ◌++◌, length, slice_get, option_map, Option, Some, None}
use Rattle.std.specs.Option.{option_to_list}
use Rattle.elem_index.specs.Offsets.{offset_of}
use Rattle.dgn_drawing.specs.Element.{Element}
use Rattle.dgn_drawing.specs.Spelling.{spelling, size_of}
use Rattle.dgn_drawing.specs.Rows.{row_of}
use Rattle.dgn_drawing.specs.Nesting.{Forest, NoTree, Tree, flat, forest, forest_map, joined}
use Rattle.dgn_drawing.specs.Numbering.{end_of}

-- how many elements trees have
abbrev pub count_in : {A : Type 0} → Forest A → ℕ
count_in f = length (flat f)

-- the part of element n: the element and all below it, as a tree of its own
abbrev pub tree_at : {A : Type 0} → ℕ → Forest A → Forest A
tree_at n NoTree = NoTree
tree_at zero (Tree knot h below behind) = Tree knot h below NoTree
tree_at (suc n) (Tree knot h below behind) = if nat_lt n (count_in below) then tree_at n below else tree_at (n - count_in below) behind

-- the trees with another tree in place of the part of element n, and each header above it changed
abbrev pub exchange : {A : Type 0} → (A → A) → (Forest A → Forest A) → ℕ → Forest A → Forest A
exchange above other n NoTree = NoTree
exchange above other zero (Tree knot h below behind) = joined (other (Tree knot h below NoTree)) behind
exchange above other (suc n) (Tree knot h below behind) =
    if nat_lt n (count_in below) then Tree knot (above h) (exchange above other n below) behind
    else Tree knot h below (exchange above other (n - count_in below) behind)

-- the trees with each live element changed: one that neither is marked deleted nor lies below one that is
abbrev pub live_map : {A : Type 0} → (A → Bool) → (A → A) → Forest A → Forest A
live_map deleted change NoTree = NoTree
live_map deleted change (Tree knot h below behind) =
    Tree knot (if deleted h then h else change h) (if deleted h then below else live_map deleted change below) (live_map deleted change behind)

-- an element of a drawing: its number, the byte of the body at which it begins, and the element
pub record Live : Type 0 where
  pub number : ℕ
  pub place : ℕ
  pub element : Element

-- the live elements of trees whose first element has number n and begins at byte p
abbrev pub live_from : ℕ → ℕ → Forest Element → List Live
live_from n p NoTree = []
live_from n p (Tree knot e below behind) =
    (if e.deleted then [] else record { number = n; place = p; element = e } ∷ live_from (n + 1) (p + size_of e) below)
    ++ live_from (end_of n below) (p + (size_of e + length (spelling (flat below)))) behind

-- the live elements of the part of element n
abbrev pub live_tree : List Element → ℕ → List Live
live_tree es n = live_from n (offset_of es n) (tree_at n (forest row_of es))

-- all elements of trees whose first element has number n and begins at byte p
abbrev pub every_from : ℕ → ℕ → Forest Element → List Live
every_from n p NoTree = []
every_from n p (Tree knot e below behind) =
    record { number = n; place = p; element = e }
    ∷ (every_from (n + 1) (p + size_of e) below ++ every_from (end_of n below) (p + (size_of e + length (spelling (flat below)))) behind)

-- which elements of a part a change reaches: the live ones, each of them, or its head alone
pub data Reach : Type 0 where
  Living : Reach
  Every : Reach
  Head : Reach

-- the trees with each element changed that it reaches
abbrev pub reach_map : Reach → (Element → Element) → Forest Element → Forest Element
reach_map Living change f = live_map (λ e. e.deleted) change f
reach_map Every change f = forest_map change f
reach_map Head change NoTree = NoTree
reach_map Head change (Tree knot h below behind) = Tree knot (change h) below behind

-- these elements
abbrev pub reached_from : Reach → ℕ → ℕ → Forest Element → List Live
reached_from Living n p f = live_from n p f
reached_from Every n p f = every_from n p f
reached_from Head n p NoTree = []
reached_from Head n p (Tree knot e below behind) = record { number = n; place = p; element = e } ∷ []

-- of the part of element n
abbrev pub reached : Reach → List Element → ℕ → List Live
reached reach es n = reached_from reach n (offset_of es n) (tree_at n (forest row_of es))

-- the headers above element n of trees whose first element has that number and begins at byte p, the root first
abbrev pub above_from : ℕ → ℕ → ℕ → Forest Element → List Live
above_from n first p NoTree = []
above_from zero first p (Tree knot e below behind) = []
above_from (suc n) first p (Tree knot e below behind) =
    if nat_lt n (count_in below) then record { number = first; place = p; element = e } ∷ above_from n (first + 1) (p + size_of e) below
    else above_from (n - count_in below) (end_of first below) (p + (size_of e + length (spelling (flat below)))) behind

-- the headers above element n of a drawing
abbrev pub above_tree : List Element → ℕ → List Live
above_tree es n = above_from n 0 0 (forest row_of es)

-- element n of a drawing, with its number and its place
abbrev pub found_at : List Element → ℕ → Option Live
found_at es n = option_map (λ e. record { number = n; place = offset_of es n; element = e }) (slice_get es n)

-- the headers above element n, and it itself
abbrev pub path_to : List Element → ℕ → List Live
path_to es n = above_tree es n ++ option_to_list (found_at es n)

-- the headers above the element that an edit names, and the live elements of its part; none where it names none
abbrev pub above_of : List Element → Option ℕ → List Live
above_of es (Some n) = above_tree es n
above_of es None = []

abbrev pub live_of : List Element → Option ℕ → List Live
live_of es (Some n) = live_tree es n
live_of es None = []
