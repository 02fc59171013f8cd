-- What a display shows of nested elements under a mask of levels.
use Rattle.std.specs.Prelude.{ℕ, ◌+◌, ◌/◌, ◌%◌, ◌^◌, ◌==◌, ◌≡◌, ◌&&◌, not, Bool, if◌then◌else◌, Some, None, List, [], ◌∷◌, ◌++◌}
use Rattle.std.specs.Option.{option_to_list}
use Rattle.dgn_drawing.specs.declared.types.item.Item.{Item}
use Rattle.dgn_drawing.specs.declared.row.Row.{Row}
use Rattle.dgn_drawing.specs.declared.mask.Mask.{Mask}
use Rattle.dgn_drawing.specs.Element.{Element}
use Rattle.dgn_drawing.specs.Rows.{row_of}
use Rattle.dgn_drawing.specs.Items.{item_of}
use Rattle.dgn_drawing.specs.Nesting.{Knot, Leaf, Group, Run, Loose, Forest, NoTree, Tree, forest}
use Rattle.dgn_drawing.specs.Numbering.{end_of, parent_of}
use Rattle.dgn_layout.specs.declared.TheConstants.{SHARED_CELL}

-- whether a mask shows a level: bit L of it shows level L
abbrev pub shows : Mask → ℕ → Bool
shows mask level = mask.0 / 2 ^ level % 2 == 1

-- an element's item, if it has one, as a list
abbrev pub its_item : ℕ → ℕ → ℕ → Element → List Item
its_item dim number depth e = option_to_list (item_of dim number depth e)

-- what an element shows by itself: its item, unless it is marked deleted or the mask hides its level
abbrev pub shown_alone : ℕ → Mask → ℕ → ℕ → Element → List Item
shown_alone dim mask number depth e = if not e.deleted && shows mask e.level then its_item dim number depth e else []

-- a head's item and then those of its members, if these show any
abbrev pub headed : List Item → List Item → List Item
headed head [] = []
headed head (item ∷ items) = head ++ item ∷ items

-- what a tree shows, by what its head is and by what the members below it show. A group's own level isn't
-- asked. A run shows its head alone, if that isn't a shared cell definition, type 34
abbrev pub shown_tree : ℕ → Mask → Knot → ℕ → ℕ → Element → List Item → List Item
shown_tree dim mask Leaf number depth e members = shown_alone dim mask number depth e
shown_tree dim mask Group number depth e members = if e.deleted then [] else headed (its_item dim number depth e) members
shown_tree dim mask Run number depth e members = if e.kind == SHARED_CELL then [] else shown_alone dim mask number depth e
shown_tree dim mask Loose number depth e members = []

-- the items of trees whose elements are numbered from n on and whose roots have that depth
abbrev pub items : ℕ → Mask → ℕ → ℕ → Forest Element → List Item
items dim mask n depth NoTree = []
items dim mask n depth (Tree knot e below behind) =
    shown_tree dim mask knot n depth e (items dim mask (n + 1) (depth + 1) below) ++ items dim mask (end_of n below) depth behind

-- the display: the items of all roots in file order
abbrev pub shown : ℕ → Mask → List Element → List Item
shown dim mask es = items dim mask 0 0 (forest row_of es)

-- the tree of the root that has number `root`, of trees whose elements are numbered from n on
abbrev pub tree_from : {A : Type 0} → ℕ → ℕ → Forest A → Forest A
tree_from root n NoTree = NoTree
tree_from root n (Tree knot h below behind) = if n == root then Tree knot h below NoTree else tree_from root (end_of n below) behind

-- the items of the tree of root n, which has depth 0
abbrev pub tree_shown : ℕ → Mask → List Element → ℕ → List Item
tree_shown dim mask es n = items dim mask n 0 (tree_from n 0 (forest row_of es))

-- element n is a root
abbrev pub IsRoot : {A : Type 0} → (A → Row) → List A → ℕ → Type 0
IsRoot row es n = parent_of row es n ≡ Some None

-- the numbers of the roots of trees whose elements are numbered from n on
abbrev pub roots : {A : Type 0} → ℕ → Forest A → List ℕ
roots n NoTree = []
roots n (Tree knot h below behind) = n ∷ roots (end_of n below) behind
