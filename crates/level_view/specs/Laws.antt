-- What holds of every display.
use Rattle.std.specs.Prelude.{ℕ, ◌≡◌, List}
use Rattle.std.specs.List.{flat_map, AllByRecursion}
use Rattle.dgn_drawing.specs.declared.mask.Mask.{Mask}
use Rattle.dgn_drawing.specs.Element.{Element}
use Rattle.dgn_drawing.specs.Rows.{row_of}
use Rattle.dgn_drawing.specs.Nesting.{forest}
use Rattle.dgn_drawing.specs.Shown.{shown, tree_shown, roots, IsRoot}

-- the display is the items of the trees of all roots, one behind the other
abbrev pub DisplayIsOfTrees : Type 0
DisplayIsOfTrees = (dim : ℕ) (mask : Mask) (es : List Element) → shown dim mask es ≡ flat_map (λ n. tree_shown dim mask es n) (roots 0 (forest row_of es))

-- and these are roots
abbrev pub RootsAreRoots : Type 0
RootsAreRoots = (es : List Element) → AllByRecursion (λ n. IsRoot row_of es n) (roots 0 (forest row_of es))
