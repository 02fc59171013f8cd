-- Which trees of a drawing a fence selects.
use Rattle.std.specs.Prelude.{ℕ, List, filter}
use Rattle.plane_geom.specs.declared.pt.Pt.{Pt}
use Rattle.dgn_drawing.specs.declared.mask.Mask.{Mask}
use Rattle.dgn_drawing.specs.declared.mode.Mode.{Mode}
use Rattle.dgn_drawing.specs.Element.{Element}
use Rattle.dgn_drawing.specs.Rows.{row_of}
use Rattle.dgn_drawing.specs.Nesting.{forest}
use Rattle.dgn_drawing.specs.Shown.{roots, tree_shown}
use Rattle.dgn_fence.specs.Taken.{takes}

-- the numbers of the roots, in file order, whose items under the mask the fence takes
abbrev pub selected : ℕ → Mask → List Pt → Mode → List Element → List ℕ
selected dim mask fence mode es = filter (λ n. takes mode fence (tree_shown dim mask es n)) (roots 0 (forest row_of es))
