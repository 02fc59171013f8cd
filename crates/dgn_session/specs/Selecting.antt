-- What a fence takes of items that lie apart from it.
use Rattle.std.specs.Prelude.{◌≡◌, false, List}
use Rattle.plane_geom.specs.declared.pt.Pt.{Pt}
use Rattle.dgn_drawing.specs.declared.mode.Mode.{Mode}
use Rattle.dgn_drawing.specs.declared.types.item.Item.{Item}
use Rattle.dgn_fence.specs.Taken.{takes}

-- it takes the items neither where they are inside nor where some overlaps
pub record HasNone (fence : List Pt) (items : List Item) : Type 0 where
  pub inside : takes Mode.Inside fence items ≡ false
  pub overlap : takes Mode.Overlap fence items ≡ false
