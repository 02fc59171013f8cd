-- What becomes of the rows that contracts alone see.
use Rattle.std.specs.Prelude.{List, ◌++◌, take}
use Rattle.dgn_drawing.specs.declared.row.Row.{Row}
use Rattle.nest_tree.specs.declared.seen.Step.{Step}
use Rattle.nest_tree.specs.Kept.{kept_rows}

-- rows put behind them, also those of what is kept of elements, or the first ones alone
abbrev pub stepped : List Row → Step → List Row
stepped rows (Step.Behind more) = rows ++ more.now
stepped rows (Step.Kept places kinds totals end) = rows ++ kept_rows places.now kinds.now totals.now end
stepped rows (Step.First count) = take count rows
