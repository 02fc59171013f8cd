use Rattle.std.proofs.Common.{◌≤◌, take, vec_capacity}
use Rattle.std.specs.List.{AllByRecursion}
use Rattle.nest_tree.specs.Depths.{IsWordTotal}
use Rattle.nest_tree.proofs.RowPlaces.{Summed}
use Rattle.nest_tree.proofs.sums.set_sums.Given as goal

abbrev pub invariant-loop-i : goal.invariant-loop-i
invariant-loop-i l = Summed l.rows l.sums.items l.sum l.i × (vec_capacity l.initial.sums ≤ vec_capacity l.sums) × AllByRecursion IsWordTotal (take l.i l.rows)
