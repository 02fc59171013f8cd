use Rattle.std.proofs.Common.{◌≡◌, drop}
use Rattle.std.specs.List.{list_any}
use Rattle.dgn_fence.specs.Taken.{overlaps, parts}
use Rattle.dgn_fence.proofs.types.fence.Fence.some_overlaps.Given as goal

-- Some part that is left overlaps where one of all does.
abbrev pub invariant-loop-item : goal.invariant-loop-item
invariant-loop-item l = list_any (overlaps l.self) (parts (drop l.item-index l.items)) ≡ list_any (overlaps l.self) (parts l.items)
