use Rattle.std.proofs.Common.{◌≡◌, drop}
use Rattle.std.specs.List.{list_all}
use Rattle.dgn_fence.specs.Taken.{is_inside, parts}
use Rattle.dgn_fence.proofs.types.fence.Fence.all_inside.Given as goal

-- All parts that are left are inside where all are.
abbrev pub invariant-loop-item : goal.invariant-loop-item
invariant-loop-item l = list_all (is_inside l.self) (parts (drop l.item-index l.items)) ≡ list_all (is_inside l.self) (parts l.items)
