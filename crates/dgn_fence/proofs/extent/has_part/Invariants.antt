use Rattle.std.proofs.Common.{◌≡◌, drop}
use Rattle.dgn_fence.specs.Taken.{has_some, parts}
use Rattle.dgn_fence.proofs.extent.has_part.Given as goal

-- What is left has a part where all have.
abbrev pub invariant-loop-item : goal.invariant-loop-item
invariant-loop-item l = has_some (parts (drop l.item-index l.items)) ≡ has_some (parts l.items)
