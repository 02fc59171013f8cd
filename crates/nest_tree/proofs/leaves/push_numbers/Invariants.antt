use Rattle.std.proofs.Common.{◌≡◌, ◌-◌, ◌≤◌, ◌+◌, ◌++◌, vec_len, vec_capacity}
use Rattle.std.specs.List.{range_with_len}
use Rattle.nest_tree.proofs.leaves.push_numbers.Given as goal

abbrev pub invariant-loop-number : goal.invariant-loop-number
invariant-loop-number l =
    (l.list.items ++ range_with_len l.number (l.first + l.count - l.number) ≡ l.initial.list.items ++ range_with_len l.first l.count)
    × (vec_len l.list + (l.first + l.count - l.number) ≤ vec_capacity l.list)
    × (vec_capacity l.initial.list ≤ vec_capacity l.list)
