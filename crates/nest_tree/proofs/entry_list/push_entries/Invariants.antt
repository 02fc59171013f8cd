use Rattle.std.proofs.Common.{◌≡◌, ◌-◌, ◌≤◌, ◌+◌, ◌++◌, replicate, vec_len, vec_capacity}
use Rattle.nest_tree.proofs.entry_list.push_entries.Given as goal

abbrev pub invariant-loop : goal.invariant-loop
invariant-loop l =
    (l.list.items ++ replicate (l.count - l.counter) l.entry ≡ l.initial.list.items ++ replicate l.count l.entry)
    × (vec_len l.list + (l.count - l.counter) ≤ vec_capacity l.list)
    × (vec_capacity l.initial.list ≤ vec_capacity l.list)
