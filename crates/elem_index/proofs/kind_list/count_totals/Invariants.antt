use Rattle.std.proofs.Common.{◌≡◌, take}
use Rattle.elem_index.specs.Kinds.{total_count}
use Rattle.elem_index.proofs.kind_list.count_totals.Given as goal

abbrev pub invariant-loop-byte : goal.invariant-loop-byte
invariant-loop-byte l = l.count ≡ total_count (take l.byte-index l.bytes)
