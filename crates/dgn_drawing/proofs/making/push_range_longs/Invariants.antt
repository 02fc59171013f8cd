use Rattle.std.proofs.Common.{◌≡◌, ◌++◌, take}
use Rattle.std.specs.List.{flat_map}
use Rattle.dgn_words.specs.Numbers.{range_long_bytes}
use Rattle.dgn_drawing.proofs.making.push_range_longs.Given as goal

-- those so far
abbrev pub invariant-loop-number : goal.invariant-loop-number
invariant-loop-number l = l.bytes.items ≡ l.fn.bytes.items ++ flat_map range_long_bytes (take l.number-index l.numbers)
