use Rattle.std.proofs.Common.{rules, append_assoc}
use Rattle.dgn_drawing.specs.Spelling.{display_bytes}
use Rattle.dgn_drawing.proofs.making.push_display.Goals as goal

pub returns : goal.returns
unfolding display_bytes
returns c = search (rules, append_assoc)
