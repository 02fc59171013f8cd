use Rattle.std.proofs.Common.{◌≡◌, ◌-◌}
use Rattle.nest_tree.specs.Pass.{all_rows, IsReading}
use Rattle.nest_tree.proofs.reading.read_on.Given as goal

abbrev pub invariant-elements : goal.invariant-elements
invariant-elements l = record {
  reading : IsReading l.pass l.kept;
  rows : all_rows l.pass ≡ l.seen.list;
  source : l.pass.source ≡ l.source;
  first : l.pass.first ≡ l.first;
}

abbrev pub decreases-elements : goal.decreases-elements
decreases-elements l = l.count - l.pass.at
