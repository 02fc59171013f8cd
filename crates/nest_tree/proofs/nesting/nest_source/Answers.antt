use Rattle.nest_tree.proofs.BrokenList.{all_listed}
use Rattle.nest_tree.proofs.FirstEntries.{first_read, first_apart}
use Rattle.std.proofs.Common.{◌∙◌, ◌++◌, ◌∷◌, [], ap}
use Rattle.nest_tree.specs.NestEntries.{NestEntry}
use Rattle.nest_tree.proofs.nesting.nest_source.Goals as goal

pub read_on-requires-clause-read : goal.read_on-requires-clause-read
read_on-requires-clause-read c =
    first_read c.args.seen.list c.in_ok-ends.ends.items c.push_reserved.new.self.items c.in_ok-entries.entries.items c.push.new.self.items
    c.in_ok-broken.broken.items c.requires.nonempty c.in_ok-ends.ensures.items c.push_reserved.ensures.items c.in_ok-entries.ensures.items
    (c.push.ensures.items ∙ ap (λ (x : NestEntry). c.in_ok-entries.entries.items ++ x ∷ []) c.new.ensures) c.in_ok-broken.ensures.items

pub read_on-requires-clause-apart : goal.read_on-requires-clause-apart
read_on-requires-clause-apart c =
    first_apart c.args.seen.list c.in_ok-ends.ends.items c.push_reserved.new.self.items c.requires.nonempty c.in_ok-ends.ensures.items
    c.push_reserved.ensures.items

pub invariant_of-result : goal.invariant_of-result
invariant_of-result c = record {
  some = c.requires.nonempty;
  few = c.requires.bounded;
  words = c.requires.words;
  places = c.read_on.ensures.places;
  are_broken = all_listed c.args.seen.list c.read_on.new.kept.broken.items c.read_on.ensures.are_broken;
}
