use Rattle.std.proofs.Common.{refl, ◌≡◌, ◌++◌, ◌+◌, ◌<◌, ap, arith, List, length, ℕ}
use Rattle.std.proofs.lemmas.List.{length-append}
use Rattle.dgn_drawing.specs.declared.row.Row.{Row}
use Rattle.nest_tree.specs.Nested.{Nested}
use Rattle.nest_tree.proofs.GrownNestings.{marks_behind, grown_new, grown_words, grown_places, grown_apart, grown_broken}
use Rattle.nest_tree.proofs.BrokenList.{all_listed}
use Rattle.nest_tree.proofs.OpenLists.{length-ends}
use Rattle.nest_tree.proofs.nested.Nest.grow.Goals as goal

few_grown : (new rows all : List Row) (t : Nested) (most : ℕ) → rows ≡ t.rows → all ≡ rows ++ new → length t.rows + length new < most → length all < most
few_grown new rows all t most same is few = omega (arith, length-append rows new, ap (length {A = Row}) is, ap (length {A = Row}) same)

some_grown : (new rows all : List Row) → all ≡ rows ++ new → 0 < length rows → 0 < length all
some_grown new rows all is some = omega (arith, length-append rows new, ap (length {A = Row}) is)

pub read_on-requires-clause-rows : goal.read_on-requires-clause-rows
read_on-requires-clause-rows c =
    grown_new c.self.inside.seen.list c.args.rows.now c.then-seen.result.list c.self.inside.placed.ends.items c.self.inside.placed.entries.items
    c.self.inside.placed.broken.items
    c.self.invariant (marks_behind c.self.inside.seen.list c.args.rows.now c.self.invariant.some c.requires.free) c.then-seen.ensures

pub read_on-requires-clause-apart : goal.read_on-requires-clause-apart
read_on-requires-clause-apart c =
    grown_apart c.self.inside.seen.list c.args.rows.now c.then-seen.result.list c.self.inside.placed.ends.items c.self.inside.placed.entries.items
    c.self.inside.placed.broken.items c.self.invariant
    (marks_behind c.self.inside.seen.list c.args.rows.now c.self.invariant.some c.requires.free)
    c.then-seen.ensures

pub read_on-requires-clause-read : goal.read_on-requires-clause-read
read_on-requires-clause-read c =
    let apart = marks_behind c.self.inside.seen.list c.args.rows.now c.self.invariant.some c.requires.free in
    record {
      places = grown_places c.self.inside.seen.list c.args.rows.now c.then-seen.result.list c.self.inside.placed.ends.items c.self.inside.placed.entries.items
          c.self.inside.placed.broken.items c.self.invariant apart c.then-seen.ensures;
      are_broken = grown_broken c.self.inside.seen.list c.args.rows.now c.then-seen.result.list c.self.inside.placed.ends.items
          c.self.inside.placed.entries.items
          c.self.inside.placed.broken.items c.self.invariant apart c.then-seen.ensures (length c.self.inside.placed.ends.items) refl;
    }

pub read_on-requires-clause-nonempty : goal.read_on-requires-clause-nonempty
read_on-requires-clause-nonempty c =
    let some = c.self.invariant.some in
    omega (
      arith,
      length-ends c.self.inside.seen.list (length c.self.inside.seen.list) c.self.inside.placed.ends.items c.self.inside.placed.entries.items
          c.self.invariant.places,
    )

pub invariant_of-self : goal.invariant_of-self
invariant_of-self c = record {
  some = some_grown c.args.rows.now c.self.inside.seen.list c.then-seen.result.list c.then-seen.ensures c.self.invariant.some;
  few = few_grown c.args.rows.now c.self.inside.seen.list c.then-seen.result.list c.args.self.now 4294967295 (ap (λ (t : Nested). t.rows) c.self.view_is)
      c.then-seen.ensures c.requires.bounded;
  words = grown_words c.self.inside.seen.list c.args.rows.now c.then-seen.result.list c.self.inside.placed.ends.items c.self.inside.placed.entries.items
      c.self.inside.placed.broken.items c.self.invariant
      (marks_behind c.self.inside.seen.list c.args.rows.now c.self.invariant.some c.requires.free)
      c.then-seen.ensures c.set_sums.ensures.words;
  places = c.read_on.ensures.places;
  are_broken = all_listed c.then-seen.result.list c.read_on.new.kept.broken.items c.read_on.ensures.are_broken;
}
