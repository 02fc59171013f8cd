use Rattle.std.proofs.Common.{◌∙◌, sym, ap, subst, arith, ◌++◌, ◌∷◌, [], ◌+◌, ℕ, List, Some}
use Rattle.nest_tree.specs.NestEntries.{NestEntry}
use Rattle.nest_tree.specs.Pass.{all_rows}
use Rattle.nest_tree.specs.Places.{ArePlaces}
use Rattle.nest_tree.proofs.HeadersApart.{parent_small}
use Rattle.nest_tree.proofs.ListStacks.{end_fits, known_entry, going_ends}
use Rattle.nest_tree.proofs.OpenLists.{one_more}
use Rattle.nest_tree.proofs.pass.Pass.place_next.Goals as goal

pub overflow_add-end-2 : goal.overflow_add-end-2
overflow_add-end-2 c =
    let p = c.args.self.now in
    let here = c.requires.here in
    omega (arith, end_fits (all_rows p) p.at c.args.around here.going here.inside c.args.shape c.requires.shape c.requires.reading.pass.bounded)

pub overflow_cast-end : goal.overflow_cast-end
overflow_cast-end c =
    let p = c.args.self.now in
    let here = c.requires.here in
    omega (arith, end_fits (all_rows p) p.at c.args.around here.going here.inside c.args.shape c.requires.shape c.requires.reading.pass.bounded)

pub push_reserved-requires : goal.push_reserved-requires
push_reserved-requires c =
    let p = c.args.self.now in
    let here = c.requires.here in
    omega (arith, going_ends (all_rows p) p.at c.args.around here.going, here.inside, c.requires.reading.filled.room.for_ends)

pub new-entry-requires-clause-above : goal.new-entry-requires-clause-above
new-entry-requires-clause-above c =
    let p = c.args.self.now in
    let here = c.requires.here in
    parent_small (all_rows p) p.at c.args.around here.going
    (omega (arith, going_ends (all_rows p) p.at c.args.around here.going, here.inside, c.requires.reading.pass.bounded))

pub push-requires-clause-has_room : goal.push-requires-clause-has_room
push-requires-clause-has_room c =
    let p = c.args.self.now in
    let here = c.requires.here in
    omega (arith, going_ends (all_rows p) p.at c.args.around here.going, here.inside, c.requires.reading.filled.room.for_entries)

pub add_if_broken-requires-clause-entry : goal.add_if_broken-requires-clause-entry
add_if_broken-requires-clause-entry c =
    let p = c.args.self.now in
    let here = c.requires.here in
    ap (λ (x : NestEntry). Some x) c.new-entry.ensures
    ∙ known_entry (all_rows p) p.at c.args.around here.going here.inside c.args.shape c.requires.shape

pub add_if_broken-requires-clause-has_room : goal.add_if_broken-requires-clause-has_room
add_if_broken-requires-clause-has_room c =
    let p = c.args.self.now in
    let here = c.requires.here in
    omega (arith, going_ends (all_rows p) p.at c.args.around here.going, here.inside, c.requires.reading.filled.room.for_broken)

pub returns-clause-read : goal.returns-clause-read
returns-clause-read c =
    let p = c.args.self.now in
    let kept = c.args.kept.now in
    let here = c.requires.here in
    let entries = c.push.ensures.items ∙ ap (λ (x : NestEntry). kept.entries.items ++ x ∷ []) c.new-entry.ensures in
    record {
      places = subst (λ (l : List ℕ). ArePlaces (all_rows p) (p.at + 1) l c.push.new.self.items) (sym c.push_reserved.ensures.items)
          (subst (λ (l : List NestEntry). ArePlaces (all_rows p) (p.at + 1) (kept.ends.items ++ (p.at + 1 + c.args.shape.count) ∷ []) l) (sym entries)
          (one_more (all_rows p) p.at c.args.around here.going here.inside c.args.shape c.requires.shape
          kept.ends.items kept.entries.items c.requires.reading.filled.read.places));
      are_broken = c.add_if_broken.ensures.list;
    }
