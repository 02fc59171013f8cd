use Rattle.std.proofs.Common.{◌≡◌, ◌∙◌, ◌+◌, ◌-◌, ◌++◌, ◌≤◌, ◌<◌, ap, subst, refl, arith, ℕ, Bool, true, false, length, replicate, Vec, Global, vec_len}
use Rattle.std.proofs.Common.{vec_capacity, length-append}
use Rattle.std.specs.Prelude.{is_none}
use Rattle.std.proofs.lemmas.List.{append-nil}
use Rattle.std.specs.List.{range_with_len}
use Rattle.std.proofs.lemmas.List.FromFn.{length-range_with_len}
use Rattle.nest_tree.specs.NestEntries.{NestEntry}
use Rattle.nest_tree.specs.Pass.{all_rows}
use Rattle.nest_tree.specs.Read.{orphans_from}
use Rattle.nest_tree.specs.Sources.{rows_of, IsScan}
use Rattle.nest_tree.proofs.HeadersApart.{parent_small}
use Rattle.nest_tree.proofs.ListStacks.{going_ends}
use Rattle.nest_tree.proofs.RowsRead.{length-read}
use Rattle.nest_tree.proofs.LeavesRead.{leaves_kept, leaves_past, leaves_of, scan_past}
use Rattle.nest_tree.proofs.pass.Pass.put_leaves.Goals as goal

pub push_numbers-requires-clause-bounded : goal.push_numbers-requires-clause-bounded
push_numbers-requires-clause-bounded c =
    let p = c.args.self.now in
    let within = c.requires.some.1 in
    omega (arith, going_ends (all_rows p) p.at c.args.around c.requires.here.going, c.requires.reading.pass.bounded)

pub push_numbers-requires-clause-has_room : goal.push_numbers-requires-clause-has_room
push_numbers-requires-clause-has_room c =
    let p = c.args.self.now in
    let within = c.requires.some.1 in
    omega (
      arith,
      going_ends (all_rows p) p.at c.args.around c.requires.here.going,
      c.requires.reading.pass.bounded,
      c.requires.reading.filled.room.for_ends,
    )

pub new-requires-clause-above : goal.new-requires-clause-above
new-requires-clause-above c =
    let p = c.args.self.now in
    let within = c.requires.some.1 in
    parent_small (all_rows p) p.at c.args.around c.requires.here.going
    (omega (arith, going_ends (all_rows p) p.at c.args.around c.requires.here.going, c.requires.reading.pass.bounded))

pub push_same-requires-clause-has_room : goal.push_same-requires-clause-has_room
push_same-requires-clause-has_room c =
    let p = c.args.self.now in
    let within = c.requires.some.1 in
    omega (
      arith,
      going_ends (all_rows p) p.at c.args.around c.requires.here.going,
      c.requires.reading.pass.bounded,
      c.requires.reading.filled.room.for_entries,
    )

pub push_orphans-requires-clause-has_room : goal.push_orphans-requires-clause-has_room
push_orphans-requires-clause-has_room c =
    let p = c.args.self.now in
    let within = c.requires.some.1 in
    omega (
      arith,
      going_ends (all_rows p) p.at c.args.around c.requires.here.going,
      c.requires.reading.pass.bounded,
      c.requires.reading.filled.room.for_broken,
    )

-- what is left of the room where numbers were put
room_left : (first count : ℕ) (old new : Vec ℕ Global) (more left : ℕ) → more ≤ vec_capacity old - vec_len old → left + count ≤ more
    → new.items ≡ old.items ++ range_with_len first count → vec_capacity old ≤ vec_capacity new → left ≤ vec_capacity new - vec_len new
room_left first count old new more left room fits are grown =
    omega (
      arith,
      ap (length {A = ℕ}) are,
      length-append old.items (range_with_len first count),
      length-range_with_len first count,
      old.ok.0,
      new.ok.0,
    )

orphans_left : (orphans : Bool) (first count : ℕ) (old new : Vec ℕ Global) (more left : ℕ) → more ≤ vec_capacity old - vec_len old → left + count ≤ more
    → new.items ≡ old.items ++ orphans_from orphans first count → vec_capacity old ≤ vec_capacity new → left ≤ vec_capacity new - vec_len new
orphans_left true first count old new more left room fits are grown = room_left first count old new more left room fits are grown
orphans_left false first count old new more left room fits are grown =
    omega (arith, ap (length {A = ℕ}) are, ap (length {A = ℕ}) (append-nil old.items), old.ok.0, new.ok.0)

pub returns : goal.returns
returns c =
    let p = c.args.self.now in
    let kept = c.args.kept.now in
    let pass = c.requires.reading.pass in
    let filled = c.requires.reading.filled in
    let here = c.requires.here in
    let within = c.requires.some.1 in
    let some = c.requires.some.0 in
    let from = pass.from in
    let bound = going_ends (all_rows p) p.at c.args.around here.going in
    let begun : 0 < p.at = omega (arith, pass.begun, from) in
    let leaves = leaves_of (all_rows p) (rows_of p.source) p.first pass.rows (is_none c.args.around.parent) c.args.orphans
    (p.at - p.first) (p.at - p.first + c.args.count) c.requires.leaves p.at (p.at + c.args.count) (omega arith) (omega arith) in
    let place : p.at - p.first + c.args.count ≡ p.at + c.args.count - p.first = omega arith in
    record {
      reading = record {
        pass = record {
          bounded = pass.bounded;
          source = pass.source;
          rows = pass.rows;
          words = pass.words;
          begun = pass.begun;
          within = pass.within;
          apart = pass.apart;
          from = omega arith;
          going = leaves_past c.args.count (all_rows p) p.at c.args.around c.args.orphans kept.ends.items kept.entries.items kept.broken.items
              here.going within begun leaves c.requires.roots filled.read;
          header = here.header;
          scan = subst (λ (k : ℕ). IsScan (rows_of p.source) k p.scan) place
              (scan_past c.args.count (rows_of p.source) (p.at - p.first) p.scan (is_none c.args.around.parent) c.args.orphans pass.scan c.requires.leaves
              (omega (arith, length-read (all_rows p) (rows_of p.source) p.first pass.rows pass.within)));
        };
        filled = record {
          read = leaves_kept c.args.count (all_rows p) p.at c.args.around c.args.orphans kept.ends.items c.push_numbers.new.list.items
              kept.entries.items c.push_same.new.self.items kept.broken.items c.push_orphans.new.list.items here.going within begun leaves c.requires.roots
              filled.read c.push_numbers.ensures.items
              (c.push_same.ensures.items ∙ ap (λ (x : NestEntry). kept.entries.items ++ replicate c.args.count x) c.new.ensures)
              c.push_orphans.ensures.items;
          room = record {
            for_ends = room_left (p.at + 1) c.args.count kept.ends c.push_numbers.new.list (length (all_rows p) - p.at)
                (length (all_rows p) - (p.at + c.args.count)) filled.room.for_ends (omega arith) c.push_numbers.ensures.items
                c.push_numbers.ensures.keeps_room;
            for_entries = omega (arith, filled.room.for_entries, c.push_same.ensures.keeps_room);
            for_broken = orphans_left c.args.orphans p.at c.args.count kept.broken c.push_orphans.new.list (length (all_rows p) - p.at)
                (length (all_rows p) - (p.at + c.args.count)) filled.room.for_broken (omega arith) c.push_orphans.ensures.items
                c.push_orphans.ensures.keeps_room;
          };
        };
      };
      on = omega (arith, some);
      rows = refl;
      source = refl;
      first = refl;
    }
