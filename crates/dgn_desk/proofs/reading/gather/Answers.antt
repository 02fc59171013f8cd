use Rattle.std.proofs.Common.{◌+◌, Err, refl, ◌∙◌, ap, arith}
use Rattle.std.proofs.lemmas.Result.{err_from_is_err_and}
use Rattle.dgn_desk.specs.declared.stop.Stop.TheVariants as stops
use Rattle.dgn_desk.proofs.Gathering.{gathered_none, gathered_more, only_left, left_stopped, length_more}
use Rattle.dgn_desk.proofs.reading.gather.Goals as goal

pub pieces-init : goal.pieces-init
pieces-init g c = record {
  changes = rw c.new-all.ensures.items (gathered_none (g.D.Desk.content c.args.desk.now));
  most = omega (arith, c.new-all.ensures.len);
  room = c.requires.piece;
  reads = refl;
  writes = refl;
  stays_willing = λ willing. willing;
}

pub pieces-preserved : goal.pieces-preserved
pieces-preserved g c =
    let before = c.pieces.invariant in
    let got = c.in_ok-count.ensures in
    let entry = g.D.Desk.content c.args.desk.now in
    let more = gathered_more entry (g.D.Desk.content c.pieces.desk)
    _ c.pieces.all.items c.read_front.new.piece c.in_ok-count.count before.changes got.bytes got.changes in
    record {
      changes = rw (c.in_ok-extend_from_slice.ensures.items, c.split_at.ensures.front) more;
      most = omega (arith, c.in_ok-extend_from_slice.ensures.len, c.in_ok-count.ensures.most);
      room = omega (arith, c.read_front.auto.piece);
      reads = got.cause ∙ before.reads;
      writes = got.other ∙ before.writes;
      stays_willing = λ willing. got.stays_willing (before.stays_willing willing);
    }

pub returns-in_err-extend_from_slice-clause-changes : goal.returns-in_err-extend_from_slice-clause-changes
returns-in_err-extend_from_slice-clause-changes g c =
    let before = c.pieces.invariant in
    only_left _ _ _ (gathered_more (g.D.Desk.content c.args.desk.now) (g.D.Desk.content c.pieces.desk)
    _ c.pieces.all.items c.read_front.new.piece c.in_ok-count.count before.changes c.in_ok-count.ensures.bytes c.in_ok-count.ensures.changes)

pub returns-in_err-extend_from_slice-clause-left : goal.returns-in_err-extend_from_slice-clause-left
returns-in_err-extend_from_slice-clause-left g c =
    let before = c.pieces.invariant in
    let got = c.in_ok-count.ensures in
    let stopped = err_from_is_err_and c.from_residual-in_err-extend_from_slice.result c.from_residual-in_err-extend_from_slice.ensures.1 in
    let entry = g.D.Desk.content c.args.desk.now in
    let more = gathered_more entry (g.D.Desk.content c.pieces.desk)
    _ c.pieces.all.items c.read_front.new.piece c.in_ok-count.count before.changes got.bytes got.changes in
    left_stopped _ stops.Memory c.args.limit _ _ _ (stopped.1 ∙ ap Err stopped.2) more
    (length_more c.pieces.all.items c.read_front.new.piece c.in_ok-count.count (c.args.limit + 1)
    (omega (arith, c.pieces.all.ok.0, c.len-in-pieces.ensures, got.most)))
