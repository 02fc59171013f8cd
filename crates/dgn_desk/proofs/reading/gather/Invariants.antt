use Rattle.std.proofs.Common.{◌≡◌, ◌+◌, ◌-◌, ◌<◌, ◌≤◌, length, vec_len}
use Rattle.dgn_desk.proofs.Gathering.{IsGathered}
use Rattle.dgn_desk.specs.Desk.{StaysWilling}
use Rattle.dgn_desk.proofs.reading.gather.Given as goal

abbrev pub invariant-pieces : goal.invariant-pieces
invariant-pieces g l =
    record {
      changes : IsGathered (g.D.Desk.content l.fn.desk) (g.D.Desk.content l.desk) l.all.items;
      most : vec_len l.all ≤ l.limit + 1;
      room : 0 < length l.piece;
      reads : g.D.Desk.read_faults l.desk ≡ g.D.Desk.read_faults l.fn.desk;
      writes : g.D.Desk.write_faults l.desk ≡ g.D.Desk.write_faults l.fn.desk;
      stays_willing : StaysWilling (g.D.Desk.willing l.fn.desk) (g.D.Desk.willing l.desk);
    }

abbrev pub decreases-pieces : goal.decreases-pieces
decreases-pieces g l = l.limit + 1 - vec_len l.all
