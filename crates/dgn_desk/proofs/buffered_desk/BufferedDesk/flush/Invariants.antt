use Rattle.std.proofs.Common.{◌≡◌, [], length}
use Rattle.dgn_desk.specs.Holding.{with_held}
use Rattle.dgn_desk.specs.Desk.{StaysWilling}
use Rattle.dgn_desk.proofs.buffered_desk.BufferedDesk.flush.Given as goal

abbrev pub invariant-pieces : goal.invariant-pieces
invariant-pieces g l =
    record {
      changes : with_held l.self.held.items (g.D.Desk.content l.self.desk) ≡ with_held l.fn.self.held.items (g.D.Desk.content l.fn.self.desk);
      writes : g.D.Desk.write_faults l.self.desk ≡ g.D.Desk.write_faults l.fn.self.desk;
      reads : g.D.Desk.read_faults l.self.desk ≡ g.D.Desk.read_faults l.fn.self.desk;
      idle : l.fn.self.held.items ≡ [] → (l.self.held.items ≡ []) × (l.self.desk ≡ l.fn.self.desk);
      stays_willing : StaysWilling (g.D.Desk.willing l.fn.self.desk) (g.D.Desk.willing l.self.desk);
    }

abbrev pub decreases-pieces : goal.decreases-pieces
decreases-pieces g l = length l.self.held.items
