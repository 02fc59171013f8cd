use Rattle.std.proofs.Common.{◌≡◌, ◌++◌, ℕ, List, option_map, length}
use Rattle.dgn_desk.specs.Content.{spoken}
use Rattle.dgn_desk.specs.Desk.{StaysWilling}
use Rattle.dgn_desk.proofs.writing.say_all.Given as goal

abbrev pub invariant-pieces : goal.invariant-pieces
invariant-pieces g l =
    record {
      done : List ℕ;
      split : l.bytes ≡ done ++ l.rest;
      changes : g.D.Desk.content l.desk ≡ option_map (spoken done) (g.D.Desk.content l.fn.desk);
      writes : g.D.Desk.write_faults l.desk ≡ g.D.Desk.write_faults l.fn.desk;
      reads : g.D.Desk.read_faults l.desk ≡ g.D.Desk.read_faults l.fn.desk;
      stays_willing : StaysWilling (g.D.Desk.willing l.fn.desk) (g.D.Desk.willing l.desk);
    }

abbrev pub decreases-pieces : goal.decreases-pieces
decreases-pieces g l = length l.rest
