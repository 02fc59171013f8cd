use Rattle.std.proofs.Common.{◌≡◌, ◌++◌, ℕ, List, Option, option_map, length}
use Rattle.dgn_desk.specs.Content.{Content, filed, HasTarget}
use Rattle.dgn_desk.specs.Desk.{StaysWilling}
use Rattle.dgn_desk.proofs.writing.write_more.Given as goal

abbrev pub invariant-pieces : goal.invariant-pieces
invariant-pieces g l =
    record {
      done : List ℕ;
      split : l.bytes ≡ done ++ l.rest;
      changes : (name so_far : List ℕ) (c : Option Content) → g.D.Desk.content l.fn.desk ≡ option_map (filed name so_far) c
          → g.D.Desk.content l.desk ≡ option_map (filed name (so_far ++ done)) c;
      writes : g.D.Desk.write_faults l.desk ≡ g.D.Desk.write_faults l.fn.desk;
      reads : g.D.Desk.read_faults l.desk ≡ g.D.Desk.read_faults l.fn.desk;
      stays_willing : StaysWilling (g.D.Desk.willing l.fn.desk) (g.D.Desk.willing l.desk);
      target : HasTarget (g.D.Desk.content l.fn.desk) → HasTarget (g.D.Desk.content l.desk);
    }

abbrev pub decreases-pieces : goal.decreases-pieces
decreases-pieces g l = length l.rest
