use Rattle.std.proofs.Common.{rules}
use Rattle.group_head.proofs.Origins.{longs-origin_at}
use Rattle.group_head.proofs.cell.Goals as goal

pub returns-clause-origin : goal.returns-clause-origin
returns-clause-origin g c =
    rw c.longs.ensures (longs-origin_at g.row.DIM c.origin_place-at.result c.args.b.now c.requires c.origin_place-at.ensures)

pub returns-then-b-at-clause-none : goal.returns-then-b-at-clause-none
returns-then-b-at-clause-none g c = search rules
