use Rattle.std.proofs.Common.{ap}
use Rattle.std.specs.Prelude.{not}
use Rattle.dgn_import.proofs.DrawnElements.{drawn_seen, drawn_silent}
use Rattle.dgn_import.proofs.taking.is_drawn.Goals as goal

pub returns-then-not-is_silent : goal.returns-then-not-is_silent
returns-then-not-is_silent c =
    drawn_seen c.args.d.now c.args.n c.in-Some.found c.in-Some.ensures.found c.is_silent.result c.is_silent.ensures (ap not c.if-not-is_silent.true)

pub returns-else-not-is_silent : goal.returns-else-not-is_silent
returns-else-not-is_silent c =
    drawn_silent c.args.d.now c.args.n c.in-Some.found c.in-Some.ensures.found c.is_silent.result c.is_silent.ensures (ap not c.if-not-is_silent.false)
