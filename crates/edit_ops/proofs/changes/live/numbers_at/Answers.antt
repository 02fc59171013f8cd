use Rattle.edit_ops.proofs.ElementAnswers.{holds_found, spotted_found}
use Rattle.edit_ops.proofs.changes.live.numbers_at.Goals as goal

pub coordinates-requires : goal.coordinates-requires
coordinates-requires c =
    let found = c.in-Some.ensures.found in
    let spotted = spotted_found c.args.d.now c.is_whole.ensures c.args.m c.in-Some.found found c.requires.spotted in
    holds_found c.args.d.now c.is_whole.ensures c.args.m c.in-Some.found found spotted
