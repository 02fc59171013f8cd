use Rattle.std.proofs.Common.{ℕ, ap, ◌∙◌}
use Rattle.dgn_layout.specs.Classes.{class_of}
use Rattle.dgn_layout.specs.Spots.{has_spots}
use Rattle.edit_ops.proofs.ElementAnswers.{holds_found, spotted_found}
use Rattle.edit_ops.proofs.changes.headers.push_wider.Goals as goal

pub push_range-requires : goal.push_range-requires
push_range-requires c =
    let d = c.args.d.now in
    let found = c.in-Some.ensures.found in
    let spotted = spotted_found d c.is_whole.ensures c.args.m c.in-Some.found found c.requires.spotted in
    record {
      spotted = ap (λ (k : ℕ). has_spots (class_of k)) found.kind ∙ spotted;
      holds = holds_found d c.is_whole.ensures c.args.m c.in-Some.found found spotted;
    }
