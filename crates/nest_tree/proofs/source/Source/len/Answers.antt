use Rattle.nest_tree.proofs.SourceRows.{kept_length}
use Rattle.nest_tree.proofs.source.Source.len.Goals as goal

pub returns-in-Kept : goal.returns-in-Kept
returns-in-Kept c = kept_length c.args.self.now c.in-Kept.places c.in-Kept.field-1 c.in-Kept.field-2 c.in-Kept.field-3 c.in-Kept.is c.requires
