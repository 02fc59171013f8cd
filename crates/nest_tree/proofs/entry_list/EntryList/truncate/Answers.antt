use Rattle.std.proofs.Common.{◌∙◌, ap, ◌++◌, take, replicate, arith, List}
use Rattle.nest_tree.specs.NestEntries.{NestEntry, KeptEntries, plain_entry}
use Rattle.nest_tree.proofs.FirstParts.{first_entries}
use Rattle.nest_tree.proofs.entry_list.EntryList.truncate.Goals as goal

pub returns-clause-items : goal.returns-clause-items
returns-clause-items c =
    ap (λ (l : List NestEntry). replicate c.min-self-inside.result plain_entry ++ l) c.truncate.ensures.items
    ∙ first_entries plain_entry c.self.inside.plain c.args.count c.min-self-inside.result c.self.inside.rest.items (omega (arith, c.min-self-inside.ensures))
    ∙ ap (λ (s : KeptEntries). take c.args.count s.items) c.self.view_is
