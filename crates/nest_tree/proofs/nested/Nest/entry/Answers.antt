use Rattle.std.proofs.Common.{◌∙◌, ap}
use Rattle.std.specs.Prelude.{slice_get, option_map}
use Rattle.nest_tree.specs.Nested.{Nested}
use Rattle.nest_tree.specs.Places.{marks_in, entry_of}
use Rattle.nest_tree.proofs.FirstEntries.{entries_kept}
use Rattle.nest_tree.proofs.nested.Nest.entry.Goals as goal

pub returns-clause-entry : goal.returns-clause-entry
returns-clause-entry c =
    c.get.ensures ∙ entries_kept c.self.inside.seen.list c.self.inside.placed.ends.items c.self.inside.placed.entries.items
    c.self.inside.placed.broken.items c.self.invariant
    c.args.n
    ∙ ap (λ (t : Nested). option_map entry_of (slice_get (marks_in t.rows) c.args.n)) c.self.view_is
