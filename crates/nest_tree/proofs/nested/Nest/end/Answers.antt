use Rattle.std.proofs.Common.{◌∙◌, ap, ℕ, List}
use Rattle.std.specs.Prelude.{slice_get, option_map}
use Rattle.nest_tree.specs.Nested.{Nested}
use Rattle.nest_tree.specs.Places.{marks_in, end_of_mark}
use Rattle.nest_tree.proofs.FirstEntries.{ends_kept}
use Rattle.nest_tree.proofs.nested.Nest.end.Goals as goal

pub returns : goal.returns
returns c =
    c.item_at.ensures ∙ ap (λ (l : List ℕ). slice_get l c.args.n) c.deref.ensures.value
    ∙ ends_kept c.self.inside.seen.list c.self.inside.placed.ends.items c.self.inside.placed.entries.items c.self.inside.placed.broken.items
    c.self.invariant c.args.n
    ∙ ap (λ (t : Nested). option_map end_of_mark (slice_get (marks_in t.rows) c.args.n)) c.self.view_is
