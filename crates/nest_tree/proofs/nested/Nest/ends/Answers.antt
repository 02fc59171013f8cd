use Rattle.std.proofs.Common.{◌∙◌, ap, map}
use Rattle.nest_tree.specs.Nested.{Nested}
use Rattle.nest_tree.specs.Places.{marks_in, end_of_mark}
use Rattle.nest_tree.proofs.FirstEntries.{all_marks}
use Rattle.nest_tree.proofs.nested.Nest.ends.Goals as goal

pub returns : goal.returns
returns c =
    c.deref.ensures.value ∙ c.self.invariant.places.ends_are ∙ ap (map end_of_mark) (all_marks c.self.inside.seen.list)
    ∙ ap (λ (t : Nested). map end_of_mark (marks_in t.rows)) c.self.view_is
