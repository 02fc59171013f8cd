-- What is asked of an edit in its place before its sums are made, which are made once. No contract of a public call cites
-- this.
use Rattle.std.specs.Prelude.{ℕ, List, [], ◌∷◌, ◌++◌, Option}
use Rattle.dgn_drawing.specs.declared.edit.Edit.{Edit}
use Rattle.dgn_drawing.specs.declared.edit.Edit.TheVariants as edit
use Rattle.dgn_drawing.specs.Element.{Element}
use Rattle.edit_ops.specs.declared.causes.cause.Cause.{Cause}
use Rattle.edit_ops.specs.declared.causes.test.Test.TheVariants as tests
use Rattle.edit_ops.specs.Trees.{live_tree, above_tree}
use Rattle.edit_ops.specs.Causes.{first_cause, other_axes, causes_of}

-- the causes of the edit but for a move's last: that an element would leave the design plane
abbrev pub causes_asked : ℕ → List Element → Edit → List (Option Cause)
causes_asked dim es (edit.Move n by) =
    first_cause dim tests.Unlocked (above_tree es n ++ live_tree es n)
    ∷ other_axes dim by.axes
    ∷ first_cause dim tests.Widens (above_tree es n)
    ∷ first_cause dim tests.Moves (live_tree es n)
    ∷ []
causes_asked dim es other = causes_of dim es 0 other
