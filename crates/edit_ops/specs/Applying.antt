-- What an edit comes to on the elements of a drawing: it is refused with the first of its causes, or it is done
-- and leaves other elements.
use Rattle.std.specs.Prelude.{ℕ, List, Option, Some, None, slice_get}
use Rattle.dgn_drawing.specs.declared.edit.Edit.{Edit}
use Rattle.dgn_drawing.specs.declared.edit.Edit.TheVariants as edit
use Rattle.dgn_drawing.specs.Element.{Element}
use Rattle.dgn_drawing.specs.Rows.{row_of}
use Rattle.dgn_drawing.specs.Nesting.{Leaf, Forest, NoTree, Tree, flat, forest, joined}
use Rattle.dgn_drawing.specs.Values.{IsShift, IsLook}
use Rattle.dgn_drawing.specs.Changes.{freed}
use Rattle.dgn_drawing.specs.NewElements.{IsNew, element_made}
use Rattle.edit_ops.specs.declared.causes.cause.Cause.{Cause}
use Rattle.edit_ops.specs.Trees.{tree_at, exchange, live_map, reach_map}
use Rattle.edit_ops.specs.Causes.{cause_of}
use Rattle.edit_ops.specs.Rules.{Rule, rule_of}

-- what an edit comes to
pub data Applied : Type 0 where
  Done : List Element → Applied
  Refused : Cause → Applied

-- the trees with each element changed that a row reaches in the part of element n, and each header above it
abbrev pub altered : Rule → List Element → ℕ → Forest Element
altered r es n = exchange (r.above (slice_get es n)) (reach_map r.reach r.made) n (forest row_of es)

-- trees of which the first has a head without bit C
abbrev pub head_freed : Forest Element → Forest Element
head_freed NoTree = NoTree
head_freed (Tree knot h below behind) = Tree knot (freed h) below behind

-- the copy of the part of element n: each live element changed, and the head freed
abbrev pub copied : Rule → List Element → ℕ → Forest Element
copied r es n = head_freed (live_map (λ member. member.deleted) r.made (tree_at n (forest row_of es)))

-- the trees that an accepted edit leaves
abbrev pub changed_forest : ℕ → List Element → Edit → Forest Element
changed_forest dim es (edit.Move n by) = altered (rule_of dim (edit.Move n by)) es n
changed_forest dim es (edit.Copy n by) = joined (forest row_of es) (copied (rule_of dim (edit.Copy n by)) es n)
changed_forest dim es (edit.Sym n change) = altered (rule_of dim (edit.Sym n change)) es n
changed_forest dim es (edit.Delete n) = altered (rule_of dim (edit.Delete n)) es n
changed_forest dim es (edit.Append new) = joined (forest row_of es) (Tree Leaf (element_made new) NoTree NoTree)

-- refused with the cause, if there is one, and else done
abbrev pub applied_unless : Option Cause → List Element → Applied
applied_unless None made = Done made
applied_unless (Some cause) made = Refused cause

-- what an edit comes to on these elements of a file of that dimension. `rest` is the number of bytes of the tail
-- and of what is pending
abbrev pub apply : ℕ → List Element → ℕ → Edit → Applied
apply dim es rest e = applied_unless (cause_of dim es rest e) (flat (changed_forest dim es e))

-- what the type of an edit keeps of its values
abbrev pub IsEdit : Edit → Type 0
IsEdit (edit.Move n by) = IsShift by
IsEdit (edit.Copy n by) = IsShift by
IsEdit (edit.Sym n change) = IsLook change
IsEdit (edit.Delete n) = Unit {0}
IsEdit (edit.Append new) = IsNew new

-- the edit changes elements where they stand: a move, a change of the look or a deletion
abbrev pub ChangesInPlace : Edit → Type 0
ChangesInPlace (edit.Move n by) = Unit {0}
ChangesInPlace (edit.Copy n by) = ⊥
ChangesInPlace (edit.Sym n change) = Unit {0}
ChangesInPlace (edit.Delete n) = Unit {0}
ChangesInPlace (edit.Append new) = ⊥
