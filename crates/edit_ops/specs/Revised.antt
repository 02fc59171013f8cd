-- What a revision comes to on the elements of a drawing: it is refused with the first of its causes, or it is done and
-- leaves other elements.
use Rattle.std.specs.Prelude.{ℕ, ◌≡◌, List, [], ◌∷◌, length, drop, Option, Some, None}
use Rattle.dgn_drawing.specs.Element.{Element}
use Rattle.dgn_drawing.specs.Spelling.{spelling}
use Rattle.dgn_drawing.specs.Nesting.{Leaf, Forest, NoTree, Tree, flat, joined}
use Rattle.dgn_revision.specs.declared.revision.Revision.{Revision}
use Rattle.edit_ops.specs.declared.causes.revise_cause.ReviseCause.{ReviseCause}
use Rattle.edit_ops.specs.declared.causes.revise_fault.ReviseFault.{ReviseFault}
use Rattle.edit_ops.specs.declared.causes.revise_fault.ReviseFault.TheVariants as faults
use Rattle.edit_ops.specs.declared.types.plan.Plan.{Plan}
use Rattle.edit_ops.specs.Applying.{altered}
use Rattle.edit_ops.specs.Fields.{Field, filled}
use Rattle.edit_ops.specs.EditedFields.{part_fields}
use Rattle.edit_ops.specs.RevisionRules.{revision_rule, made_behind}
use Rattle.edit_ops.specs.RevisionCauses.{revise_cause}

-- what a revision comes to
pub data Revised : Type 0 where
  Makes : List Element → Revised
  RefusedWith : ReviseCause → Revised

-- elements that stand by themselves, as trees
abbrev pub leaves : List Element → Forest Element
leaves [] = NoTree
leaves (e ∷ es) = Tree Leaf e NoTree (leaves es)

-- the trees that an accepted revision of element n leaves
abbrev pub revised_forest : ℕ → List Element → ℕ → Revision → Forest Element
revised_forest dim es n r = joined (altered (revision_rule dim es n r) es n) (leaves (made_behind dim es n r))

-- refused with the cause, if there is one, and else done
abbrev pub revised_unless : Option ReviseCause → List Element → Revised
revised_unless None made = Makes made
revised_unless (Some cause) made = RefusedWith cause

-- what a revision of element n comes to on these elements of a file of that dimension. `rest` is the number of bytes of the
-- tail and of what is pending
abbrev pub revise : ℕ → List Element → ℕ → ℕ → Revision → Revised
revise dim es rest n r = revised_unless (revise_cause dim es rest n r) (flat (revised_forest dim es n r))

-- the fields that it writes
abbrev pub revised_fields : ℕ → List Element → ℕ → Revision → List Field
revised_fields dim es n r = part_fields (revision_rule dim es n r) es n

-- the revision is done, and the plan is its fields with the bytes that the result has there, and the bytes of the result
-- behind the old length
pub record IsRevisionPlan (dim : ℕ) (es : List Element) (rest n : ℕ) (r : Revision) (p : Plan) : Type 0 where
  pub made : List Element
  pub done : revise dim es rest n r ≡ Makes made
  pub patches : p.patches ≡ filled (spelling made) (revised_fields dim es n r)
  pub append : p.append ≡ drop (length (spelling es)) (spelling made)

-- the revision is refused with the cause that is told; want of memory says nothing of it
abbrev pub IsRefusedRevision : Revised → ReviseFault → Type 0
IsRefusedRevision revised (faults.Refused cause) = revised ≡ RefusedWith cause
IsRefusedRevision revised faults.Memory = Unit {0}
