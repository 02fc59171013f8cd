-- What a row has to keep, so that all that is said of edits in their place holds of it.
use Rattle.std.proofs.Common.{◌≡◌, ℕ, refl}
use Rattle.std.specs.Prelude.{Some}
use Rattle.dgn_drawing.specs.declared.edit.Edit.{Edit}
use Rattle.dgn_drawing.specs.declared.edit.Edit.TheVariants as edit
use Rattle.dgn_drawing.specs.Element.{Element}
use Rattle.dgn_drawing.specs.WellFormed.{IsDimension, IsWellFormed}
use Rattle.edit_ops.specs.Trees.{Living}
use Rattle.edit_ops.specs.Applying.{IsEdit}
use Rattle.edit_ops.specs.Rules.{Rule, rule_of}
use Rattle.edit_ops.specs.Written.{IsReady}
use Rattle.edit_ops.proofs.ReadableElements.{IsShown}
use Rattle.edit_ops.proofs.LivePuts.{IsPut, element_put}
use Rattle.edit_ops.proofs.HeaderPuts.{IsAbovePut, above_put}

-- what it puts into an element against which nothing stands, and into a shown header above such an element, is right
pub record Keeps (dim : ℕ) (r : Rule) (Ready : Element → Type 0) : Type 0 where
  pub live : (v : Element) → IsWellFormed dim v → Ready v → IsPut dim r v
  pub over : (v h : Element) → IsWellFormed dim v → Ready v → IsWellFormed dim h → IsShown h → IsAbovePut dim r (Some v) h

-- the row of an edit keeps it
pub edit_keeps : (dim : ℕ) → IsDimension dim → (e : Edit) → IsEdit e → Keeps dim (rule_of dim e) (IsReady dim e)
edit_keeps dim axes e fits = record { live = element_put dim axes e fits; over = above_put dim axes e fits }

-- which reaches live elements
pub edit_reach : (dim : ℕ) (e : Edit) → (rule_of dim e).reach ≡ Living
edit_reach dim (edit.Move n by) = refl
edit_reach dim (edit.Copy n by) = refl
edit_reach dim (edit.Sym n change) = refl
edit_reach dim (edit.Delete n) = refl
edit_reach dim (edit.Append new) = refl
