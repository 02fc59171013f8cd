-- What a contract sees of a session, and how its parts are carried on.
use Rattle.std.specs.Prelude.{ℕ, ◌≡◌, Option, None, List, [], ◌∷◌, ◌++◌}
use Rattle.patch_bytes.specs.Puts.{Put, write}
use Rattle.plane_geom.specs.declared.pt.Pt.{Pt}
use Rattle.undo_log.specs.LogState.{LogState}
use Rattle.undo_log.specs.Entries.{entry_of}
use Rattle.dgn_drawing.specs.declared.mask.Mask.{Mask}
use Rattle.elem_index.specs.declared.design.Design.{Design}
use Rattle.edit_ops.specs.declared.types.plan.Plan.{Plan}
use Rattle.dgn_session.specs.CarryingOut.{IsSoundChange}
use Rattle.dgn_session.specs.State.{SessionValue, all_levels, value_with}

-- what a contract sees of a session
abbrev pub value_of : Design → LogState → Mask → Option (List Pt) → SessionValue
value_of d l mask fence = record { dim = d.dim; body = d.body.items; tail = d.tail.items; entries = l.entries; mask = mask; fence = fence }

-- the design of a session that has the value v
pub record IsDesignOf (v : SessionValue) (d : Design) : Type 0 where
  pub dim : d.dim ≡ v.dim
  pub body : d.body.items ≡ v.body
  pub tail : d.tail.items ≡ v.tail

-- the value of a session that begins on a design
abbrev pub first_value : Design → SessionValue
first_value d = record { dim = d.dim; body = d.body.items; tail = d.tail.items; entries = []; mask = all_levels; fence = None }

-- patches and bytes to append, as a plan
abbrev pub plan_of : List Put → List ℕ → Plan
plan_of ps append = record { patches = ps; append = append }

-- a plan that may be carried out on a body
abbrev pub IsSoundPlan : ℕ → List ℕ → List ℕ → Plan → Type 0
IsSoundPlan dim tail b p = IsSoundChange dim tail b p.patches p.append

-- a session's value where patches are written into the body and bytes are put behind it, with the entry of this
abbrev pub value_after : List Put → List ℕ → SessionValue → SessionValue
value_after ps append v = value_with (write v.body ps ++ append) (v.entries ++ entry_of v.body ps ∷ []) v
