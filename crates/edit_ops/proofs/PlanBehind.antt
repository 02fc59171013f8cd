-- A plan that stands behind another.
use Rattle.std.proofs.Common.{◌≡◌, ℕ, List, [], ◌++◌, sym, ◌∙◌}
use Rattle.std.proofs.lemmas.List.{append-nil}
use Rattle.patch_bytes.specs.Puts.{Put}
use Rattle.dgn_drawing.specs.declared.edit.Edit.{Edit}
use Rattle.dgn_drawing.specs.Element.{Element}
use Rattle.edit_ops.specs.declared.types.plan.Plan.{Plan}
use Rattle.edit_ops.specs.Planned.{IsPlan, IsPlanBehind}

module _ (dim : ℕ) (es : List Element) (rest : ℕ) (e : Edit) (before after : Plan) where
  -- one that only appends, and one that only writes
  pub appends_behind : (bytes : List ℕ) → IsPlan dim es rest e (record { patches = []; append = bytes }) → after.patches ≡ before.patches
      → after.append ≡ before.append ++ bytes
      → IsPlanBehind dim es rest e before after
  appends_behind bytes is same more = record {
    own = record { patches = []; append = bytes };
    is = is;
    patches = same ∙ sym (append-nil before.patches);
    append = more;
  }

  pub writes_behind : (puts : List Put) → IsPlan dim es rest e (record { patches = puts; append = [] }) → after.patches ≡ before.patches ++ puts
      → after.append ≡ before.append
      → IsPlanBehind dim es rest e before after
  writes_behind puts is more same = record {
    own = record { patches = puts; append = [] };
    is = is;
    patches = more;
    append = same ∙ sym (append-nil before.append);
  }
