use Rattle.std.proofs.Common.{sym, ap, ◌∙◌}
use Rattle.elem_index.specs.Kinds.{Kinds, totals_kept}
use Rattle.elem_index.proofs.KindLists.{totals-kinds_by}
use Rattle.elem_index.proofs.kind_list.KindList.totals.Goals as goal

pub returns : goal.returns
returns c =
    c.as_slice.ensures.value ∙ sym (totals-kinds_by c.self.inside.kinds.items c.self.inside.totals.items c.self.invariant)
    ∙ ap (λ (kinds : Kinds). totals_kept kinds.items) c.self.view_is
