use Rattle.std.proofs.Common.{map, sym, ap, ◌∙◌}
use Rattle.elem_index.specs.Kinds.{Kind, Kinds}
use Rattle.elem_index.proofs.KindLists.{bytes-kinds_by}
use Rattle.elem_index.proofs.kind_list.KindList.bytes.Goals as goal

pub returns : goal.returns
returns c =
    c.as_slice.ensures.value ∙ sym (bytes-kinds_by c.self.inside.kinds.items c.self.inside.totals.items)
    ∙ ap (λ (kinds : Kinds). map (λ (kind : Kind). kind.byte) kinds.items) c.self.view_is
