use Rattle.std.proofs.Common.{map, ap, ◌∙◌}
use Rattle.elem_index.specs.Kinds.{Kind}
use Rattle.elem_index.specs.Design.{elements}
use Rattle.elem_index.proofs.KindBytes.{bytes-kinds_in}
use Rattle.elem_index.proofs.design.Design.kind_bytes.Goals as goal

pub returns : goal.returns
returns c =
    c.bytes.ensures ∙ ap (map (λ (kind : Kind). kind.byte)) c.requires.kinds ∙ bytes-kinds_in (elements c.args.self.now)
