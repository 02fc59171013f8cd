use Rattle.std.proofs.Common.{◌++◌, ◌∷◌, [], List, ◌∙◌, ap, sym}
use Rattle.dgn_drawing.specs.declared.row.Row.{Row}
use Rattle.dgn_drawing.specs.Rows.{row_of}
use Rattle.elem_index.specs.Design.{elements}
use Rattle.elem_index.proofs.KeptRows.{said_more}
use Rattle.elem_index.proofs.design.Design.rows.Goals as goal

pub loop-n-preserved : goal.loop-n-preserved
loop-n-preserved c =
    c.in_ok-push.ensures.items
    ∙ ap (λ (rows : List Row). rows ++ c.row.result ∷ []) c.loop-n.invariant
    ∙ sym (said_more row_of (elements c.args.self.now) c.loop-n.n c.row.result c.row.ensures)
