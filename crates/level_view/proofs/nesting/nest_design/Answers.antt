use Rattle.std.proofs.Common.{◌≡◌, ◌∙◌, subst, List}
use Rattle.std.specs.Result.{IfOk}
use Rattle.dgn_drawing.specs.declared.row.Row.{Row}
use Rattle.nest_tree.specs.Nested.{Nested}
use Rattle.level_view.proofs.KeptElements.{kept_all, are_kept}
use Rattle.level_view.proofs.nesting.nest_design.Goals as goal

pub nest_kept-requires-clause-kept : goal.nest_kept-requires-clause-kept
nest_kept-requires-clause-kept c =
    are_kept c.args.d.now c.requires c.offsets.result.now c.kind_bytes.result.now c.totals.result.now c.len.result c.offsets.ensures
    c.kind_bytes.ensures c.totals.ensures (c.len.ensures ∙ c.args.d.now.body.ok.0)

pub returns : goal.returns
returns c =
    let all = kept_all c.args.d.now c.requires c.offsets.result.now c.kind_bytes.result.now c.totals.result.now c.len.result c.offsets.ensures
    c.kind_bytes.ensures c.totals.ensures (c.len.ensures ∙ c.args.d.now.body.ok.0) in
    subst (λ (rows : List Row). IfOk c.nest_kept.result (λ (t : Nested). t.rows ≡ rows)) all c.nest_kept.ensures
