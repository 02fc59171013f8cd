use Rattle.std.proofs.Common.{◌≡◌, ◌+◌, map, drop, ap, sym, ◌∙◌}
use Rattle.std.specs.List.{fold}
use Rattle.dgn_fence.specs.declared.bounds.Bounds.{Bounds}
use Rattle.dgn_fence.specs.Segments.{plane_point}
use Rattle.dgn_fence.specs.Limits.{grown}
use Rattle.dgn_fence.proofs.Outlines.{one_more}
use Rattle.dgn_fence.proofs.outline.path_outline.Goals as goal

pub loop-i-preserved : goal.loop-i-preserved
loop-i-preserved g c =
    let more : c.grown-around.result ≡ grown c.loop-i.around (plane_point c.point-in-loop-i.result) =
    c.grown-around.ensures ∙ ap (grown c.loop-i.around) c.on_plane.ensures in
    ap (λ (b : Bounds). fold grown b (map plane_point (drop (c.loop-i.i + 1) c.in-Some.path))) more
    ∙ sym (one_more c.in-Some.path c.loop-i.i c.point-in-loop-i.result c.loop-i.around c.point-in-loop-i.ensures) ∙ c.loop-i.invariant
