use Rattle.std.proofs.Common.{◌≡◌, ℕ, Some, map, ap, sym, ◌∙◌}
use Rattle.elem_head.specs.declared.types.Head.{Head}
use Rattle.elem_head.specs.Head.{kind_of}
use Rattle.dgn_layout.specs.Classes.{class_of}
use Rattle.body_vertex.specs.Points.{points_of}
use Rattle.dgn_fence.specs.Segments.{plane_point}
use Rattle.dgn_fence.specs.Outlines.{path_outline, range_outline}
use Rattle.dgn_fence.proofs.ElementOutlines.{path_drawn, range_drawn, none_drawn, shared_drawn}
use Rattle.dgn_fence.proofs.outline.read_outline.Goals as goal

pub returns-then-kind-eq-SHARED_CELL : goal.returns-then-kind-eq-SHARED_CELL
returns-then-kind-eq-SHARED_CELL c = shared_drawn c.args.dim c.args.b.now (sym (ap (λ (h : Head). h.kind) c.head-kind.ensures) ∙ c.if-kind-eq-SHARED_CELL.true)

pub returns-in-Vertices : goal.returns-in-Vertices
returns-in-Vertices c =
    let kind : c.head-kind.result.kind ≡ kind_of c.args.b.now = ap (λ (h : Head). h.kind) c.head-kind.ensures in
    c.points_outline.ensures ∙ ap (λ (k : ℕ). path_outline (map plane_point (points_of c.args.dim k c.args.b.now))) kind
    ∙ path_drawn c.args.dim c.args.b.now c.class.result (c.class.ensures ∙ ap class_of kind) (λ is. c.if-kind-eq-SHARED_CELL.false (kind ∙ is)) c.in-Vertices.is

pub returns-in-Words : goal.returns-in-Words
returns-in-Words c =
    let kind : c.head-kind.result.kind ≡ kind_of c.args.b.now = ap (λ (h : Head). h.kind) c.head-kind.ensures in
    ap Some (c.range_outline.ensures ∙ ap range_outline c.range.ensures)
    ∙ range_drawn c.args.dim c.args.b.now c.class.result (c.class.ensures ∙ ap class_of kind) (λ is. c.if-kind-eq-SHARED_CELL.false (kind ∙ is)) c.in-Words.is

pub returns-in-Counted : goal.returns-in-Counted
returns-in-Counted c =
    let kind : c.head-kind.result.kind ≡ kind_of c.args.b.now = ap (λ (h : Head). h.kind) c.head-kind.ensures in
    none_drawn c.args.dim c.args.b.now c.class.result (c.class.ensures ∙ ap class_of kind) (λ is. c.if-kind-eq-SHARED_CELL.false (kind ∙ is)) c.in-Counted.is
