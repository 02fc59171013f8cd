use Rattle.std.proofs.Common.{ℕ, sym, ap, ◌∙◌, arith, inl, inr, map}
use Rattle.body_vertex.specs.Points.{points_of, points_end}
use Rattle.dgn_drawing.specs.declared.types.item_body.ItemBody.{ItemBody}
use Rattle.dgn_drawing.specs.Forms.{form_of}
use Rattle.dgn_drawing.specs.Items.{in_space}
use Rattle.dgn_drawing.proofs.BodyEnds.{end-text, end-node, end-cell}
use Rattle.dgn_drawing.proofs.ItemsShown.{path_kind, path_fits, path_shown, text_shown, node_shown, cell_shown, header_shown, plain_shown, silent_shown}
use Rattle.dgn_drawing.proofs.items.item_body.Goals as goal

pub points-requires-clause-kind : goal.points-requires-clause-kind
points-requires-clause-kind g c = path_kind c.args.kind c.args.form (c.requires.form ∙ ap form_of (sym c.requires.kind)) c.in-Line.is

pub points-requires-clause-fits : goal.points-requires-clause-fits
points-requires-clause-fits g c =
    let ends = path_fits c.args.form g.row.DIM c.args.b.now c.requires.dimension c.requires.form c.in-Line.is in
    let same = ap (λ (k : ℕ). points_end g.row.DIM k c.args.b.now) c.requires.kind in
    let fits = c.requires.fits in
    omega arith

pub text_body-requires-clause-fits : goal.text_body-requires-clause-fits
text_body-requires-clause-fits g c =
    let ends = end-text c.args.form g.row.DIM c.args.b.now c.requires.dimension c.requires.form c.in-Text.is in
    let fits = c.requires.fits in
    omega arith

pub node_body-requires-clause-fits : goal.node_body-requires-clause-fits
node_body-requires-clause-fits g c =
    let ends = end-node c.args.form g.row.DIM c.args.b.now c.requires.dimension c.requires.form c.in-Node.is in
    let fits = c.requires.fits in
    omega arith

pub cell_body-requires-clause-fits : goal.cell_body-requires-clause-fits
cell_body-requires-clause-fits g c =
    let ends = end-cell c.args.form g.row.DIM c.args.b.now c.requires.dimension c.requires.form c.in-Cell.is in
    let fits = c.requires.fits in
    omega arith

pub returns-in_ok-points-in-Line : goal.returns-in_ok-points-in-Line
returns-in_ok-points-in-Line g c =
    let shown = path_shown c.args.form g.row.DIM c.args.b.now c.in-Line.is in
    let same = ap (λ (k : ℕ). ItemBody.Path (map in_space (points_of g.row.DIM k c.args.b.now))) c.requires.kind in
    ap ItemBody.Path c.in_ok-points-in-Line.ensures ∙ same ∙ sym shown

pub returns-in-Text : goal.returns-in-Text
returns-in-Text g c = rw (text_shown c.args.form g.row.DIM c.args.b.now c.in-Text.is) c.text_body.ensures

pub returns-in-Node : goal.returns-in-Node
returns-in-Node g c = c.node_body.ensures ∙ sym (node_shown c.args.form g.row.DIM c.args.b.now c.in-Node.is)

pub returns-in-Cell : goal.returns-in-Cell
returns-in-Cell g c = c.cell_body.ensures ∙ sym (cell_shown c.args.form g.row.DIM c.args.b.now c.in-Cell.is)

pub returns-in-Header : goal.returns-in-Header
returns-in-Header g c = sym (header_shown c.args.form g.row.DIM c.args.b.now c.in-Header.is)

pub returns-in-Plain : goal.returns-in-Plain
returns-in-Plain g c =
    elim c.in-Plain.is [
      | inl plain ↦ sym (plain_shown c.args.form g.row.DIM c.args.b.now plain)
      | inr silent ↦ sym (silent_shown c.args.form g.row.DIM c.args.b.now silent)
    ]
