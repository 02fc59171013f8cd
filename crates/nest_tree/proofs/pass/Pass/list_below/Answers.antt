use Rattle.std.proofs.Common.{◌≡◌, ◌+◌, ◌-◌, ◌∙◌, ap, get_or, arith, ℕ, List, Some}
use Rattle.std.proofs.lemmas.List.{get_or-drop}
use Rattle.dgn_drawing.specs.declared.row.Row.{Row}
use Rattle.nest_tree.specs.declared.knot.Knot.{Knot}
use Rattle.nest_tree.specs.declared.shape.Scope.{Scope}
use Rattle.nest_tree.specs.NestEntries.{NestEntry, plain_entry}
use Rattle.nest_tree.specs.Pass.{all_rows}
use Rattle.nest_tree.specs.Places as code
use Rattle.nest_tree.specs.Sources.{no_row, rows_of}
use Rattle.nest_tree.proofs.OpenLists.{length-ends, length-entries, end_at, entry_at, kind_at}
use Rattle.nest_tree.proofs.pass.Pass.list_below.Goals as goal

pub at-requires : goal.at-requires
at-requires c =
    let p = c.args.self.now in
    let kept = c.args.kept.now in
    omega (arith, c.requires.known.0, length-entries (all_rows p) p.at kept.ends.items kept.entries.items c.requires.reading.filled.read.places)

pub index-requires : goal.index-requires
index-requires c =
    let p = c.args.self.now in
    let kept = c.args.kept.now in
    omega (arith, c.requires.known.0, length-ends (all_rows p) p.at kept.ends.items kept.entries.items c.requires.reading.filled.read.places)

pub returns : goal.returns
returns c =
    let p = c.args.self.now in
    let kept = c.args.kept.now in
    let h = c.args.header in
    let places = c.requires.reading.filled.read.places in
    let within = places.within in
    let known = c.requires.known.0 in
    let place : p.first + (h - p.first) ≡ h = let read = c.requires.known.1 in omega arith in
    let row : get_or (rows_of p.source) (h - p.first) no_row ≡ get_or (all_rows p) h no_row =
    ap (λ (l : List Row). get_or l (h - p.first) no_row) c.requires.reading.pass.rows
    ∙ get_or-drop p.first (all_rows p) (h - p.first) no_row ∙ ap (λ (k : ℕ). get_or (all_rows p) k no_row) place in
    let scope = c.scope_below.ensures
    ∙ ap (λ (k : Knot). code.scope_below k c.kind.result) (c.knot.ensures
    ∙ ap (λ (x : NestEntry). x.knot) (c.at.ensures ∙ entry_at (all_rows p) p.at kept.ends.items kept.entries.items places h plain_entry known))
    ∙ ap (code.scope_below (code.knot_in (all_rows p) h))
    (c.kind.ensures.kind ∙ ap (λ (r : Row). r.kind) row ∙ kind_at (all_rows p) h (omega (arith, known, within))) in
    ap (λ (s : Scope). record { scope = s; end = c.index.result.now; depth = c.args.depth; parent = Some h }) scope
    ∙ ap (λ (k : ℕ). record {
      scope = code.scope_below (code.knot_in (all_rows p) h) (code.kind_in (all_rows p) h);
      end = k;
      depth = c.args.depth;
      parent = Some h;
    }) (c.index.ensures ∙ end_at (all_rows p) p.at kept.ends.items kept.entries.items places h c.index.result.now known)
