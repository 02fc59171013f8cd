use Rattle.std.proofs.Common.{◌-◌, ℕ, List, length, take, drop, sym, ap, ◌∙◌, arith}
use Rattle.dgn_drawing.specs.Spelling.{spelling}
use Rattle.elem_index.specs.Design.{elements}
use Rattle.elem_index.specs.Offsets.{offset_of}
use Rattle.elem_index.proofs.Places.{body_is}
use Rattle.edit_ops.proofs.PartSpan.{part_ends, part_size, part_inside, part_bytes}
use Rattle.edit_ops.proofs.copies.tree.part_bytes.Goals as goal

pub place_of-end-requires : goal.place_of-end-requires
place_of-end-requires c = record {
  known = part_ends (elements c.args.d.now) c.args.n c.requires.known c.part_end.result
      c.part_end.ensures;
}

pub slice_bounds-result-count : goal.slice_bounds-result-count
slice_bounds-result-count c =
    let size = part_size (elements c.args.d.now) c.args.n c.requires.known c.part_end.result
    c.part_end.ensures in
    omega (arith, c.place_of-start.ensures, c.place_of-end.ensures)

pub slice_bounds-result-start : goal.slice_bounds-result-start
slice_bounds-result-start c =
    let size = part_size (elements c.args.d.now) c.args.n c.requires.known c.part_end.result
    c.part_end.ensures in
    let inside = part_inside (elements c.args.d.now) c.args.n c.requires.known c.part_end.result
    c.part_end.ensures in
    let body = ap (length {A = ℕ}) (body_is c.args.d.now c.is_whole.ensures) in
    let same = ap (length {A = ℕ}) c.body.ensures in
    omega (arith, c.place_of-start.ensures, c.place_of-end.ensures)

pub slice_bounds-result-end : goal.slice_bounds-result-end
slice_bounds-result-end c =
    let inside = part_inside (elements c.args.d.now) c.args.n c.requires.known c.part_end.result
    c.part_end.ensures in
    let body = ap (length {A = ℕ}) (body_is c.args.d.now c.is_whole.ensures) in
    let same = ap (length {A = ℕ}) c.body.ensures in
    omega (arith, c.place_of-end.ensures)

pub returns : goal.returns
returns c =
    let there = part_bytes (elements c.args.d.now) c.args.n c.requires.known c.part_end.result
    c.part_end.ensures in
    ap (λ (b : List ℕ). take (c.place_of-end.result - c.place_of-start.result) (drop c.place_of-start.result b))
    (c.body.ensures ∙ sym (body_is c.args.d.now c.is_whole.ensures))
    ∙ ap (λ (k : ℕ). take (c.place_of-end.result - k) (drop k (spelling (elements c.args.d.now)))) c.place_of-start.ensures
    ∙ ap (λ (k : ℕ). take (k - offset_of (elements c.args.d.now) c.args.n)
    (drop (offset_of (elements c.args.d.now) c.args.n) (spelling (elements c.args.d.now)))) c.place_of-end.ensures
    ∙ there
