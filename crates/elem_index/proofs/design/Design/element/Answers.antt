use Rattle.std.proofs.Common.{◌≤◌, ◌<◌, length, ap, ℕ, arith}
use Rattle.elem_index.specs.Design.{elements}
use Rattle.elem_index.proofs.Places.{known_from, in_order, inside_body, piece_is}
use Rattle.elem_index.proofs.design.Design.element.Goals as goal

pub slice_bounds-result-count : goal.slice_bounds-result-count
slice_bounds-result-count c =
    let known : c.args.n < length (elements c.args.self.now) = known_from _ _ c.in_ok-start.ensures.none.1 in
    in_order c.args.self.now c.requires c.args.n known c.in_ok-start.start c.end_of-end.result c.in_ok-start.ensures.place c.end_of-end.ensures

pub slice_bounds-result-start : goal.slice_bounds-result-start
slice_bounds-result-start c =
    let known : c.args.n < length (elements c.args.self.now) = known_from _ _ c.in_ok-start.ensures.none.1 in
    let ordered : c.in_ok-start.start ≤ c.end_of-end.result =
    in_order c.args.self.now c.requires c.args.n known c.in_ok-start.start c.end_of-end.result c.in_ok-start.ensures.place c.end_of-end.ensures in
    let inside = inside_body c.args.self.now c.requires c.args.n known c.in_ok-start.start c.end_of-end.result c.in_ok-start.ensures.place
    c.end_of-end.ensures in
    let same = ap (length {A = ℕ}) c.deref.ensures.value in
    omega arith

pub slice_bounds-result-end : goal.slice_bounds-result-end
slice_bounds-result-end c =
    let known : c.args.n < length (elements c.args.self.now) = known_from _ _ c.in_ok-start.ensures.none.1 in
    let inside = inside_body c.args.self.now c.requires c.args.n known c.in_ok-start.start c.end_of-end.result c.in_ok-start.ensures.place
    c.end_of-end.ensures in
    let same = ap (length {A = ℕ}) c.deref.ensures.value in
    omega arith

pub returns-clause-bytes : goal.returns-clause-bytes
returns-clause-bytes c =
    let known : c.args.n < length (elements c.args.self.now) = known_from _ _ c.in_ok-start.ensures.none.1 in
    piece_is c.args.self.now c.requires c.args.n known c.in_ok-start.start c.end_of-end.result c.in_ok-start.ensures.place c.end_of-end.ensures
    c.deref.result.now c.deref.ensures.value
