use Rattle.std.proofs.Common.{◌+◌, sym, ap, ◌∙◌, subst, arith}
use Rattle.elem_index.specs.Design.{elements}
use Rattle.edit_ops.specs.Written.{lives_of}
use Rattle.edit_ops.proofs.LiveWalk.{IsLeft, all_left, all_numbers, next_known, enters, passes, goes_on}
use Rattle.edit_ops.proofs.LiveFound.{found_tree}
use Rattle.edit_ops.proofs.parts.live.put_live_numbers.Goals as goal

pub elements-init : goal.elements-init
elements-init c =
    let start = all_left (elements c.args.d.now) c.args.n c.part_end-end.result c.requires.known
    c.part_end-end.ensures in
    subst (IsLeft (elements c.args.d.now) c.args.n c.part_end-end.result c.args.n) (sym c.clear.ensures.items) start

pub is_deleted-requires : goal.is_deleted-requires
is_deleted-requires c = record {
  known = next_known (elements c.args.d.now) c.args.n c.part_end-end.result c.elements.i c.elements.live.items c.elements.invariant c.elements-test.true;
}

pub part_end-i-requires : goal.part_end-i-requires
part_end-i-requires c =
    let known = next_known (elements c.args.d.now) c.args.n c.part_end-end.result c.elements.i c.elements.live.items c.elements.invariant
    c.elements-test.true in
    known

pub elements-smaller-then-is_deleted : goal.elements-smaller-then-is_deleted
elements-smaller-then-is_deleted c =
    let on = goes_on (elements c.args.d.now)
    c.args.n c.part_end-end.result c.elements.i c.elements.live.items c.elements.invariant c.elements-test.true c.is_deleted.result c.is_deleted.ensures
    c.part_end-i.result
    c.part_end-i.ensures in
    omega arith

pub elements-preserved-then-is_deleted : goal.elements-preserved-then-is_deleted
elements-preserved-then-is_deleted c =
    passes (elements c.args.d.now)
    c.args.n c.part_end-end.result c.elements.i c.elements.live.items c.elements.invariant c.elements-test.true c.is_deleted.result c.is_deleted.ensures
    c.part_end-i.result
    c.part_end-i.ensures c.if-is_deleted.true

pub elements-preserved : goal.elements-preserved
elements-preserved c =
    let more = enters (elements c.args.d.now)
    c.args.n c.part_end-end.result c.elements.i c.elements.live.items c.elements.invariant c.elements-test.true c.is_deleted.result c.is_deleted.ensures
    c.if-is_deleted.false in
    subst (IsLeft (elements c.args.d.now) c.args.n c.part_end-end.result (c.elements.i + 1)) (sym c.in_ok-push.ensures.items) more

pub returns-clause-numbers : goal.returns-clause-numbers
returns-clause-numbers c =
    all_numbers (elements c.args.d.now) c.args.n c.part_end-end.result c.elements.i c.elements.live.items c.elements.invariant c.elements-test.false

pub returns-clause-found : goal.returns-clause-found
returns-clause-found c =
    let numbers = all_numbers (elements c.args.d.now)
    c.args.n c.part_end-end.result c.elements.i c.elements.live.items c.elements.invariant c.elements-test.false in
    ap (lives_of (elements c.args.d.now)) numbers ∙ found_tree (elements c.args.d.now) c.args.n c.requires.known
