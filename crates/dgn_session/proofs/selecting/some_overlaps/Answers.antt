use Rattle.std.proofs.Common.{refl, sym, ◌∙◌, arith}
use Rattle.dgn_drawing.specs.Reading.{element_at}
use Rattle.elem_index.specs.Design.{elements}
use Rattle.level_view.proofs.Places.{sound_here, element_here}
use Rattle.dgn_session.proofs.ItemsApart.{root_there, tree_within, next_clear, tree_clear}
use Rattle.dgn_session.proofs.selecting.some_overlaps.Goals as goal

pub part_end-end-requires : goal.part_end-end-requires
part_end-end-requires c = root_there (elements c.args.d.now) c.args.root c.requires.root

pub unreachable-requires : goal.unreachable-requires
unreachable-requires c =
    let few = tree_within (elements c.args.d.now)
    c.args.root c.requires.root c.part_end-end.result c.part_end-end.ensures in
    absurd (omega (arith, few, c.elements-test.true, c.in_default.ensures.none.0 refl))

pub takes_element-requires-clause-element : goal.takes_element-requires-clause-element
takes_element-requires-clause-element c =
    rw c.dim.ensures.value (sound_here c.args.d.now c.is_whole.ensures c.elements.n c.in-Some.b.now c.in-Some.ensures.bytes)

pub elements-preserved : goal.elements-preserved
elements-preserved c =
    next_clear c.args.fence.now c.args.d.now.dim (elements c.args.d.now) c.args.root c.elements.n
    (element_at c.args.d.now.dim c.in-Some.b.now) c.elements.invariant
    (element_here c.args.d.now c.is_whole.ensures c.elements.n c.in-Some.b.now c.in-Some.ensures.bytes)
    (λ k depth. sym c.if-branch.false ∙ (rw c.dim.ensures.value at c.in_ok-takes_element.ensures) k depth)

pub returns : goal.returns
returns c = record {
  none = λ all mask. tree_clear c.args.fence.now c.args.d.now.dim (elements c.args.d.now)
      c.args.root c.part_end-end.result c.requires.root
      c.part_end-end.ensures (λ k depth e low high there. c.elements.invariant k depth e low (omega (arith, high, c.elements-test.false)) there) mask;
}
