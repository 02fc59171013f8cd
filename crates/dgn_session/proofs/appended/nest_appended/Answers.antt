use Rattle.std.proofs.Common.{◌≡◌, ◌++◌, ◌∙◌, ap, sym, subst, arith, List, length, eqb-true}
use Rattle.std.specs.List.{AllByRecursion}
use Rattle.dgn_drawing.specs.declared.row.Row.{Row}
use Rattle.nest_tree.specs.Shapes.{IsRow}
use Rattle.dgn_session.proofs.NestingGrowth.{block_each, followed_more, followed_all}
use Rattle.dgn_session.proofs.appended.nest_appended.Goals as goal

pub grow-requires-clause-each : goal.grow-requires-clause-each
grow-requires-clause-each c =
    subst (AllByRecursion IsRow) (sym c.deref.ensures.value)
    (block_each c.args.bytes.now c.blocks-2.rest.now c.args.nest.now.rows c.blocks-2.nest.rows c.blocks-2.count c.blocks-2.invariant
    c.read_block.new.rows.items c.in_ok-size.size c.in_ok-size.ensures.block)

pub blocks-2-preserved : goal.blocks-2-preserved
blocks-2-preserved c =
    let grown : c.grow.new.self.rows ≡ c.blocks-2.nest.rows ++ c.read_block.new.rows.items =
    c.grow.ensures ∙ ap (λ (l : List Row). l ++ c.deref.result.now) c.in_ok-reserve.ensures.rows
    ∙ ap (λ (l : List Row). c.blocks-2.nest.rows ++ l) c.deref.ensures.value in
    followed_more c.args.bytes.now c.blocks-2.rest.now c.args.nest.now.rows c.blocks-2.nest.rows c.blocks-2.count c.blocks-2.invariant
    c.read_block.new.rows.items c.in_ok-size.size c.in_ok-size.ensures.block
    c.grow.new.self.rows c.split_at.result.1.now c.len-in-blocks-2.result grown c.split_at.ensures.back
    (omega (arith, c.len-in-blocks-2.ensures, c.read_block.new.rows.ok.0))

pub returns-clause-grown : goal.returns-clause-grown
returns-clause-grown c =
    followed_all c.args.bytes.now c.blocks-2.rest.now c.args.nest.now.rows c.blocks-2.nest.rows c.blocks-2.count c.blocks-2.invariant
    (eqb-true (length c.blocks-2.rest.now) 0 (sym c.is_empty.ensures ∙ c.blocks-2-test.false))
