use Rattle.std.proofs.Common.{sym, ◌<◌, ◌≤◌, ℕ, subst, arith}
use Rattle.std.specs.Prelude.{Option, Some, None, IfSome}
use Rattle.std.specs.List.{AllByRecursion}
use Rattle.nest_tree.specs.Depths.{IsWordTotal}
use Rattle.nest_tree.specs.Pass.{all_rows}
use Rattle.nest_tree.specs.Places.{Going, parent_in}
use Rattle.nest_tree.specs.Shapes.{IsRow}
use Rattle.nest_tree.specs.declared.open_list.OpenList.{OpenList}
use Rattle.nest_tree.proofs.HeadersApart.{reached, parent_reached, around_reached}
use Rattle.nest_tree.proofs.ListStacks.{leaves, never_ends}
use Rattle.nest_tree.proofs.RowDepths.{near_apart, near_list}
use Rattle.nest_tree.proofs.SourceRows.{each_row_of}
use Rattle.nest_tree.proofs.pass.Pass.innermost.Goals as goal

-- what is said of a header in two ways
both_said : (at first : ℕ) (o : Option ℕ) → IfSome o (λ q. q < at) → IfSome o (λ q. first ≤ q) → IfSome o (λ q. (q < at) × (first ≤ q))
both_said at first None one two = tt
both_said at first (Some n) one two = (one, two)

pub list_around-list-requires-clause-known : goal.list_around-list-requires-clause-known
list_around-list-requires-clause-known c =
    let p = c.args.self.now in
    (leaves (all_rows p) p.at c.loop-list.list c.in-Some.header c.requires.known c.loop-list-test.true c.loop-list.invariant.0 c.in-Some.is).before

pub list_around-list-requires-clause-above : goal.list_around-list-requires-clause-above
list_around-list-requires-clause-above c =
    let p = c.args.self.now in
    let left = leaves (all_rows p) p.at c.loop-list.list c.in-Some.header c.requires.known c.loop-list-test.true c.loop-list.invariant.0 c.in-Some.is in
    let from : p.first ≤ c.in-Some.header = subst (λ (o : Option ℕ). IfSome o (λ q. p.first ≤ q)) c.in-Some.is c.loop-list.invariant.1 in
    let before = left.before in
    let known = c.requires.known in
    both_said p.at p.first (parent_in (all_rows p) c.in-Some.header) left.above
    (parent_reached (all_rows p) p.first c.in-Some.header (reached (all_rows p) p.first c.requires.reading.pass.apart) from (omega arith))

pub loop-list-smaller : goal.loop-list-smaller
loop-list-smaller c =
    let p = c.args.self.now in
    let left = leaves (all_rows p) p.at c.loop-list.list c.in-Some.header c.requires.known c.loop-list-test.true c.loop-list.invariant.0 c.in-Some.is in
    subst (λ (x : OpenList). x.depth < c.loop-list.list.depth) (sym c.list_around-list.ensures) left.shallow

pub loop-list-preserved : goal.loop-list-preserved
loop-list-preserved c =
    let p = c.args.self.now in
    let left = leaves (all_rows p) p.at c.loop-list.list c.in-Some.header c.requires.known c.loop-list-test.true c.loop-list.invariant.0 c.in-Some.is in
    let from : p.first ≤ c.in-Some.header = subst (λ (o : Option ℕ). IfSome o (λ q. p.first ≤ q)) c.in-Some.is c.loop-list.invariant.1 in
    let before = left.before in
    let known = c.requires.known in (
      subst (Going (all_rows p) p.at) (sym c.list_around-list.ensures) left.around,
      subst (λ (x : OpenList). IfSome x.parent (λ q. p.first ≤ q)) (sym c.list_around-list.ensures)
          (around_reached (all_rows p) p.first c.in-Some.header (reached (all_rows p) p.first c.requires.reading.pass.apart) from (omega arith)),
    )

pub unreachable-requires : goal.unreachable-requires
unreachable-requires c =
    let p = c.args.self.now in
    never_ends (all_rows p) p.at c.loop-list.list c.requires.known c.loop-list-test.true c.loop-list.invariant.0 c.in-None.is

pub returns : goal.returns
returns c =
    let p = c.args.self.now in
    let pass = c.requires.reading.pass in
    let inside = c.loop-list-test.false in
    let near = near_apart (all_rows p) p.first pass.apart (subst (AllByRecursion IsRow) pass.rows (each_row_of p.source pass.source))
    (subst (AllByRecursion IsWordTotal) pass.rows pass.words) in
    record {
      going = c.loop-list.invariant.0;
      inside = omega (arith, inside);
      header = c.loop-list.invariant.1;
      near = omega (
        arith,
        near_list (all_rows p) p.at c.loop-list.list c.loop-list.invariant.0 (omega (arith, inside)) p.first pass.from c.requires.known
            near,
      );
    }
