use Rattle.std.proofs.Common.{◌≡◌, ℕ, ◌-◌, ap, ◌∙◌, arith}
use Rattle.dgn_drawing.specs.Nesting.{forest}
use Rattle.dgn_drawing.specs.Rows.{row_of}
use Rattle.dgn_drawing.specs.Numbering.{Mark, mark_of}
use Rattle.elem_index.specs.Design.{elements}
use Rattle.level_view.specs.Back.{read_back}
use Rattle.level_view.proofs.Results.{ok_same}
use Rattle.level_view.proofs.Places.{mark_part}
use Rattle.level_view.proofs.TreeItems.{IsTree, root_known, root_found}
use Rattle.level_view.proofs.view.tree_items_into.Goals as goal
use Rattle.level_view.proofs.view.tree_items_into.Goals.{In-Some}

-- the tree of the root, and its span
tree_of : (c : goal.In-Some) → IsTree c.args.d.now.dim c.args.mask (elements c.args.d.now) c.args.n (forest row_of (elements c.args.d.now)) 0
tree_of c =
    root_found c.args.d.now.dim c.args.mask (elements c.args.d.now) c.args.n c.requires.root (root_known (elements c.args.d.now) c.args.n c.requires.root)

span_is : (c : goal.In-Some) → ◌≡◌ {A = ℕ × ℕ} (c.in-Some.first, c.in-Some.end) (c.args.n, (tree_of c).mark.end)
span_is c =
    mark_part (λ (m : Mark). (c.args.n, m.end)) (tree_of c).mark (mark_of row_of (elements c.args.d.now) c.args.n) (c.in-Some.first, c.in-Some.end)
    c.in-Some.ensures.span (tree_of c).marked

first_is : (c : goal.In-Some) → c.in-Some.first ≡ c.args.n
first_is c = ap (λ (x : ℕ × ℕ). x.0) (span_is c)

end_is : (c : goal.In-Some) → c.in-Some.end ≡ (tree_of c).mark.end
end_is c = ap (λ (x : ℕ × ℕ). x.1) (span_is c)

pub put_between-requires-clause-within : goal.put_between-requires-clause-within
put_between-requires-clause-within c = let at = (goal.at.put_between-requires-clause-within c).In-Some in omega (arith, end_is at, (tree_of at).within)

pub put_between-requires-clause-ordered : goal.put_between-requires-clause-ordered
put_between-requires-clause-ordered c = let at = (goal.at.put_between-requires-clause-ordered c).In-Some in
    omega (arith, first_is at, end_is at, (tree_of at).ordered)

pub returns : goal.returns
returns c =
    let at = (goal.at.returns c).In-Some in
    ok_same c.put_between.result _ _ _ c.put_between.ensures
    (ap (λ (k : ℕ). read_back c.args.d.now.dim c.args.mask (elements c.args.d.now) k (c.in-Some.end - k)) (first_is at)
    ∙ ap (λ (k : ℕ). read_back c.args.d.now.dim c.args.mask (elements c.args.d.now) c.args.n (k - c.args.n)) (end_is at) ∙ (tree_of at).found)
