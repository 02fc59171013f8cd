use Rattle.std.proofs.Common.{◌++◌, sym, ◌∙◌, subst}
use Rattle.std.specs.Prelude.{option_map}
use Rattle.elem_index.specs.Design.{elements}
use Rattle.dgn_import.specs.Answers.{TellsGathering}
use Rattle.dgn_import.proofs.GatheredTrees.{fitting, trees_ok}
use Rattle.dgn_import.proofs.gathering.gather_from.Goals as goal

pub returns-clause-gathered : goal.returns-clause-gathered
returns-clause-gathered c =
    subst (λ found. TellsGathering found c.taken_trees.result)
    (sym (fitting c.args.dim c.args.d.now.dim (elements c.args.d.now) (option_map (λ b. b.now) c.args.by)
    (sym (rw c.dim.ensures.value at c.fits.ensures.fits) ∙ c.if-not-fits.false)))
    c.taken_trees.ensures

pub returns-clause-trees : goal.returns-clause-trees
returns-clause-trees c =
    let fit = sym (rw c.dim.ensures.value at c.fits.ensures.fits) ∙ c.if-not-fits.false in
    let es = elements c.args.d.now in
    let by = option_map (λ b. b.now) c.args.by in
    trees_ok (c.args.d.now.body.items ++ c.args.d.now.tail.items) c.args.dim c.args.d.now.dim es c.args.d.now.tail.items by
    c.is_whole.ensures.is_open.opens c.fits.ensures.kept fit c.taken_trees.result
    (subst (λ found. TellsGathering found c.taken_trees.result) (sym (fitting c.args.dim c.args.d.now.dim es by fit)) c.taken_trees.ensures)
