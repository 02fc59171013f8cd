use Rattle.std.proofs.lemmas.Bool.{ne_eqb}
use Rattle.elem_index.specs.Design.{elements}
use Rattle.dgn_import.proofs.TakenTrees.{taken_asked}
use Rattle.dgn_import.proofs.taking.is_taken.Goals as goal

pub returns-then-is_drawn : goal.returns-then-is_drawn
returns-then-is_drawn c =
    taken_asked (elements c.args.d.now) c.args.n c.is_drawn.result c.is_unbroken.result
    (ne_eqb c.args.n 0 c.if-n-eq0.false) c.is_drawn.ensures c.if-is_drawn.true
    c.is_unbroken.ensures
