use Rattle.std.proofs.Common.{sym, ◌∙◌, arith}
use Rattle.dgn_desk.proofs.LentFiles.{found_first, passed_over, none_left}
use Rattle.dgn_desk.proofs.lent_desk.find.Goals as goal

pub returns-then-eq : goal.returns-then-eq
returns-then-eq c =
    sym (c.loop-file.invariant ∙ found_first c.args.lent.now c.loop-file.file-index c.args.name.now _ (omega arith) (sym c.eq.ensures ∙ c.if-eq.true))

pub loop-file-preserved : goal.loop-file-preserved
loop-file-preserved c =
    c.loop-file.invariant ∙ passed_over c.args.lent.now c.loop-file.file-index c.args.name.now _ (omega arith) (sym c.eq.ensures ∙ c.if-eq.false)

pub returns : goal.returns
returns c = sym (c.loop-file.invariant ∙ none_left c.args.lent.now c.loop-file.file-index c.args.name.now c.loop-file-test.false)
