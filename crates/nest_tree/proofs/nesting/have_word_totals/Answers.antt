use Rattle.std.proofs.Common.{arith}
use Rattle.nest_tree.proofs.KeptRows.{are_words, words_kept}
use Rattle.nest_tree.proofs.nesting.have_word_totals.Goals as goal

pub returns : goal.returns
returns c =
    words_kept c.args._places.now c.args._kinds.now c.args.totals.now c.args._end
    (are_words c.args.totals.now (λ i within. omega (arith, c.type_inv.totals i)))
