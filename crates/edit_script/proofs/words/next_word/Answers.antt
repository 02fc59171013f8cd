use Rattle.std.proofs.Common.{arith}
use Rattle.std.proofs.lemmas.Bool.Decides.{nat_tests}
use Rattle.edit_script.proofs.TextPieces.{words_of-none, words_of-some}
use Rattle.edit_script.proofs.words.next_word.Goals as goal

pub returns-then-is_empty-clause-word : goal.returns-then-is_empty-clause-word
returns-then-is_empty-clause-word c = grind (arith, nat_tests, words_of-none)

pub returns-clause-word : goal.returns-clause-word
returns-clause-word c = grind (arith, nat_tests, words_of-some)
