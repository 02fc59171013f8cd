use Rattle.std.proofs.Common.{◌≡◌, Some, length}
use Rattle.edit_script.specs.Words.{words_of}
use Rattle.edit_script.specs.Levels.{with_words}
use Rattle.edit_script.proofs.levels.levels_of.Given as goal

abbrev pub invariant-words : goal.invariant-words
invariant-words l = with_words (Some l.mask) (words_of l.left) ≡ with_words (Some 0) (words_of l.rest)

abbrev pub decreases-words : goal.decreases-words
decreases-words l = length (words_of l.left)
