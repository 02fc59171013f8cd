use Rattle.std.proofs.Common.{◌≡◌, length}
use Rattle.edit_script.specs.Words.{words_of, each_named}
use Rattle.edit_script.specs.Fences.{corner_named}
use Rattle.edit_script.proofs.NamedValues.{behind_all}
use Rattle.edit_script.proofs.fences.read_corners.Given as goal

abbrev pub invariant-words : goal.invariant-words
invariant-words l = behind_all l.corners (each_named corner_named (words_of l.left)) ≡ each_named corner_named (words_of l.words)

abbrev pub decreases-words : goal.decreases-words
decreases-words l = length (words_of l.left)
