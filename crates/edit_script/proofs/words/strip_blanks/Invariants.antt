use Rattle.std.proofs.Common.{◌≡◌, length}
use Rattle.edit_script.specs.Words.{from_word}
use Rattle.edit_script.proofs.words.strip_blanks.Given as goal

abbrev pub invariant-blanks : goal.invariant-blanks
invariant-blanks l = from_word l.rest ≡ from_word l.line

abbrev pub decreases-blanks : goal.decreases-blanks
decreases-blanks l = length l.rest
