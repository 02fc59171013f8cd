use Rattle.std.proofs.Common.{◌≡◌, length, map}
use Rattle.edit_script.specs.CommandNames.{name_in, name_of}
use Rattle.edit_script.proofs.command_name.CommandName.of.Given as goal

abbrev pub invariant-entries : goal.invariant-entries
invariant-entries l = name_in (map (λ entry. (entry.0.now, entry.1)) l.left) l.word ≡ name_of l.word

abbrev pub decreases-entries : goal.decreases-entries
decreases-entries l = length l.left
