-- The commands that name no second file.
use Rattle.std.proofs.Common.{◌≡◌, ℕ, List, [], Option, refl}
use Rattle.dgn_drawing.specs.Values.{Displacement}
use Rattle.dgn_drawing.specs.declared.command.Command.{Command}
use Rattle.dgn_drawing.specs.declared.command.Command.TheVariants as command
use Rattle.dgn_tool.specs.SecondFiles.{names_of}

-- a command that is no import names no file
pub names_none : (c : Command) → ((name : List ℕ) (by : Option Displacement) → ¬ (c ≡ command.Import name by)) → names_of c ≡ []
names_none (command.Import name by) none = absurd (none name by refl)
names_none _ none = refl
