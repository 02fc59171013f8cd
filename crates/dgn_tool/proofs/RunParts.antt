-- Parts of a run that read nothing: a line that ends it, and want of memory.
use Rattle.std.proofs.Common.{◌≡◌, List, ℕ, Result, Ok, Err, sym, ◌∙◌, subst}
use Rattle.dgn_desk.specs.declared.stop.Stop.{Stop}
use Rattle.dgn_desk.specs.declared.stop.Stop.TheVariants as stops
use Rattle.dgn_desk.specs.Desk.{SaysAll}
use Rattle.dgn_desk.specs.Seen.{Seen, Writes}
use Rattle.dgn_desk.proofs.InTurn.{done_so, stopped_so, wanted}
use Rattle.dgn_tool.specs.Ended.{Outcome, ended}
use Rattle.dgn_tool.specs.Ends.{status_said, Tells, end_of}
use Rattle.dgn_tool.specs.Leaving.{Stops}
use Rattle.dgn_tool.specs.declared.ending.Ending.{Ending}
use Rattle.dgn_tool.specs.declared.end.End.{End}
use Rattle.dgn_tool.specs.declared.end.End.TheVariants as ends
use Rattle.dgn_tool.proofs.ToldContents.{where_told, stopped_early, nothing_done, line_said, line_stopped}

-- the same outcome by another name
pub named_so : (o q : Outcome) (r : Result Ending Stop) (old new : Seen) → o ≡ q → Writes r (Tells q r) old new → Writes r (Tells o r) old new
named_so o q r old new same comes = subst (λ (x : Outcome). Writes r (Tells x r) old new) (sym same) comes

-- a line that ends the run was said
pub line_ends : (ending : Ending) (line : List ℕ) (old new : Seen) → Writes {T = Unit {0}} (Ok tt) (SaysAll (Ok tt) line) old new
    → Writes {T = Ending} (Ok ending) (Tells (ended (status_said ending) line) (Ok ending)) old new
line_ends ending line old new said = done_so tt ending said (line_said (status_said ending) line old.content new.content)

-- or that was stopped
pub line_stops : (ending : Ending) (line : List ℕ) (stop : Stop) (old new : Seen) → Writes {T = Unit {0}} (Err stop) (SaysAll (Err stop) line) old new
    → Writes {T = Ending} (Err stop) (Tells (ended (status_said ending) line) (Err stop)) old new
line_stops ending line stop old new said = stopped_so stop said (line_stopped (status_said ending) line stop old.content new.content)

-- a part that reads nothing wanted memory before it did anything
pub wants : (o : Outcome) (old : Seen) → Writes {T = Ending} (Err stops.Memory) (Tells o (Err stops.Memory)) old old
wants o old =
    wanted old (where_told _ (λ c. Stops o c old.content) old.content (stopped_early old.content old.content (nothing_done old.content)) (λ c stops. stops o))

-- it reads nothing
pub reads_nothing : (r : Result Ending Stop) (end : End) → end ≡ end_of r → end ≡ ends.ReadFault → ⊥
reads_nothing (Ok ending) end is fault = let x = sym is ∙ fault in cc
reads_nothing (Err stop) end is fault = let x = sym is ∙ fault in cc
