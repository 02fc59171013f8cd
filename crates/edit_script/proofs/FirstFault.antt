-- The answer of a script, line by line, means what it says.
use Rattle.std.proofs.Common.{◌≡◌, ℕ, ◌+◌, ◌&&◌, List, [], ◌∷◌, Result, Ok, Err, refl, sym, ap, ◌∙◌, arith, inl, inr}
use Rattle.std.specs.Prelude.{nat_le}
use Rattle.std.proofs.lemmas.Bool.{cases_Bool, cond-true, cond-false}
use Rattle.dgn_drawing.specs.declared.command.Command.{Command}
use Rattle.edit_script.specs.declared.fault.ScriptFault.{ScriptFault}
use Rattle.edit_script.specs.declared.fault.ScriptFault.TheVariants as fault
use Rattle.edit_script.specs.declared.reading.Reading.{Reading}
use Rattle.edit_script.specs.declared.reading.Reading.TheVariants.{Nothing, Asks, Bad}
use Rattle.edit_script.specs.Imports.{is_import, limited, imports_with}
use Rattle.edit_script.specs.Grammar.{command_of}
use Rattle.edit_script.specs.Script.{commands_from, with_first, with_line}
use Rattle.edit_script.specs.Laws.{IsRead, IsFirst, Means}

-- of a line that is read the limit changes nothing
unlimited : (imports : ℕ) (r x : Reading) → (Bad ≡ x → ⊥) → limited imports r ≡ x → r ≡ x
unlimited imports r x good is = elim (cases_Bool (nat_le 4 imports && is_import r)) [
  | inl past ↦ absurd (good (sym (cond-true (nat_le 4 imports && is_import r) Bad r past) ∙ is))
  | inr within ↦ sym (cond-false (nat_le 4 imports && is_import r) Bad r within) ∙ is
]

-- behind a line that is read the first bad one stays the first
later : (number from imports : ℕ) (line : List ℕ) (lines : List (List ℕ)) → IsRead (limited imports (command_of line))
    → IsFirst number (from + 1) (imports_with imports (command_of line)) lines
    → IsFirst number from imports (line ∷ lines)
later number from imports line lines is_read h = record {
  before = line ∷ h.before;
  line = h.line;
  behind = h.behind;
  parts = ap (λ ls. line ∷ ls) h.parts;
  counted = omega (arith, h.counted);
  read = (is_read, h.read);
  reads = h.reads;
}

-- a line that says nothing
passed : (from imports : ℕ) (line : List ℕ) (lines : List (List ℕ)) (rest : Result (List Command) ScriptFault) → limited imports (command_of line) ≡ Nothing
    → Means lines (from + 1) (imports_with imports (command_of line)) rest → Means (line ∷ lines) from imports rest
passed from imports line lines (Ok commands) e h =
    let says : command_of line ≡ Nothing = unlimited imports (command_of line) Nothing (λ x. let y = x in cc) e in
    ((rw e tt, h.0), rw says h.1)
passed from imports line lines (Err (fault.Line number)) e h = later number from imports line lines (rw e tt) h
passed from imports line lines (Err fault.Memory) e h = h

-- a line that says a command
said : (from imports : ℕ) (c : Command) (line : List ℕ) (lines : List (List ℕ)) (rest : Result (List Command) ScriptFault)
    → limited imports (command_of line) ≡ Asks c
    → Means lines (from + 1) (imports_with imports (command_of line)) rest → Means (line ∷ lines) from imports (with_first c rest)
said from imports c line lines (Ok commands) e h =
    let says : command_of line ≡ Asks c = unlimited imports (command_of line) (Asks c) (λ x. let y = x in cc) e in
    ((rw e tt, h.0), rw says (ap (λ cs. c ∷ cs) h.1))
said from imports c line lines (Err (fault.Line number)) e h = later number from imports line lines (rw e tt) h
said from imports c line lines (Err fault.Memory) e h = h

-- a line that is bad
here : (from imports : ℕ) (line : List ℕ) (lines : List (List ℕ)) → limited imports (command_of line) ≡ Bad → IsFirst from from imports (line ∷ lines)
here from imports line lines e = record { before = []; line = line; behind = lines; parts = refl; counted = omega arith; read = tt; reads = e }

-- a line before others, by what it says
joins : (from imports : ℕ) (line : List ℕ) (lines : List (List ℕ)) (reading : Reading) (rest : Result (List Command) ScriptFault)
    → limited imports (command_of line) ≡ reading
    → Means lines (from + 1) (imports_with imports (command_of line)) rest → Means (line ∷ lines) from imports (with_line from reading rest)
joins from imports line lines Nothing rest e h = passed from imports line lines rest e h
joins from imports line lines (Asks c) rest e h = said from imports c line lines rest e h
joins from imports line lines Bad rest e h = here from imports line lines e

pub means : (lines : List (List ℕ)) (from imports : ℕ) → Means lines from imports (commands_from from imports lines)
means [] from imports = (tt, refl)
means (line ∷ lines) from imports =
    joins from imports line lines (limited imports (command_of line)) (commands_from (from + 1) (imports_with imports (command_of line)) lines) refl
    (means lines (from + 1) (imports_with imports (command_of line)))
