use Rattle.std.proofs.Common.{◌≡◌, List, ℕ, Result, Err, ap, sym, subst, ◌∙◌}
use Rattle.std.specs.Prelude.{codes}
use Rattle.std.proofs.lemmas.Result.{err_from_is_err_and}
use Rattle.dgn_desk.specs.Content.{Files}
use Rattle.dgn_drawing.specs.declared.command.Command.{Command}
use Rattle.edit_script.specs.Script.{commands_of, TellsOfScript}
use Rattle.edit_script.specs.declared.fault.ScriptFault.{ScriptFault}
use Rattle.edit_script.specs.declared.fault.ScriptFault.TheVariants as faults
use Rattle.edit_script.specs.declared.limits.TheConstants.{MOST_SCRIPT}
use Rattle.dgn_tool.specs.Ended.{ended}
use Rattle.dgn_listing.specs.NumberedLines.{numbered}
use Rattle.dgn_tool.specs.Inputs.{commands_read, commands_in}
use Rattle.dgn_tool.specs.Readings.{Reading, at_once, file_in}
use Rattle.dgn_tool.specs.declared.status.Status.TheVariants as statuses
use Rattle.dgn_tool.proofs.ReadingsInTurn.{ends_first, then_comes, comes_so, wants_more}
use Rattle.dgn_tool.proofs.files.read_commands.Goals as goal

-- the text of SCRIPT
abbrev text_in : List ℕ → Files → Reading (List ℕ)
text_in script files = file_in files script MOST_SCRIPT (codes "too long script\n")

-- and what is read behind it
abbrev behind : Files → List ℕ → Reading (List Command)
behind files text = at_once (commands_read (commands_of text))

-- by what the text reads to
read_so : (files : Files) (text : List ℕ) (found : Result (List Command) ScriptFault) → commands_of text ≡ found
    → behind files text ≡ at_once (commands_read found)
read_so files text found is = ap (λ (r : Result (List Command) ScriptFault). at_once (commands_read r)) is

pub returns-in_err-text : goal.returns-in_err-text
returns-in_err-text g c =
    let p = err_from_is_err_and c.from_residual.result c.from_residual.ensures.1 in
    rw (p.1, p.2) (ends_first (text_in c.args.script.now) behind c.in_err-text.field-0.0 _ _ c.in_err-text.ensures.read)

pub returns-in-Err-Line : goal.returns-in-Err-Line
returns-in-Err-Line g c =
    let text = c.in_ok-text.text.items in
    let number = c.in-Err-Line.number in
    let told : commands_of c.deref.result.now ≡ Err (faults.Line number) =
    subst (TellsOfScript c.deref.result.now) c.in-Err-Line.field-0-is c.in-Err-Line.ensures.fault in
    then_comes (text_in c.args.script.now) behind text (Err c.of.result) _ _ _ c.in_ok-text.ensures.read
    (comes_so (λ files. behind files text) (ended statuses.BadScript (numbered (codes "bad script line ") number)) c.end_numbered.result c.of.result _ _
    (λ files. read_so files text (Err (faults.Line number)) (ap commands_of (sym c.deref.ensures.value) ∙ told)) c.of.ensures c.end_numbered.ensures)

pub returns : goal.returns
returns g c = wants_more (λ files. commands_in files c.args.script.now) _ _ c.in_ok-text.ensures.read.reads
