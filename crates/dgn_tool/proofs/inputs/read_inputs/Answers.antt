use Rattle.std.proofs.Common.{List, ℕ, Ok, Err, subst}
use Rattle.std.proofs.lemmas.Result.{err_from_is_err_and}
use Rattle.dgn_desk.specs.Content.{Files}
use Rattle.dgn_desk.specs.Seen.{seen}
use Rattle.dgn_drawing.specs.declared.command.Command.{Command}
use Rattle.elem_index.specs.Answers.{opened_of}
use Rattle.elem_index.specs.Opened.{Opened}
use Rattle.dgn_answers.specs.Steps.{steps_of}
use Rattle.dgn_import.specs.Seconds.{SecondValue, seconds_left}
use Rattle.dgn_tool.specs.Ends.{ComesTo, IsRead}
use Rattle.dgn_tool.specs.Inputs.{Inputs, drawing_in, commands_in, seconds_in}
use Rattle.dgn_tool.specs.Readings.{Reading, at_once, ◌>>=◌}
use Rattle.dgn_tool.proofs.ReadingsInTurn.{ends_first, then_comes, gives}
use Rattle.dgn_tool.proofs.inputs.read_inputs.Goals as goal

-- what is read behind the second files
abbrev behind_seconds : Opened → List Command → Files → List SecondValue → Reading Inputs
behind_seconds d cs files vs = at_once (Ok (record { drawing = d; steps = steps_of cs vs }))

-- behind SCRIPT
abbrev behind_script : Opened → Files → List Command → Reading Inputs
behind_script d files cs = seconds_in files cs >>= behind_seconds d cs files

-- and behind IN
abbrev behind_input : List ℕ → Files → Opened → Reading Inputs
behind_input script files d = commands_in files script >>= behind_script d files

pub returns-in_err-design-clause-read : goal.returns-in_err-design-clause-read
returns-in_err-design-clause-read g c =
    let p = err_from_is_err_and c.from_residual.result c.from_residual.ensures.1 in
    rw (p.1, p.2) (ends_first (λ files. drawing_in files c.args.input.now) (behind_input c.args.script.now) c.in_err-design.field-0.0 _ _
    c.in_err-design.ensures.read)

pub returns-in_err-commands-clause-read : goal.returns-in_err-commands-clause-read
returns-in_err-commands-clause-read g c =
    let p = err_from_is_err_and c.from_residual-in_err-commands.result c.from_residual-in_err-commands.ensures.1 in
    let script = c.args.script.now in
    let d = opened_of c.in_ok-design.design in
    let end = c.in_err-commands.field-0.0 in
    rw (p.1, p.2) (then_comes (λ files. drawing_in files c.args.input.now) (behind_input script) d (Err end) _ _ _ c.in_ok-design.ensures.read
    (ends_first (λ files. commands_in files script) (behind_script d) end _ _ c.in_err-commands.ensures))

pub returns-in_err-seconds-clause-read : goal.returns-in_err-seconds-clause-read
returns-in_err-seconds-clause-read g c =
    let p = err_from_is_err_and c.from_residual-in_err-seconds.result c.from_residual-in_err-seconds.ensures.1 in
    let script = c.args.script.now in
    let d = opened_of c.in_ok-design.design in
    let cs = c.in_ok-commands.commands.items in
    let end = c.in_err-seconds.field-0.0 in
    let read = subst (λ (ks : List Command). ComesTo (λ files. seconds_in files ks) (Err end) (seen g.D.Desk c.read_commands.new.desk)
    (seen g.D.Desk c.read_seconds.new.desk)) c.deref.ensures.value c.in_err-seconds.ensures.read in
    rw (p.1, p.2) (then_comes (λ files. drawing_in files c.args.input.now) (behind_input script) d (Err end) _ _ _ c.in_ok-design.ensures.read
    (then_comes (λ files. commands_in files script) (behind_script d) cs (Err end) _ _ _ c.in_ok-commands.ensures
    (ends_first (λ files. seconds_in files cs) (behind_seconds d cs) end _ _ read)))

pub returns-clause-read : goal.returns-clause-read
returns-clause-read g c =
    let script = c.args.script.now in
    let d = opened_of c.in_ok-design.design in
    let cs = c.in_ok-commands.commands.items in
    let vs = seconds_left c.in_ok-seconds.seconds.items in
    let i : Inputs = record { drawing = d; steps = steps_of cs vs } in
    let read = subst (λ (ks : List Command). IsRead (λ files. seconds_in files ks) vs (seen g.D.Desk c.read_commands.new.desk)
    (seen g.D.Desk c.read_seconds.new.desk)) c.deref.ensures.value c.in_ok-seconds.ensures.read in
    then_comes (λ files. drawing_in files c.args.input.now) (behind_input script) d (Ok i) _ _ _ c.in_ok-design.ensures.read
    (then_comes (λ files. commands_in files script) (behind_script d) cs (Ok i) _ _ _ c.in_ok-commands.ensures
    (then_comes (λ files. seconds_in files cs) (behind_seconds d cs) vs (Ok i) _ _ _ read (gives i _)))
