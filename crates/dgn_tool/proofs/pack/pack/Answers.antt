use Rattle.std.proofs.Common.{List, Ok, subst}
use Rattle.dgn_drawing.specs.declared.command.Command.{Command}
use Rattle.elem_index.specs.Answers.{opened_of}
use Rattle.dgn_answers.specs.Steps.{steps_of}
use Rattle.dgn_import.specs.Seconds.{seconds_left}
use Rattle.dgn_tool.specs.Ends.{DeskComes}
use Rattle.dgn_tool.specs.Inputs.{inputs_in}
use Rattle.dgn_tool.specs.Packing.{packed}
use Rattle.dgn_tool.specs.Readings.{at_once}
use Rattle.dgn_tool.proofs.ReadingsInTurn.{run_ends_first, run_comes}
use Rattle.dgn_tool.proofs.pack.pack.Goals as goal

pub returns-in-Ok : goal.returns-in-Ok
returns-in-Ok g c =
    let read = c.in-Ok.field-0 in
    let d = opened_of read.design in
    let vs = seconds_left read.seconds.items in
    let name = c.args.patch.now in
    run_comes (λ files. inputs_in files c.args.input.now c.args.script.now) (λ i. packed i.drawing i.steps name)
    (record { drawing = d; steps = steps_of read.commands.items vs }) c.pack_commands.result c.of.result _ _ _ c.in-Ok.ensures.read c.of.ensures
    (subst (λ (cs : List Command). DeskComes g.D.Desk (packed d (steps_of cs vs) name) c.read_inputs.new.desk c.pack_commands.new.desk
    c.pack_commands.result) c.deref.ensures.value c.pack_commands.ensures)

pub returns-in-Err : goal.returns-in-Err
returns-in-Err g c =
    run_ends_first (λ files. inputs_in files c.args.input.now c.args.script.now)
    (λ _ i. at_once (Ok (packed i.drawing i.steps c.args.patch.now))) c.in-Err.end _ _ c.in-Err.ensures.read
