use Rattle.std.proofs.Common.{◌∙◌}
use Rattle.dgn_answers.specs.Steps.{steps_of}
use Rattle.dgn_import.specs.Seconds.{seconds_left}
use Rattle.dgn_tool.proofs.PackedEntries.{packs}
use Rattle.dgn_tool.proofs.pack.pack_session.Goals as goal

pub returns-clause-entries : goal.returns-clause-entries
returns-clause-entries c =
    c.in_ok-entries.ensures.taken
    ∙ packs (steps_of c.args.commands.now (seconds_left c.args.seconds.now.items))
    c.args.session.now c.run_unsaid.new.session c.requires.begun c.in_ok-tally.ensures.logged c.in_ok-tally.ensures.state c.in_ok-entries.ensures.sound
