use Rattle.std.proofs.Common.{◌≡◌, ◌+◌, ◌∷◌, List, [], drop, map, Result, Ok, Err, sym, ap, subst, ◌∙◌}
use Rattle.std.specs.List.{AllByRecursion}
use Rattle.std.proofs.lemmas.List.{drop_more, drop_all}
use Rattle.std.proofs.lemmas.Result.{err_from_is_err_and}
use Rattle.dgn_desk.specs.Seen.{Seen, seen}
use Rattle.dgn_import.specs.declared.second.Second.{Second}
use Rattle.dgn_import.specs.Seconds.{SecondValue, value_of, IsOpened}
use Rattle.dgn_drawing.specs.declared.command.Command.{Command}
use Rattle.dgn_tool.specs.Ends.{ComesTo}
use Rattle.dgn_tool.specs.Inputs.{seconds_behind}
use Rattle.dgn_tool.specs.Readings.{◌>>=◌}
use Rattle.dgn_tool.specs.SecondFiles.{names_of, names_in}
use Rattle.dgn_tool.specs.declared.end.End.{End}
use Rattle.dgn_tool.proofs.ReadingsInTurn.{ends_first, then_comes, same_reading, gives}
use Rattle.dgn_tool.proofs.SecondFiles.{seconds_more, sound_turned, turned_back}
use Rattle.dgn_tool.proofs.seconds.read_seconds.Goals as goal

-- the files of the first of the commands that are left, and then those of the others
behind_one : (left : List Command) (c : Command) (rest : List Command) (before : List SecondValue) (result : Result (List SecondValue) End) (old new : Seen)
    → left ≡ c ∷ rest
    → ComesTo (λ files. seconds_behind files before (names_of c) >>= λ vs. seconds_behind files vs (names_in rest)) result old new
    → ComesTo (λ files. seconds_behind files before (names_in left)) result old new
behind_one left c rest before result old new is comes =
    subst (λ (cs : List Command). ComesTo (λ files. seconds_behind files before (names_in cs)) result old new) (sym is)
    (same_reading (λ files. seconds_behind files before (names_in (c ∷ rest)))
    (λ files. seconds_behind files before (names_of c) >>= λ vs. seconds_behind files vs (names_in rest)) result old new
    (λ files. seconds_more files before (names_of c) (names_in rest)) comes)

pub commands-init : goal.commands-init
commands-init g c = record {
  read = λ result new comes. subst (λ (l : List Second). ComesTo (λ files. seconds_behind files (map value_of l) (names_in c.args.commands.now)) result
      (seen g.D.Desk c.args.desk.now) new) c.new-seconds.ensures.items comes;
  sound = subst (AllByRecursion IsOpened) (sym c.new-seconds.ensures.items) tt;
}

pub commands-preserved : goal.commands-preserved
commands-preserved g c =
    let all = c.args.commands.now in
    let command : Command = c.command-item.result in
    let left : List Command = drop (c.commands.command-index + 1) all in
    let split : drop c.commands.command-index all ≡ command ∷ left =
    drop_more all c.commands.command-index command c.commands-test.true ∙ ap (λ (x : Command). x ∷ left) (sym c.command-item.is) in
    let before = map value_of c.commands.seconds.items in
    let now = map value_of c.read_for.new.seconds.items in
    record {
      read = λ result new comes. c.commands.invariant.read result new (behind_one _ command left before result _ new split
          (then_comes (λ files. seconds_behind files before (names_of command)) (λ files vs. seconds_behind files vs (names_in left)) now result _ _ new
          c.in_ok-read_for.ensures.read comes));
      sound = c.in_ok-read_for.ensures.sound;
    }

pub returns-in_err-read_for-clause-read : goal.returns-in_err-read_for-clause-read
returns-in_err-read_for-clause-read g c =
    let p = err_from_is_err_and c.from_residual.result c.from_residual.ensures.1 in
    let all = c.args.commands.now in
    let command : Command = c.command-item.result in
    let left : List Command = drop (c.commands.command-index + 1) all in
    let split : drop c.commands.command-index all ≡ command ∷ left =
    drop_more all c.commands.command-index command c.commands-test.true ∙ ap (λ (x : Command). x ∷ left) (sym c.command-item.is) in
    let before = map value_of c.commands.seconds.items in
    let end = c.in_err-read_for.field-0.0 in
    rw (p.1, p.2) (c.commands.invariant.read (Err end) _ (behind_one _ command left before (Err end) _ _ split
    (ends_first (λ files. seconds_behind files before (names_of command)) (λ files vs. seconds_behind files vs (names_in left)) end _ _
    c.in_err-read_for.ensures.read)))

pub returns-clause-sound : goal.returns-clause-sound
returns-clause-sound g c = sound_turned c.commands.seconds.items c.reverse.new.self.items c.commands.invariant.sound c.reverse.ensures.items

pub returns-clause-read : goal.returns-clause-read
returns-clause-read g c =
    let none : drop c.commands.command-index c.args.commands.now ≡ [] = drop_all c.commands.command-index c.args.commands.now c.commands-test.false in
    let vs = map value_of c.commands.seconds.items in
    subst (λ (ws : List SecondValue). ComesTo (λ files. seconds_behind files [] (names_in c.args.commands.now)) (Ok ws) (seen g.D.Desk c.args.desk.now)
    (seen g.D.Desk c.commands.desk)) (turned_back c.commands.seconds.items c.reverse.new.self.items c.reverse.ensures.items)
    (c.commands.invariant.read (Ok vs) _
    (subst (λ (cs : List Command). ComesTo (λ files. seconds_behind files vs (names_in cs)) (Ok vs) (seen g.D.Desk c.commands.desk)
    (seen g.D.Desk c.commands.desk)) (sym none) (gives vs _)))
