use Rattle.dgn_desk.specs.Seen.{seen}
use Rattle.dgn_tool.proofs.WholeRuns.{says_usage, stops_usage}
use Rattle.dgn_tool.proofs.runs.say_usage.Goals as goal

pub returns-in-Ok : goal.returns-in-Ok
returns-in-Ok g c = says_usage (seen g.D.Desk c.args.desk.now) (seen g.D.Desk c.say_all.new.desk) c.in-Ok.ensures

pub returns-in-Err : goal.returns-in-Err
returns-in-Err g c =
    stops_usage (seen g.D.Desk c.args.desk.now) (seen g.D.Desk c.say_all.new.desk) c.in-Err.stop c.status.result c.status.ensures c.in-Err.ensures
