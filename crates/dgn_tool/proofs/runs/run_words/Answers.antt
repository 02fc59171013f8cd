use Rattle.dgn_desk.specs.Seen.{seen}
use Rattle.dgn_tool.specs.RequestView as view
use Rattle.dgn_tool.proofs.WholeRuns.{ran}
use Rattle.dgn_tool.proofs.runs.run_words.Goals as goal

pub returns-in-Some : goal.returns-in-Some
returns-in-Some g c =
    ran (view.seen c.in-Some.request) _ (seen g.D.Desk c.args.desk.now) (seen g.D.Desk c.run_request.new.desk)
    c.run_request.result c.status.result c.in-Some.ensures.asked c.status.ensures c.run_request.ensures.reads c.run_request.ensures.ends
