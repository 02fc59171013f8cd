use Rattle.std.proofs.Common.{rules, ◌++◌, []}
use Rattle.dgn_desk.proofs.Telling.{filed_all}
use Rattle.dgn_desk.proofs.writing.write_file.Goals as goal

pub returns : goal.returns
returns g c = record {
  cause = search rules;
  other = search rules;
  changes = filed_all _ c.args.name.now c.args.body.now (c.args.tail.now ++ c.args.filling.now) _ _
      (c.write_both.ensures.changes c.args.name.now c.args.body.now (g.D.Desk.content c.args.desk.now)
      (c.in_ok-write_more.ensures.changes c.args.name.now [] (g.D.Desk.content c.args.desk.now) c.in_ok-begin_write.ensures.changes));
  stays_willing = search rules;
  never_fails = search rules;
}
