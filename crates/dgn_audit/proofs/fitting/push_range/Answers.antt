use Rattle.dgn_audit.proofs.FitQuestions.{kind_spotted, kind_holds}
use Rattle.dgn_audit.proofs.fitting.push_range.Goals as goal

pub push_spots-requires : goal.push_spots-requires
push_spots-requires c = record {
  spotted = kind_spotted c.args.d.now c.args.m c.in-Some.found c.in-Some.ensures.found c.is_whole.ensures c.requires.spotted;
  holds = kind_holds c.args.d.now c.args.m c.in-Some.found c.in-Some.ensures.found c.is_whole.ensures c.requires.spotted;
}
