use Rattle.elem_index.specs.Design.{elements}
use Rattle.elem_index.proofs.Places.{axes_of}
use Rattle.dgn_audit.proofs.FitQuestions.{ok_as}
use Rattle.dgn_audit.proofs.TreePlaces.{root_known}
use Rattle.dgn_audit.proofs.FittedBytes.{root_planned}
use Rattle.dgn_audit.proofs.fitting.plan_fit.Goals as goal

pub plan_root-requires : goal.plan_root-requires
plan_root-requires c = record {
  known = root_known (elements c.args.d.now) c.args.n c.in-Some.root c.in-Some.ensures.root;
}

pub returns-clause-planned : goal.returns-clause-planned
returns-clause-planned c =
    ok_as c.plan_root.result _ _ c.plan_root.ensures.planned
    (λ ps is. root_planned c.args.d.now.dim (axes_of c.args.d.now c.is_whole.ensures) (elements c.args.d.now) c.is_whole.ensures.is_open.opens.each
    c.in-Some.root
    (root_known (elements c.args.d.now) c.args.n c.in-Some.root c.in-Some.ensures.root) c.args.n ps c.in-Some.ensures.root is)
