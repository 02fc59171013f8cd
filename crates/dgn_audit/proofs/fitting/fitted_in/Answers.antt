use Rattle.std.proofs.Common.{sym, subst}
use Rattle.std.specs.List.{AllByRecursion}
use Rattle.elem_index.specs.Design.{elements}
use Rattle.dgn_audit.specs.Planned.{IsSpotted}
use Rattle.dgn_audit.proofs.FitQuestions.{ok_as}
use Rattle.dgn_audit.proofs.TreePlaces.{part_spotted}
use Rattle.dgn_audit.proofs.fitting.fitted_in.Goals as goal

pub returns-clause-spotted : goal.returns-clause-spotted
returns-clause-spotted c =
    ok_as c.read_part.result _ _ c.read_part.ensures
    (λ v is. subst (AllByRecursion (IsSpotted (elements c.args.d.now))) (sym is)
    (part_spotted c.args.d.now.dim (elements c.args.d.now) c.args.n c.requires.known))
