use Rattle.std.proofs.lemmas.Option.{slice_get_within}
use Rattle.elem_index.specs.Design.{elements}
use Rattle.dgn_audit.proofs.FitQuestions.{last_each}
use Rattle.dgn_audit.specs.Planned.{IsSpotted}
use Rattle.dgn_audit.proofs.fitting.patches_of.Goals as goal

pub push_range-requires-clause-known : goal.push_range-requires-clause-known
push_range-requires-clause-known c =
    let is = last_each (IsSpotted (elements c.args.d.now))
    c.fitted.fitted.items c.pop.new.self.items c.in-Some.one c.in-Some.ensures.items c.fitted.invariant.spotted in
    slice_get_within (elements c.args.d.now) c.in-Some.one.number is.element is.there
