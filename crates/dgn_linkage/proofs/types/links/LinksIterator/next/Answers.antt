-- Each call gives the first of the linkages that are left.
use Rattle.std.proofs.Common.{length, ap, arith, rules, eqb-true, sym, ◌∙◌}
use Rattle.dgn_linkage.proofs.LinkageSteps.{slice-next, slice-none, slice_from}
use Rattle.dgn_linkage.proofs.types.links.LinksIterator.next.Goals as goal

pub returns-then-is_empty-clause-steps : goal.returns-then-is_empty-clause-steps
returns-then-is_empty-clause-steps c =
    let l = c.args.self.now in
    let nothing = slice-none l.at l.bytes.now (eqb-true (length (slice_from l.at l.bytes.now)) 0 (sym c.is_empty.ensures ∙ c.if-is_empty.true)) in
    (nothing, nothing)

pub returns-clause-steps : goal.returns-clause-steps
returns-clause-steps c =
    let l = c.args.self.now in
    let link = c.first_link-link in
    slice-next l.at l.bytes.now link.result link.ensures.nonempty link.ensures.within link.ensures.link

pub returns-clause-goes : goal.returns-clause-goes
returns-clause-goes c =
    let l = c.args.self.now in
    let link = c.first_link-link in
    let given = slice-next l.at l.bytes.now link.result link.ensures.nonempty link.ensures.within link.ensures.link in
    record { on = λ f. (search rules, search rules, omega (arith, ap length given)); keeps = search rules; rests = λ f. search rules }
