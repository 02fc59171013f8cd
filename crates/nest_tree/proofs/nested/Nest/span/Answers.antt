use Rattle.std.proofs.Common.{refl, ℕ}
use Rattle.dgn_drawing.specs.Numbering.{Mark}
use Rattle.nest_tree.specs.Places.{end_of_mark}
use Rattle.nest_tree.proofs.LookUps.{known_of, none_found, none_past, none_known}
use Rattle.nest_tree.proofs.nested.Nest.span.Goals as goal

pub returns-in_err-end-clause-none : goal.returns-in_err-end-clause-none
returns-in_err-end-clause-none c =
    none_past c.args.self.now.rows c.args.n end_of_mark (λ (m : Mark). (c.args.n, m.end))
    c.from_residual.result c.from_residual.ensures c.in_err-end.ensures

pub returns-in_err-end-clause-span : goal.returns-in_err-end-clause-span
returns-in_err-end-clause-span c =
    none_found c.args.self.now.rows c.args.n end_of_mark (λ (m : Mark). (c.args.n, m.end)) c.from_residual.result c.from_residual.ensures c.in_err-end.ensures

pub returns-clause-none : goal.returns-clause-none
returns-clause-none c =
    let pair : ℕ × ℕ = (c.args.n, c.in_ok-end.end) in
    none_known c.args.self.now.rows c.args.n end_of_mark (λ (m : Mark). (c.args.n, m.end)) pair c.in_ok-end.end c.in_ok-end.ensures

pub returns-clause-span : goal.returns-clause-span
returns-clause-span c = known_of c.args.self.now.rows c.args.n end_of_mark (λ (m : Mark). (c.args.n, m.end)) (λ (e : ℕ). (c.args.n, e)) (λ m. refl)
    c.in_ok-end.end c.in_ok-end.ensures
