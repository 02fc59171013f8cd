use Rattle.std.proofs.Common.{◌∙◌, ◌-◌, ap, ℕ}
use Rattle.std.specs.Prelude.{Option, Some}
use Rattle.dgn_drawing.specs.Nesting.{itself}
use Rattle.dgn_drawing.specs.Numbering.{Mark, is_broken, first_from}
use Rattle.nest_tree.specs.Places.{end_of_mark}
use Rattle.nest_tree.specs.Passing.{if_below}
use Rattle.nest_tree.proofs.LookUps.{none_found, none_past, none_known}
use Rattle.nest_tree.proofs.BrokenList.{broken_before}
use Rattle.nest_tree.proofs.nested.Nest.first_broken.Goals as goal

pub returns-in_err-end-clause-none : goal.returns-in_err-end-clause-none
returns-in_err-end-clause-none c =
    none_past c.args.self.now.rows c.args.n end_of_mark (λ (m : Mark). first_from (is_broken itself c.args.self.now.rows) c.args.n (m.end - c.args.n))
    c.from_residual.result c.from_residual.ensures c.in_err-end.ensures

pub returns-in_err-end-clause-first : goal.returns-in_err-end-clause-first
returns-in_err-end-clause-first c =
    none_found c.args.self.now.rows c.args.n end_of_mark (λ (m : Mark). first_from (is_broken itself c.args.self.now.rows) c.args.n (m.end - c.args.n))
    c.from_residual.result c.from_residual.ensures c.in_err-end.ensures

pub returns-clause-none : goal.returns-clause-none
returns-clause-none c =
    none_known c.args.self.now.rows c.args.n end_of_mark (λ (m : Mark). first_from (is_broken itself c.args.self.now.rows) c.args.n (m.end - c.args.n))
    c.if_below.result c.in_ok-end.end c.in_ok-end.ensures

pub returns-clause-first : goal.returns-clause-first
returns-clause-first c =
    ap (λ (o : Option ℕ). Some o) (c.if_below.ensures ∙ ap (if_below c.in_ok-end.end) c.broken_from.ensures)
    ∙ broken_before c.args.self.now.rows c.args.n c.in_ok-end.end c.in_ok-end.ensures
