use Rattle.std.proofs.Common.{refl, ap, ◌∙◌, ℕ}
use Rattle.std.specs.Prelude.{Option, Some}
use Rattle.dgn_drawing.specs.Numbering.{Mark}
use Rattle.nest_tree.specs.NestEntries.{NestEntry}
use Rattle.nest_tree.specs.Places.{entry_of}
use Rattle.nest_tree.proofs.LookUps.{known_of, none_found, none_past, none_known}
use Rattle.nest_tree.proofs.nested.Nest.parent.Goals as goal

pub returns-in_err-entry-clause-none : goal.returns-in_err-entry-clause-none
returns-in_err-entry-clause-none c =
    none_past c.args.self.now.rows c.args.n entry_of (λ (m : Mark). m.parent) c.from_residual.result c.from_residual.ensures c.in_err-entry.ensures.entry

pub returns-in_err-entry-clause-parent : goal.returns-in_err-entry-clause-parent
returns-in_err-entry-clause-parent c =
    none_found c.args.self.now.rows c.args.n entry_of (λ (m : Mark). m.parent) c.from_residual.result c.from_residual.ensures c.in_err-entry.ensures.entry

pub returns-clause-none : goal.returns-clause-none
returns-clause-none c = none_known c.args.self.now.rows c.args.n entry_of (λ (m : Mark). m.parent)
    c.in_ok-entry.entry.parent c.in_ok-entry.entry c.in_ok-entry.ensures.entry

pub returns-clause-parent : goal.returns-clause-parent
returns-clause-parent c =
    ap (λ (o : Option ℕ). Some o) c.parent.ensures
    ∙ known_of c.args.self.now.rows c.args.n entry_of (λ (m : Mark). m.parent) (λ (x : NestEntry). x.parent) (λ m. refl) c.in_ok-entry.entry
    c.in_ok-entry.ensures.entry
