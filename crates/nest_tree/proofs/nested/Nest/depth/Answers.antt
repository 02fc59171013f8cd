use Rattle.std.proofs.Common.{refl, ap, sym, subst, ◌∙◌, ◌≤◌, ℕ}
use Rattle.std.specs.Prelude.{Some}
use Rattle.dgn_drawing.specs.Numbering.{Mark}
use Rattle.nest_tree.specs.NestEntries.{NestEntry}
use Rattle.nest_tree.specs.Places.{entry_of}
use Rattle.nest_tree.proofs.LookUps.{low_depth, known_of, none_found, none_past, none_known}
use Rattle.nest_tree.proofs.nested.Nest.depth.Goals as goal

pub returns-in_err-entry-clause-none : goal.returns-in_err-entry-clause-none
returns-in_err-entry-clause-none c =
    none_past c.args.self.now.rows c.args.n entry_of (λ (m : Mark). m.depth) c.from_residual.result c.from_residual.ensures c.in_err-entry.ensures.entry

pub returns-in_err-entry-clause-depth : goal.returns-in_err-entry-clause-depth
returns-in_err-entry-clause-depth c =
    none_found c.args.self.now.rows c.args.n entry_of (λ (m : Mark). m.depth) c.from_residual.result c.from_residual.ensures c.in_err-entry.ensures.entry

pub returns-clause-none : goal.returns-clause-none
returns-clause-none c = none_known c.args.self.now.rows c.args.n entry_of (λ (m : Mark). m.depth)
    c.in_ok-entry.entry.depth c.in_ok-entry.entry c.in_ok-entry.ensures.entry

pub returns-clause-depth : goal.returns-clause-depth
returns-clause-depth c =
    ap (λ (n : ℕ). Some n) c.depth.ensures
    ∙ known_of c.args.self.now.rows c.args.n entry_of (λ (m : Mark). m.depth) (λ (x : NestEntry). x.depth) (λ m. refl) c.in_ok-entry.entry
    c.in_ok-entry.ensures.entry

pub returns-clause-low : goal.returns-clause-low
returns-clause-low c = λ sized. subst (λ (n : ℕ). n ≤ 3278) (sym c.depth.ensures)
    (low_depth c.args.self.now.rows c.args.n sized c.in_ok-entry.ensures.words c.in_ok-entry.entry c.in_ok-entry.ensures.entry)
