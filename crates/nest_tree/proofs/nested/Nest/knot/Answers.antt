use Rattle.std.proofs.Common.{refl, ap, ◌∙◌, ◌≡◌}
use Rattle.std.specs.Prelude.{option_map, Option, Some, None}
use Rattle.dgn_drawing.specs.Nesting.{itself}
use Rattle.dgn_drawing.specs.Numbering.{Mark, mark_of}
use Rattle.nest_tree.specs.NestEntries.{NestEntry}
use Rattle.nest_tree.specs.declared.knot.Knot.{Knot}
use Rattle.nest_tree.specs.Shapes.{code_knot}
use Rattle.nest_tree.specs.Places.{entry_of}
use Rattle.nest_tree.proofs.LookUps.{known_of, none_found, none_past, none_known}
use Rattle.nest_tree.proofs.nested.Nest.knot.Goals as goal

twice : (o : Option Mark) → option_map (λ (m : Mark). code_knot m.knot) o ≡ option_map code_knot (option_map (λ (m : Mark). m.knot) o)
twice None = refl
twice (Some m) = refl

pub returns-in_err-entry-clause-none : goal.returns-in_err-entry-clause-none
returns-in_err-entry-clause-none c =
    none_past c.args.self.now.rows c.args.n entry_of (λ (m : Mark). code_knot m.knot)
    c.from_residual.result c.from_residual.ensures c.in_err-entry.ensures.entry

pub returns-in_err-entry-clause-knot : goal.returns-in_err-entry-clause-knot
returns-in_err-entry-clause-knot c =
    none_found c.args.self.now.rows c.args.n entry_of (λ (m : Mark). code_knot m.knot) c.from_residual.result c.from_residual.ensures
    c.in_err-entry.ensures.entry
    ∙ twice (mark_of itself c.args.self.now.rows c.args.n)

pub returns-clause-none : goal.returns-clause-none
returns-clause-none c = none_known c.args.self.now.rows c.args.n entry_of (λ (m : Mark). code_knot m.knot)
    c.in_ok-entry.entry.knot c.in_ok-entry.entry c.in_ok-entry.ensures.entry

pub returns-clause-knot : goal.returns-clause-knot
returns-clause-knot c =
    ap (λ (k : Knot). Some k) c.knot.ensures
    ∙ known_of c.args.self.now.rows c.args.n entry_of (λ (m : Mark). code_knot m.knot) (λ (x : NestEntry). x.knot) (λ m. refl)
    c.in_ok-entry.entry c.in_ok-entry.ensures.entry ∙ twice (mark_of itself c.args.self.now.rows c.args.n)
