use Rattle.std.proofs.Common.{◌≡◌, ◌∙◌, ◌<◌, ◌%◌, ℕ, ap, sym, take, true, length, get_or, arith}
use Rattle.dgn_layout.specs.Classes.{class_of}
use Rattle.dgn_drawing.specs.Nesting.{is_counted}
use Rattle.nest_tree.specs.declared.source.Source.{Source}
use Rattle.nest_tree.specs.Kept.{counts, counted_in}
use Rattle.nest_tree.specs.Sources.{no_row, rows_of}
use Rattle.nest_tree.proofs.KeptRows.{kind_kept, total_kept, few_counted, counted_most}
use Rattle.nest_tree.proofs.SourceRows.{as_kept, few_rows, kept_length}
use Rattle.nest_tree.proofs.source.Source.total.Goals as goal

pub offset_bounds-totals-counted : goal.offset_bounds-totals-counted
offset_bounds-totals-counted c =
    omega (arith, few_rows c.args.self.now c.requires.source, c.requires.before, counted_most (rows_of c.args.self.now) c.args.i)

pub bounds-totals-counted : goal.bounds-totals-counted
bounds-totals-counted c =
    let kept = as_kept c.args.self.now c.in-Kept.field-0 c.in-Kept.field-1 c.in-Kept.totals c.in-Kept.field-3 c.in-Kept.is c.requires.source in
    let many = ap (λ (s : Source). counted_in (rows_of s)) c.in-Kept.is in
    let inside : c.args.counted < length c.in-Kept.totals.now =
    omega (arith, kept.counted, many, c.requires.before, few_counted (rows_of c.args.self.now) c.args.i c.requires.known c.requires.counts) in
    inside

pub returns-in-Kept : goal.returns-in-Kept
returns-in-Kept c =
    let known = c.requires.known in
    let places = c.in-Kept.field-0.now in
    let kinds = c.in-Kept.field-1.now in
    let totals = c.in-Kept.totals.now in
    let end = c.in-Kept.field-3 in
    let long = kept_length c.args.self.now c.in-Kept.field-0 c.in-Kept.field-1 c.in-Kept.totals c.in-Kept.field-3 c.in-Kept.is c.requires.source in
    let each = (as_kept c.args.self.now c.in-Kept.field-0 c.in-Kept.field-1 c.in-Kept.totals c.in-Kept.field-3 c.in-Kept.is c.requires.source).each in
    let inside : c.args.i < length places = omega arith in
    let kind : (get_or (rows_of c.args.self.now) c.args.i no_row).kind ≡ get_or kinds c.args.i 0 % 128 =
    ap (λ (s : Source). (get_or (rows_of s) c.args.i no_row).kind) c.in-Kept.is ∙ kind_kept places kinds totals end c.args.i each inside in
    let count : counts (get_or kinds c.args.i 0) ≡ true = sym (ap (λ (k : ℕ). is_counted (class_of k)) kind) ∙ c.requires.counts in
    ap (λ (n : ℕ). get_or totals n 0) (c.requires.before ∙ ap (λ (s : Source). counted_in (take c.args.i (rows_of s))) c.in-Kept.is)
    ∙ sym (ap (λ (s : Source). (get_or (rows_of s) c.args.i no_row).total) c.in-Kept.is ∙ total_kept places kinds totals end c.args.i each inside count)
