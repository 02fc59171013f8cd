use Rattle.std.proofs.Common.{◌∙◌, ap, sym, get_or}
use Rattle.nest_tree.specs.declared.source.Source.{Source}
use Rattle.nest_tree.specs.Sources.{no_row, rows_of}
use Rattle.nest_tree.proofs.KeptRows.{cbit_kept}
use Rattle.nest_tree.proofs.SourceRows.{as_kept, kept_inside}
use Rattle.nest_tree.proofs.source.Source.cbit.Goals as goal

pub bounds-kinds-i : goal.bounds-kinds-i
bounds-kinds-i c =
    (kept_inside c.args.self.now c.in-Kept.field-0 c.in-Kept.kinds c.in-Kept.field-2 c.in-Kept.field-3 c.args.i c.in-Kept.is c.requires.source
    c.requires.known).1

pub returns-in-Kept : goal.returns-in-Kept
returns-in-Kept c =
    sym (ap (λ (s : Source). (get_or (rows_of s) c.args.i no_row).cbit) c.in-Kept.is
    ∙ cbit_kept c.in-Kept.field-0.now c.in-Kept.kinds.now c.in-Kept.field-2.now c.in-Kept.field-3 c.args.i
    (as_kept c.args.self.now c.in-Kept.field-0 c.in-Kept.kinds c.in-Kept.field-2 c.in-Kept.field-3 c.in-Kept.is c.requires.source).each
    (kept_inside c.args.self.now c.in-Kept.field-0 c.in-Kept.kinds c.in-Kept.field-2 c.in-Kept.field-3 c.args.i c.in-Kept.is c.requires.source
    c.requires.known).0)
