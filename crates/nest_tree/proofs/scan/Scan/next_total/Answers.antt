use Rattle.std.proofs.Common.{◌∙◌, ◌+◌, ap, sym, arith, ℕ}
use Rattle.nest_tree.specs.Sources.{rows_of}
use Rattle.nest_tree.proofs.KeptRows.{counted_one, counted_most}
use Rattle.nest_tree.proofs.SourceRows.{few_rows}
use Rattle.nest_tree.proofs.scan.Scan.next_total.Goals as goal

pub overflow_add-self : goal.overflow_add-self
overflow_add-self c =
    omega (arith, c.requires.scan.counted, counted_most (rows_of c.args.source.now) c.args.at, few_rows c.args.source.now c.requires.source)

pub returns-clause-scan : goal.returns-clause-scan
returns-clause-scan c = record {
  counted = ap (λ (n : ℕ). n + 1) c.requires.scan.counted ∙ sym (counted_one (rows_of c.args.source.now) c.args.at c.requires.known c.requires.counts);
  near = c.requires.scan.near;
  within = c.requires.scan.within;
  marked = λ k from before. c.requires.scan.marked k (omega arith) before;
}
