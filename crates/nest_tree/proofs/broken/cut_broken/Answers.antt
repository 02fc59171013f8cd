use Rattle.std.proofs.Common.{rules, of_calls, ◌∙◌, ap, take, nat_lt, subst, sym}
use Rattle.std.specs.List.Sorted.{IsPartitionedBy}
use Rattle.std.proofs.lemmas.Fn.{always_returns_same}
use Rattle.nest_tree.specs.Passing.{below}
use Rattle.nest_tree.proofs.BrokenNumbers.{cut_at_point}
use Rattle.nest_tree.proofs.broken.cut_broken.Goals as goal

pub returns : goal.returns
returns c =
    let parted : IsPartitionedBy (λ m. nat_lt m c.args.count) c.deref.result.now =
    subst (IsPartitionedBy (λ m. nat_lt m c.args.count)) (sym c.deref.ensures.value) c.requires in
    c.truncate.ensures.items ∙ ap (take c.partition_point-kept.result) (sym c.deref.ensures.value)
    ∙ cut_at_point c.args.count c.partition_point-kept.result c.deref.result.now c.partition_point-kept.ensures.bound
    (c.partition_point-kept.ensures.partitioned (λ m. nat_lt m c.args.count) (always_returns_same _ _ _ (λ a r f k. search (rules, of_calls))) parted)
    ∙ ap (below c.args.count) c.deref.ensures.value
