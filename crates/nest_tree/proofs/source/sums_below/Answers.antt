use Rattle.std.proofs.Common.{rules, of_calls, ◌∙◌, ◌-◌, ap, take, arith}
use Rattle.std.specs.Prelude.{nat_lt}
use Rattle.std.proofs.lemmas.Fn.{always_returns_same}
use Rattle.nest_tree.proofs.RowPlaces.{window_parted, window_before, window_from}
use Rattle.nest_tree.proofs.source.sums_below.Goals as goal

pub returns-clause-before : goal.returns-clause-before
returns-clause-before c =
    let list = c.split_at-2.ensures.front ∙ ap (take (c.args.last - c.args.first)) c.split_at.ensures.back in
    let halves = c.partition_point.ensures.partitioned (λ m. nat_lt m c.args.wanted)
    (always_returns_same _ _ _ (λ a r f k. search (rules, of_calls)))
    (window_parted c.args.sums.now c.args.first c.args.last c.args.wanted c.requires.rise c.requires.known c.split_at-2.result.0.now list) in
    window_before c.args.sums.now c.args.first c.args.last c.args.wanted c.requires.known c.split_at-2.result.0.now list c.partition_point.result
    c.partition_point.ensures.bound (λ k early. halves.0 k 0 (omega arith) early)

pub returns-clause-from : goal.returns-clause-from
returns-clause-from c =
    let list = c.split_at-2.ensures.front ∙ ap (take (c.args.last - c.args.first)) c.split_at.ensures.back in
    let halves = c.partition_point.ensures.partitioned (λ m. nat_lt m c.args.wanted)
    (always_returns_same _ _ _ (λ a r f k. search (rules, of_calls)))
    (window_parted c.args.sums.now c.args.first c.args.last c.args.wanted c.requires.rise c.requires.known c.split_at-2.result.0.now list) in
    window_from c.args.sums.now c.args.first c.args.last c.args.wanted c.requires.known c.split_at-2.result.0.now list c.partition_point.result
    (λ k late inside. halves.1 k 0 late inside)
