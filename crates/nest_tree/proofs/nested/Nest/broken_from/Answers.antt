use Rattle.std.proofs.Common.{rules, of_calls, ◌≡◌, ◌∙◌, sym, ap, ℕ, List, slice_get, nat_lt}
use Rattle.std.proofs.lemmas.Fn.{always_returns_same}
use Rattle.nest_tree.specs.Nested.{Nested}
use Rattle.nest_tree.specs.Passing.{broken_in, first_at}
use Rattle.nest_tree.proofs.BrokenList.{found_at_point}
use Rattle.nest_tree.proofs.nested.Nest.broken_from.Goals as goal

pub returns : goal.returns
returns c =
    let kept : c.deref.result.now ≡ broken_in c.self.inside.seen.list = c.deref.ensures.value ∙ c.self.invariant.are_broken in
    let same : c.deref-2.result.now ≡ c.deref.result.now = c.deref-2.ensures.value ∙ sym c.deref.ensures.value in
    c.item_at.ensures ∙ ap (λ (l : List ℕ). slice_get l c.partition_point-below.result) same
    ∙ found_at_point c.self.inside.seen.list c.args.n c.partition_point-below.result c.deref.result.now kept
    (c.partition_point-below.ensures.partitioned (λ m. nat_lt m c.args.n) (always_returns_same _ _ _ (λ a r f k. search (rules, of_calls))))
    ∙ ap (λ (t : Nested). first_at c.args.n (broken_in t.rows)) c.self.view_is
