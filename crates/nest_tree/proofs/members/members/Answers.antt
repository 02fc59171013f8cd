use Rattle.std.proofs.Common.{◌≡◌, ◌∙◌, ◌+◌, ◌*◌, ◌<◌, ◌≤◌, ap, sym, arith, ℕ, length, inl, inr}
use Rattle.std.proofs.lemmas.Bool.{cases_lt}
use Rattle.nest_tree.specs.declared.source.Source.{Source}
use Rattle.nest_tree.specs.Sources.{rows_of, places_of, place_in, IsSource}
use Rattle.nest_tree.proofs.MemberBytes.{members_found, none_found}
use Rattle.nest_tree.proofs.SourceRows.{each_row_of, first_of, places_are, places_strict}
use Rattle.nest_tree.proofs.members.members.Goals as goal

-- a place that is none of those that are below the wanted one, nor the one behind them, isn't the wanted one
never_there : (s : Source) → IsSource s → (first last count wanted : ℕ) → first + count ≤ last → last ≤ length (rows_of s)
    → ((k : ℕ) → k < count → place_in s (first + k) < wanted) → (first + count < last → wanted ≤ place_in s (first + count))
    → (place_in s (first + count) ≡ wanted → ⊥) → (k : ℕ) → first + k ≤ last → place_in s (first + k) ≡ wanted → ⊥
never_there s is first last count wanted within known before from other k inside here =
    elim (cases_lt k count) [
      | inl early ↦ absurd (let low = before k early in omega arith)
      | inr late ↦
          elim (cases_lt count k) [
            | inl past ↦
                absurd (
                let high = from (omega arith) in
                let up = places_strict s is (first + count) (first + k) (omega arith) (omega arith) in
                omega arith
                )
            | inr same ↦
                let e : k ≡ count = omega arith in
                other (ap (λ (n : ℕ). place_in s (first + n)) (sym e) ∙ here)
          ]
    ]

pub returns-then-place-wanted-clause-members : goal.returns-then-place-wanted-clause-members
returns-then-place-wanted-clause-members c =
    let within = c.below-count.ensures.within in
    members_found (rows_of c.args.source.now) c.args.at c.args.end c.requires.between (each_row_of c.args.source.now c.requires.source)
    (first_of c.args.source.now)
    (places_of c.args.source.now) (places_are c.args.source.now c.requires.source)
    c.next_total-total.result (c.place.result + 38 + 2 * c.from.result) c.next_total-total.ensures.total
    (omega (arith, c.place.ensures.place, c.from.ensures)) c.marked_end.result c.marked_end.ensures.marked c.below-count.result
    (omega (arith, c.min-last.ensures)) (omega (arith, c.min-last.ensures)) (sym
    c.place-2.ensures.place ∙ c.if-place-wanted.true)

pub returns-else-place-wanted-clause-members : goal.returns-else-place-wanted-clause-members
returns-else-place-wanted-clause-members c =
    let within = c.below-count.ensures.within in
    let bounds = c.requires.between.bounds in
    let inside = c.marked_end.ensures.within in
    none_found (rows_of c.args.source.now) c.args.at c.args.end c.requires.between (each_row_of c.args.source.now c.requires.source)
    (first_of c.args.source.now)
    (places_of c.args.source.now) (places_are c.args.source.now c.requires.source)
    c.next_total-total.result (c.place.result + 38 + 2 * c.from.result) c.next_total-total.ensures.total
    (omega (arith, c.place.ensures.place, c.from.ensures)) c.marked_end.result c.marked_end.ensures.marked c.marked_end.ensures.behind
    c.marked_end.ensures.free
    (λ k low high here. never_there c.args.source.now c.requires.source (c.args.at + 1) c.min-last.result
    c.below-count.result (c.place.result + 38 + 2 * c.from.result) within (omega (arith, c.min-last.ensures))
    c.below-count.ensures.before c.below-count.ensures.from
    (λ same. c.if-place-wanted.false (c.place-2.ensures.place ∙ same)) k (omega (arith, c.min-last.ensures)) here)
