-- How many of the rows between two numbers pass a test from the front on.
use Rattle.std.proofs.Common.{◌≡◌, ℕ, suc, ◌+◌, ◌-◌, ◌≤◌, ◌<◌, List, length, take, drop, get_or, ap, ◌∙◌, arith, Bool, true, false, cond}
use Rattle.std.proofs.lemmas.Bool.{cond-true, cond-false}
use Rattle.dgn_drawing.specs.declared.row.Row.{Row}
use Rattle.dgn_drawing.specs.Nesting.{front_count}
use Rattle.nest_tree.specs.Shapes.{rows_between}
use Rattle.nest_tree.specs.Sources.{no_row}
use Rattle.nest_tree.proofs.MemberBytes.{rows_behind, between_cons}

module _ (test : Row → Bool) (rows : List Row) (i end : ℕ) (some : i < end) (within : i < length rows) where
  first : front_count test (rows_between rows i end)
      ≡ cond (test (get_or rows i no_row)) (suc (front_count test (rows_behind rows i end))) 0
  first = ap (front_count test) (between_cons rows i end no_row some within)

  rest : rows_behind rows i end ≡ rows_between rows (i + 1) end
  rest = let e : end - i - 1 ≡ end - (i + 1) = omega arith in ap (λ (k : ℕ). take k (drop (i + 1) rows)) e

  pub front_more : test (get_or rows i no_row) ≡ true → front_count test (rows_between rows i end) ≡ 1 + front_count test (rows_between rows (i + 1) end)
  front_more passes =
      first ∙ cond-true (test (get_or rows i no_row)) (suc (front_count test (rows_behind rows i end))) 0 passes
      ∙ ap (λ (l : List Row). suc (front_count test l)) rest ∙ omega arith

  pub front_stops : test (get_or rows i no_row) ≡ false → front_count test (rows_between rows i end) ≡ 0
  front_stops fails = first ∙ cond-false (test (get_or rows i no_row)) (suc (front_count test (rows_behind rows i end))) 0 fails

pub front_none : (test : Row → Bool) (rows : List Row) (i end : ℕ) → end ≤ i → front_count test (rows_between rows i end) ≡ 0
front_none test rows i end past =
    let e : end - i ≡ 0 = omega arith in ap (λ (k : ℕ). front_count test (take k (drop i rows))) e
