-- The numbers of elements that nest apart.
use Rattle.std.proofs.Common.{◌≡◌, ℕ, ◌+◌, ◌≤◌, ◌<◌, List, ◌++◌, length, take, drop, sym, ap, ◌∙◌, arith}
use Rattle.std.specs.Prelude.{None}
use Rattle.std.proofs.lemmas.List.{take_at, take-append-drop, length-take}
use Rattle.dgn_drawing.specs.declared.row.Row.{Row}
use Rattle.dgn_drawing.specs.Nesting.{Whole, nest, forest, flat, joined, BeginsFree, itself}
use Rattle.dgn_drawing.specs.Numbering.{marks, marks_of}
use Rattle.nest_tree.proofs.NestingSteps.{flat-forest}
use Rattle.nest_tree.proofs.TreesApart.{forest_apart, marks-joined}
use Rattle.nest_tree.proofs.ListStacks.{length-marks}

pub numbered_joined : (rows new : List Row) → forest itself (rows ++ new) ≡ joined (forest itself rows) (nest itself Whole new)
    → marks_of (forest itself (rows ++ new)) ≡ marks_of (forest itself rows) ++ marks (nest itself Whole new) (length rows) 0 None
numbered_joined rows new is =
    let place : 0 + length (flat (forest itself rows)) ≡ length rows = omega (arith, ap (length {A = Row}) (flat-forest itself rows)) in
    ap marks_of is ∙ marks-joined (forest itself rows) (nest itself Whole new) 0 0 None
    ∙ ap (λ (k : ℕ). marks_of (forest itself rows) ++ marks (nest itself Whole new) k 0 None) place

pub numbered_behind : (rows new : List Row) → 0 < length rows → BeginsFree itself new
    → marks_of (forest itself (rows ++ new)) ≡ marks_of (forest itself rows) ++ marks (nest itself Whole new) (length rows) 0 None
numbered_behind rows new some free = numbered_joined rows new (forest_apart itself rows new some free)

pub first_marks : (rows : List Row) (n : ℕ) → 0 < n → n ≤ length rows → BeginsFree itself (drop n rows)
    → marks_of (forest itself (take n rows)) ≡ take n (marks_of (forest itself rows))
first_marks rows n some within free =
    let long : length (take n rows) ≡ n = omega (arith, length-take n rows) in
    let all = numbered_behind (take n rows) (drop n rows) (omega arith) free in
    let count : length (marks_of (forest itself (take n rows))) ≡ n =
    length-marks (forest itself (take n rows)) 0 0 None ∙ ap (length {A = Row}) (flat-forest itself (take n rows)) ∙ long in
    sym (take_at (marks_of (forest itself (take n rows))) (marks (nest itself Whole (drop n rows)) (length (take n rows)) 0 None) n count)
    ∙ ap (take n) (sym all) ∙ ap (λ (l : List Row). take n (marks_of (forest itself l))) (take-append-drop n rows)
