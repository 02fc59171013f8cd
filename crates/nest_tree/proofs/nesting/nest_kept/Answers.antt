use Rattle.std.proofs.Common.{◌≡◌, ◌∙◌, ◌%◌, ◌++◌, ap, sym, arith, ℕ, List, length, take, drop, get_or, cond, Bool, true, false, refl}
use Rattle.std.proofs.lemmas.List.{get_or-take}
use mir.Val.{bool_byte}
use Rattle.dgn_layout.specs.Classes.{class_of}
use Rattle.dgn_drawing.specs.Nesting.{is_counted}
use Rattle.dgn_drawing.specs.declared.row.Row.{Row}
use Rattle.nest_tree.specs.Kept.{counts, kept_rows}
use Rattle.nest_tree.proofs.KeptRows.{length-kept, kept_behind}
use Rattle.nest_tree.proofs.nesting.nest_kept.Goals as goal

-- one total is the first element's, if that counts its members
one_if : (b : Bool) → bool_byte b ≡ cond b 1 0
one_if true = refl
one_if false = refl

taken : (kinds first : List ℕ) (b : Bool) (n : ℕ) → first ≡ take 1 kinds → b ≡ is_counted (class_of (get_or first 0 0 % 128)) → n ≡ bool_byte b
    → n ≡ cond (counts (get_or kinds 0 0)) 1 0
taken kinds first b n front says is =
    is ∙ one_if b ∙ ap (λ (x : Bool). cond {A = ℕ} x 1 0) says
    ∙ ap (λ (l : List ℕ). cond {A = ℕ} (is_counted (class_of (get_or l 0 0 % 128))) 1 0) front
    ∙ ap (λ (k : ℕ). cond {A = ℕ} (is_counted (class_of (k % 128))) 1 0) (get_or-take 1 kinds 0 0 (omega arith))

pub nest_source-requires-clause-bounded : goal.nest_source-requires-clause-bounded
nest_source-requires-clause-bounded c =
    let few = c.requires.kept.few in
    omega (
      arith,
      ap (length {A = Row}) (c.then-seen.ensures ∙ ap (λ (l : List Row). l ++ kept_rows c.args.places.now c.args.kinds.now
          c.args.totals.now c.args.end) c.new.ensures),
      length-kept c.args.places.now c.args.kinds.now c.args.totals.now c.args.end c.requires.kept.each,
    )

pub nest_source-requires-clause-rows : goal.nest_source-requires-clause-rows
nest_source-requires-clause-rows c =
    let n = taken c.args.kinds.now c.split_at-2.result.0.now c.is_counted.result c.from.result c.split_at-2.ensures.front c.is_counted.ensures c.from.ensures in
    ap (λ (l : List ℕ). kept_rows l c.split_at-2.result.1.now c.split_at-3.result.1.now c.args.end) c.split_at.ensures.back
    ∙ ap (λ (l : List ℕ). kept_rows (drop 1 c.args.places.now) l c.split_at-3.result.1.now c.args.end) c.split_at-2.ensures.back
    ∙ ap (λ (l : List ℕ). kept_rows (drop 1 c.args.places.now) (drop 1 c.args.kinds.now) l c.args.end) c.split_at-3.ensures.back
    ∙ kept_behind c.args.places.now c.args.kinds.now c.args.totals.now c.args.end c.from.result c.requires.kept.each n
    ∙ ap (drop 1)
    (sym (c.then-seen.ensures ∙ ap (λ (l : List Row). l ++ kept_rows c.args.places.now c.args.kinds.now c.args.totals.now c.args.end) c.new.ensures))
