use Rattle.std.proofs.Common.{◌≡◌, ◌∙◌, ℕ, ap, sym, refl, arith, get_or, Bool, true, false, inl, inr}
use Rattle.std.proofs.lemmas.Bool.{cases_lt, both_ways}
use mathlib.Core.Bool.{beq, not}
use Rattle.dgn_layout.specs.Classes.{class_of}
use Rattle.dgn_drawing.specs.Nesting.{is_header}
use Rattle.nest_tree.specs.Sources.{no_row, rows_of}
use Rattle.nest_tree.proofs.leaves.leaf_run.Goals as goal
use Rattle.nest_tree.proofs.leaves.leaf_run.Goals.{then-roots, else-roots}

same_bit : (a b differ : Bool) → differ ≡ not (beq a b) → differ ≡ false → a ≡ b
same_bit true true differ is none = refl
same_bit true false differ is none = absurd (both_ways differ none is)
same_bit false true differ is none = absurd (both_ways differ none is)
same_bit false false differ is none = refl

pub leaves-preserved : goal.leaves-preserved
leaves-preserved c =
    let from = c.leaves.invariant.0 in
    let test = c.leaves-test.true in
    let known = c.requires.known in (
      omega arith,
      omega arith,
      λ k low high. elim (cases_lt k c.leaves.i) [
        | inl before ↦ c.leaves.invariant.2 k low before
        | inr here ↦
            let same : c.leaves.i ≡ k = omega arith in (
              ap (λ (n : ℕ). is_header (class_of (get_or (rows_of c.args.source.now) n no_row).kind)) (sym same)
                  ∙ ap (λ (n : ℕ). is_header (class_of n)) (sym c.kind.ensures.kind) ∙ sym c.is_header.ensures ∙ c.if-not-is_header.true,
              λ roots. ap (λ (n : ℕ). (get_or (rows_of c.args.source.now) n no_row).cbit) (sym same)
                  ∙ elim c.if-roots.branch [
                    | then-roots w ↦ sym w.cbit.ensures ∙ same_bit w.cbit.result c.args.orphans c.if-roots.value w.value-is c.if-not-cbit-orphans.true
                    | else-roots w ↦ absurd (both_ways c.args.roots w.if-roots.false roots)
                  ],
            )
      ],
    )
