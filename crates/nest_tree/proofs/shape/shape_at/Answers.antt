use Rattle.std.proofs.Common.{◌≡◌, ℕ, ◌∙◌, ◌+◌, ◌-◌, sym, ap, arith, false, take, drop, get_or, List, [], ◌∷◌}
use Rattle.std.specs.Prelude.{◌==◌, ◌&&◌}
use Rattle.dgn_drawing.specs.declared.row.Row.{Row}
use Rattle.dgn_layout.specs.Classes.{class_of, is_among}
use Rattle.dgn_drawing.specs.Nesting as nesting
use Rattle.dgn_drawing.specs.Nesting.{run_over, group_or_loose, is_counted, is_all, front_count, is_spline_part, has_bit}
use Rattle.nest_tree.specs.Shapes.{code_shape, defined_scope, rows_between, IsBetween}
use Rattle.nest_tree.specs.Sources.{no_row, rows_of, IsScan}
use Rattle.nest_tree.specs.declared.scan.Scan.{Scan}
use Rattle.nest_tree.proofs.MemberBytes.{rows_behind}
use Rattle.nest_tree.proofs.KeptRows.{counted_none}
use Rattle.nest_tree.proofs.ShapeTests as tests
use Rattle.nest_tree.proofs.shape.shape_at.Goals as goal

behind_is : (rows : List Row) (at end : ℕ) → rows_between rows (at + 1) end ≡ rows_behind rows at end
behind_is rows at end = let e : end - (at + 1) ≡ end - at - 1 = omega arith in ap (λ (k : ℕ). take k (drop (at + 1) rows)) e

-- a row that counts nothing leaves what is known scan
scan_stays : (rows : List Row) (at end : ℕ) → IsBetween rows at end → (a : Scan) → IsScan rows at a
    → is_counted (class_of (get_or rows at no_row).kind) ≡ false → IsScan rows (at + 1) a
scan_stays rows at end between a known none =
    let some = between.some in
    let bounds = between.bounds in
    record {
      counted = known.counted ∙ sym (counted_none rows at (omega arith) none);
      near = known.near;
      within = known.within;
      marked = λ k from before. known.marked k (omega arith) before;
    }

pub returns-else-is_parts-clause-shape : goal.returns-else-is_parts-clause-shape
returns-else-is_parts-clause-shape c =
    c.header.ensures ∙ ap (λ o. code_shape (group_or_loose o)) c.members-members.ensures.members
    ∙ ap code_shape
    (tests.counted_shape (rows_of c.args.source.now) c.args.at c.args.end c.requires.between no_row c.args.scope (sym c.is_parts.ensures ∙ c.if-is_parts.false)
    (ap (λ (k : ℕ). is_counted (class_of k)) (sym c.kind-kind.ensures.kind) ∙ sym c.is_counted.ensures ∙ c.if-is_counted.true))

pub returns-then-is_parts-2-clause-scan : goal.returns-then-is_parts-2-clause-scan
returns-then-is_parts-2-clause-scan c =
    scan_stays (rows_of c.args.source.now) c.args.at c.args.end c.requires.between c.args.scan.now c.requires.scan
    (ap (λ (k : ℕ). is_counted (class_of k)) (sym c.kind-kind.ensures.kind) ∙ sym c.is_counted.ensures ∙ c.if-is_counted.false)

pub returns-then-is_spline-clause-shape : goal.returns-then-is_spline-clause-shape
returns-then-is_spline-clause-shape c =
    c.run.ensures
    ∙ ap (λ (n : ℕ). code_shape (run_over nesting.Parts n))
    (c.parts.ensures ∙ ap (front_count is_spline_part) (behind_is (rows_of c.args.source.now) c.args.at c.args.end))
    ∙ ap code_shape
    (tests.spline_shape (rows_of c.args.source.now) c.args.at c.args.end c.requires.between no_row c.args.scope (sym
    c.is_parts-else-is_counted.ensures ∙ c.if-is_parts-2.false)
    (ap (λ (k : ℕ). is_counted (class_of k)) (sym c.kind-kind.ensures.kind) ∙ sym c.is_counted.ensures ∙ c.if-is_counted.false)
    (ap (λ (k : ℕ). is_among k (24 ∷ 27 ∷ [])) (sym c.kind-kind.ensures.kind) ∙ sym c.is_spline.ensures ∙ c.if-is_spline.true))

pub returns-then-is_spline-clause-scan : goal.returns-then-is_spline-clause-scan
returns-then-is_spline-clause-scan c =
    scan_stays (rows_of c.args.source.now) c.args.at c.args.end c.requires.between c.args.scan.now c.requires.scan
    (ap (λ (k : ℕ). is_counted (class_of k)) (sym c.kind-kind.ensures.kind) ∙ sym c.is_counted.ensures ∙ c.if-is_counted.false)

pub returns-then-is_shared-clause-shape : goal.returns-then-is_shared-clause-shape
returns-then-is_shared-clause-shape c =
    c.run-then-is_shared.ensures
    ∙ ap (λ (n : ℕ). code_shape (run_over nesting.Members n))
    (c.parts-then-is_shared.ensures ∙ ap (front_count has_bit) (behind_is (rows_of c.args.source.now) c.args.at c.args.end))
    ∙ ap code_shape
    (tests.shared_shape (rows_of c.args.source.now) c.args.at c.args.end c.requires.between no_row c.args.scope (sym
    c.is_parts-else-is_counted.ensures ∙ c.if-is_parts-2.false)
    (ap (λ (k : ℕ). is_counted (class_of k)) (sym c.kind-kind.ensures.kind) ∙ sym c.is_counted.ensures ∙ c.if-is_counted.false)
    (ap (λ (k : ℕ). is_among k (24 ∷ 27 ∷ [])) (sym c.kind-kind.ensures.kind) ∙ sym c.is_spline.ensures ∙ c.if-is_spline.false)
    (ap (λ (k : ℕ). k == 34 && is_all (defined_scope c.args.scope)) (sym c.kind-kind.ensures.kind) ∙ sym c.is_shared.ensures ∙ c.if-is_shared.true))

pub returns-then-is_shared-clause-scan : goal.returns-then-is_shared-clause-scan
returns-then-is_shared-clause-scan c =
    scan_stays (rows_of c.args.source.now) c.args.at c.args.end c.requires.between c.args.scan.now c.requires.scan
    (ap (λ (k : ℕ). is_counted (class_of k)) (sym c.kind-kind.ensures.kind) ∙ sym c.is_counted.ensures ∙ c.if-is_counted.false)

pub returns-else-is_shared-clause-shape : goal.returns-else-is_shared-clause-shape
returns-else-is_shared-clause-shape c =
    ap code_shape
    (tests.leaf_shape (rows_of c.args.source.now) c.args.at c.args.end c.requires.between no_row c.args.scope (sym
    c.is_parts-else-is_counted.ensures ∙ c.if-is_parts-2.false)
    (ap (λ (k : ℕ). is_counted (class_of k)) (sym c.kind-kind.ensures.kind) ∙ sym c.is_counted.ensures ∙ c.if-is_counted.false)
    (ap (λ (k : ℕ). is_among k (24 ∷ 27 ∷ [])) (sym c.kind-kind.ensures.kind) ∙ sym c.is_spline.ensures ∙ c.if-is_spline.false)
    (ap (λ (k : ℕ). k == 34 && is_all (defined_scope c.args.scope)) (sym c.kind-kind.ensures.kind) ∙ sym c.is_shared.ensures ∙ c.if-is_shared.false))

pub returns-else-is_shared-clause-scan : goal.returns-else-is_shared-clause-scan
returns-else-is_shared-clause-scan c =
    scan_stays (rows_of c.args.source.now) c.args.at c.args.end c.requires.between c.args.scan.now c.requires.scan
    (ap (λ (k : ℕ). is_counted (class_of k)) (sym c.kind-kind.ensures.kind) ∙ sym c.is_counted.ensures ∙ c.if-is_counted.false)
