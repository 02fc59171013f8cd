-- The shape of the first of the rows between two numbers, by the tests of its type.
use Rattle.std.proofs.Common.{◌≡◌, ℕ, ◌<◌, List, [], ◌∷◌, length, get_or, sym, ap, ◌∙◌, arith, true, false, cond}
use Rattle.std.specs.Prelude.{◌==◌, ◌&&◌}
use Rattle.std.proofs.lemmas.Bool.{cond-true, cond-false}
use Rattle.dgn_layout.specs.Classes.{class_of, is_among}
use Rattle.dgn_drawing.specs.declared.row.Row.{Row}
use Rattle.dgn_drawing.specs.Nesting as nesting
use Rattle.dgn_drawing.specs.Nesting.{is_all, is_parts, is_counted, front_count, is_spline_part, has_bit, leaf, run_over, group_or_loose, shape, itself}
use Rattle.dgn_drawing.specs.Nesting.{member_count}
use Rattle.nest_tree.specs.declared.shape.Scope.{Scope}
use Rattle.nest_tree.specs.Shapes.{IsBetween, rows_between, members_in, defined_scope, shape_in}
use Rattle.nest_tree.proofs.MemberBytes.{rows_behind, between_cons}

module _ (rows : List Row) (at end : ℕ) (between : IsBetween rows at end) (d : Row) where
  within : at < length rows
  within = let some = between.some in let bounds = between.bounds in omega arith

  first : rows_between rows at end ≡ get_or rows at d ∷ rows_behind rows at end
  first = between_cons rows at end d between.some within

  module _ (scope : Scope) where
    here : shape_in scope (rows_between rows at end) ≡ shape itself (defined_scope scope) (get_or rows at d) (rows_behind rows at end)
    here = ap (shape_in scope) first

    module _ (whole : is_parts (defined_scope scope) ≡ false) where
      not_part : shape_in scope (rows_between rows at end)
          ≡ cond (is_counted (class_of (get_or rows at d).kind)) (group_or_loose (member_count itself (get_or rows at d) (rows_behind rows at end)))
          (cond (is_among (get_or rows at d).kind (24 ∷ 27 ∷ [])) (run_over nesting.Parts (front_count is_spline_part (rows_behind rows at end)))
          (cond ((get_or rows at d).kind == 34 && is_all (defined_scope scope)) (run_over nesting.Members (front_count has_bit (rows_behind rows at end)))
          leaf))
      not_part = here ∙ cond-false (is_parts (defined_scope scope)) _ _ whole

      pub counted_shape : is_counted (class_of (get_or rows at d).kind) ≡ true
          → group_or_loose (members_in (rows_between rows at end)) ≡ shape_in scope (rows_between rows at end)
      counted_shape counted = ap (λ (l : List Row). group_or_loose (members_in l)) first
          ∙ sym (not_part ∙ cond-true (is_counted (class_of (get_or rows at d).kind)) _ _ counted)

      module _ (plain : is_counted (class_of (get_or rows at d).kind) ≡ false) where
        pub spline_shape : is_among (get_or rows at d).kind (24 ∷ 27 ∷ []) ≡ true
            → run_over nesting.Parts (front_count is_spline_part (rows_behind rows at end)) ≡ shape_in scope (rows_between rows at end)
        spline_shape spline =
            sym (not_part ∙ cond-false (is_counted (class_of (get_or rows at d).kind)) _ _ plain
            ∙ cond-true (is_among (get_or rows at d).kind (24 ∷ 27 ∷ [])) _ _ spline)

        module _ (straight : is_among (get_or rows at d).kind (24 ∷ 27 ∷ []) ≡ false) where
          rest : shape_in scope (rows_between rows at end)
              ≡ cond ((get_or rows at d).kind == 34 && is_all (defined_scope scope))
              (run_over nesting.Members (front_count has_bit (rows_behind rows at end))) leaf
          rest =
              not_part ∙ cond-false (is_counted (class_of (get_or rows at d).kind)) _ _ plain
              ∙ cond-false (is_among (get_or rows at d).kind (24 ∷ 27 ∷ [])) _ _ straight

          pub shared_shape : ((get_or rows at d).kind == 34 && is_all (defined_scope scope)) ≡ true
              → run_over nesting.Members (front_count has_bit (rows_behind rows at end)) ≡ shape_in scope (rows_between rows at end)
          shared_shape shared = sym (rest ∙ cond-true ((get_or rows at d).kind == 34 && is_all (defined_scope scope)) _ _ shared)

          pub leaf_shape : ((get_or rows at d).kind == 34 && is_all (defined_scope scope)) ≡ false → leaf ≡ shape_in scope (rows_between rows at end)
          leaf_shape own = sym (rest ∙ cond-false ((get_or rows at d).kind == 34 && is_all (defined_scope scope)) _ _ own)
