-- Where a body ends by its form, as the crates say that read the fields of each; and that the layout of its type says
-- the same.
use Rattle.std.proofs.Common.{◌≡◌, ℕ, List, refl, sym, ap, ◌∙◌, inl, inr, Bool, true, false, arith}
use Rattle.std.proofs.lemmas.Bool.{cases_Bool}
use Rattle.std.specs.Prelude.{◌==◌, if◌then◌else◌}
use Rattle.elem_head.specs.Head.{kind_of}
use Rattle.dgn_layout.specs.declared.types.Class.{Class}
use Rattle.dgn_layout.specs.Classes.{class_of}
use Rattle.dgn_layout.specs.Ends.{end_in as class_end}
use Rattle.dgn_layout.specs.Spots.{Points, layout_end, cell_origin, node_origin}
use Rattle.body_vertex.specs.Points.{points_end}
use Rattle.body_text.specs.Texts.{text_end, node_end}
use Rattle.group_head.specs.Headers.{cell_end}
use Rattle.dgn_drawing.specs.declared.form.Form.{Form}
use Rattle.dgn_drawing.specs.Forms.{form_in, form_of}
use Rattle.dgn_drawing.specs.WellFormed.{IsDimension}
use Rattle.dgn_drawing.specs.Reading.{end_at, form_at}
use Rattle.dgn_drawing.proofs.Places.{in_both, line_end, row_end}

-- the end of a body of a form
unfoldable pub end_in : Form → ℕ → List ℕ → ℕ
end_in Form.Line dim b = points_end dim (kind_of b) b
end_in Form.Points dim b = points_end dim (kind_of b) b
end_in Form.Text dim b = text_end dim b
end_in Form.Node dim b = node_end dim
end_in Form.Cell dim b = cell_end dim
end_in Form.Header dim b = 40
end_in Form.Plain dim b = 36
end_in Form.Silent dim b = 4

-- the headers' ends
abbrev header_place : Bool → Bool → ℕ → Points
header_place s t dim =
    if s then record { count = 1; start = cell_origin dim } else if t then record { count = 1; start = node_origin dim } else record { count = 0; start = 40 }

headers_same : (s t : Bool) {dim : ℕ} (b : List ℕ) → IsDimension dim
    → layout_end dim (header_place s t dim) ≡ end_in (if s then Form.Cell else if t then Form.Node else Form.Header) dim b
unfolding end_in
headers_same true t b axes = in_both (λ (d : ℕ). layout_end d (header_place true t d) ≡ cell_end d) refl refl axes
headers_same false true b axes = in_both (λ (d : ℕ). layout_end d (header_place false true d) ≡ node_end d) refl refl axes
headers_same false false b axes = in_both (λ (d : ℕ). layout_end d (header_place false false d) ≡ 40) refl refl axes

module _ (b : List ℕ) where
  -- the same by the class and the type
  same_in : (c : Class) → {dim : ℕ} → IsDimension dim → class_end c dim (kind_of b) b ≡ end_in (form_in c (kind_of b)) dim b
  unfolding end_in
  same_in Class.Vertices {dim} axes =
      elim (cases_Bool (kind_of b == 3)) [ inl e ↦ rw e (sym (line_end (kind_of b) dim b e)) | inr e ↦ rw e (sym (row_end (kind_of b) dim b e)) ]
  same_in Class.Words axes = in_both (λ (d : ℕ). class_end Class.Words d (kind_of b) b ≡ text_end d b) refl refl axes
  same_in Class.Counted axes = headers_same (kind_of b == 2) (kind_of b == 7) b axes
  same_in Class.Run axes = omega arith
  same_in Class.Floating axes = omega arith
  same_in Class.Boxed axes = omega arith
  same_in Class.Silent axes = omega arith

  -- so the body ends where its form says
  pub end_by_form : {dim : ℕ} → IsDimension dim → end_at dim b ≡ end_in (form_at b) dim b
  unfolding form_of
  end_by_form axes = same_in (class_of (kind_of b)) axes

  -- also where the form is known
  pub end_of_form : {dim : ℕ} → IsDimension dim → (f : Form) → form_at b ≡ f → end_at dim b ≡ end_in f dim b
  end_of_form {dim} axes f is = end_by_form axes ∙ ap (λ (g : Form). end_in g dim b) is
