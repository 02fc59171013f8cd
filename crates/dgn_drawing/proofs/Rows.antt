-- The row of an element's spelling is the element's row.
use Rattle.std.proofs.Common.{◌≡◌, ℕ, List, refl, ap, ◌∙◌, Bool, true, false, cond}
use Rattle.std.specs.Prelude.{◌==◌}
use Rattle.elem_head.specs.Head.{kind_of, has_bit_c}
use Rattle.dgn_layout.specs.declared.types.Class.{Class}
use Rattle.dgn_layout.specs.Classes.{class_of}
use Rattle.group_head.specs.Headers.{total_at}
use Rattle.dgn_drawing.specs.declared.form.Form.{Form}
use Rattle.dgn_drawing.specs.declared.row.Row.{Row}
use Rattle.dgn_drawing.specs.Forms.{form_in, form_of}
use Rattle.dgn_drawing.specs.Element.{Line, Points, Text, Node, Cell, Header, Plain, Body, Silent, Shown, Element, form_of_body}
use Rattle.dgn_drawing.specs.Spelling.{spell, size_of}
use Rattle.dgn_drawing.specs.WellFormed.{IsDimension, IsWellFormed}
use Rattle.dgn_drawing.specs.Reading.{form_at, element_at}
use Rattle.dgn_drawing.specs.Laws.{BodySits, IsRecordRead}
use Rattle.dgn_drawing.specs.Rows.{total_in, row_at, total_of, row_of}
use Rattle.dgn_drawing.proofs.BodyEnds.{counted_form, counted_in}
use Rattle.dgn_drawing.proofs.RecordsRead.{kind-spell, form-spell, element_at-spell, end_at-spell, not_short, rule_kept}
use Rattle.dgn_drawing.proofs.FieldPlaces.{whole-spell, all-sits}

abbrev row_with : ℕ → ℕ → Bool → ℕ → Row
row_with size kind cbit total = record { size = size; kind = kind; cbit = cbit; total = total }

row_same : (size : ℕ) {k l : ℕ} {c d : Bool} {t u : ℕ} → k ≡ l → c ≡ d → t ≡ u → row_with size k c t ≡ row_with size l d u
row_same size kind cbit total = cc

module _ (kind : ℕ) (b : List ℕ) where
  uncounted : (c : Class) → counted_form (form_in c kind) ≡ false → total_in c b ≡ 0
  uncounted Class.Vertices e = refl
  uncounted Class.Words e = refl
  uncounted Class.Counted e = let t = counted_in kind in cc
  uncounted Class.Run e = refl
  uncounted Class.Floating e = refl
  uncounted Class.Boxed e = refl
  uncounted Class.Silent e = refl

  counted : (c : Class) → counted_form (form_in c kind) ≡ true → total_in c b ≡ total_at b
  counted Class.Vertices e = none (kind == 3) e
    where
      none : (t : Bool) → counted_form (cond t Form.Line Form.Points) ≡ true → 0 ≡ total_at b
      none true e = cc
      none false e = cc
  counted Class.Words e = cc
  counted Class.Counted e = refl
  counted Class.Run e = cc
  counted Class.Floating e = cc
  counted Class.Boxed e = cc
  counted Class.Silent e = cc

  total_none : (f : Form) → form_of kind ≡ f → counted_form f ≡ false → total_in (class_of kind) b ≡ 0
  unfolding form_of
  total_none f is none = uncounted (class_of kind) (ap counted_form is ∙ none)

  total_some : (f : Form) → form_of kind ≡ f → counted_form f ≡ true → total_in (class_of kind) b ≡ total_at b
  unfolding form_of
  total_some f is some = counted (class_of kind) (ap counted_form is ∙ some)

module _ (dim : ℕ) (e : Element) (axes : IsDimension dim) (good : IsWellFormed dim e) where
  total_is : (body : Body) → form_at (spell e) ≡ form_of_body body → BodySits dim e body → total_in (class_of (kind_of (spell e))) (spell e) ≡ total_of body
  total_is (Silent rest) is sits = total_none (kind_of (spell e)) (spell e) Form.Silent is refl
  total_is (Shown d (Line points) rest) is sits = total_none (kind_of (spell e)) (spell e) Form.Line is refl
  total_is (Shown d (Points points) rest) is sits = total_none (kind_of (spell e)) (spell e) Form.Points is refl
  total_is (Shown d (Text run origin spare chars) rest) is sits = total_none (kind_of (spell e)) (spell e) Form.Text is refl
  total_is (Shown d Plain rest) is sits = total_none (kind_of (spell e)) (spell e) Form.Plain is refl
  total_is (Shown d (Node total run origin) rest) is sits = total_some (kind_of (spell e)) (spell e) Form.Node is refl ∙ sits.1.total_is
  total_is (Shown d (Cell total name run origin) rest) is sits = total_some (kind_of (spell e)) (spell e) Form.Cell is refl ∙ sits.1.total_is
  total_is (Shown d (Header total number) rest) is sits = total_some (kind_of (spell e)) (spell e) Form.Header is refl ∙ sits.1.0

  pub row_at-spell : row_at (spell e) ≡ row_of e
  unfolding element_at
  row_at-spell =
      let kind : kind_of (spell e) ≡ e.kind = kind-spell dim e axes good in
      let cbit : has_bit_c (spell e) ≡ e.cbit = ap (λ (x : Element). x.cbit) (element_at-spell dim e axes good) in
      let total = total_is e.body (form-spell dim e axes good) (all-sits dim e axes good).1 in
      row_same (size_of e) kind cbit total

  -- all that is read from a record's spelling
  pub record-read : IsRecordRead dim e
  record-read = record {
    whole = whole-spell dim e axes good;
    long = not_short dim e axes good;
    rule = rule_kept dim e axes good;
    ends = end_at-spell dim e axes good;
    element = element_at-spell dim e axes good;
    row = row_at-spell;
  }
