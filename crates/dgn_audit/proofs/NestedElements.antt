-- An element among the trees of a design, by what is asked of it; and what reading it makes of what was read behind it.
use Rattle.std.proofs.Common.{◌≡◌, ℕ, suc, ◌+◌, ◌-◌, ◌≤◌, List, ◌++◌, length, Option, Some, None, true, false, refl, sym, ap, ◌∙◌}
use Rattle.std.proofs.Common.{subst, arith}
use Rattle.std.specs.Prelude.{slice_get}
use Rattle.std.proofs.lemmas.Bool.{cond-true, cond-false}
use Rattle.range_code.specs.declared.Box3.{Box3}
use Rattle.dgn_layout.specs.Classes.{class_of, is_silent}
use Rattle.dgn_layout.specs.Spots.{HoldsPoints}
use Rattle.dgn_drawing.specs.Element.{Element}
use Rattle.dgn_drawing.specs.Spelling.{spell}
use Rattle.dgn_drawing.specs.WellFormed.{IsDimension}
use Rattle.dgn_drawing.specs.Rows.{row_of}
use Rattle.dgn_drawing.specs.Numbering.{Mark, mark_of}
use Rattle.elem_index.specs.declared.design.Design.{Design}
use Rattle.elem_index.specs.Design.{elements, IsWhole}
use Rattle.nest_tree.specs.declared.knot.Knot as code
use Rattle.nest_tree.specs.Shapes.{code_knot}
use Rattle.elem_index.proofs.Places.{axes_of}
use Rattle.dgn_audit.specs.declared.nested_element.NestedElement.{NestedElement}
use Rattle.dgn_audit.specs.declared.reported.Reported.{Reported}
use Rattle.dgn_audit.specs.declared.finding.Finding.{Finding}
use Rattle.dgn_audit.specs.declared.open_box.OpenBox.{OpenBox}
use Rattle.dgn_audit.specs.Hulls.{is_vertices, hull_in, tree_hull}
use Rattle.dgn_audit.specs.Findings.{finding_as}
use Rattle.dgn_audit.specs.Reading.{hull_read, finding_read}
use Rattle.dgn_audit.specs.NestedElements.{IsNestedElement}
use Rattle.dgn_audit.specs.OpenBoxes.{box_for, without, with_hulls, past}
use Rattle.dgn_audit.proofs.ReadBack.{Pass, read_one, read_marked, read_back}
use Rattle.dgn_audit.proofs.ElementHulls.{hull_said, hull_loud, loud_findings, loud_long, row_holds}

-- the elements of a part lie between its root's number and its end
module _ (d : Design) (whole : IsWhole d) (n : ℕ) (s : NestedElement) (is : IsNestedElement d n s) where
  axes : IsDimension d.dim
  axes = axes_of d whole

  -- of a loud one the display header is there, and of a row its points
  pub nested_long : is_silent (class_of s.view.kind) ≡ false → 36 ≤ length s.view.bytes.now
  nested_long loud =
      let said : is_silent (class_of is.view.element.kind) ≡ false = ap (λ (k : ℕ). is_silent (class_of k)) (sym is.view.kind) ∙ loud in
      subst (λ (b : List ℕ). 36 ≤ length b) (sym is.view.bytes) (loud_long d.dim axes is.view.element is.view.good said)

  pub nested_holds : is_vertices (class_of s.view.kind) ≡ true → HoldsPoints d.dim s.view.kind s.view.bytes.now (length s.view.bytes.now)
  nested_holds row =
      let said : is_vertices (class_of is.view.element.kind) ≡ true = ap (λ (k : ℕ). is_vertices (class_of k)) (sym is.view.kind) ∙ row in
      subst (λ (b : List ℕ). HoldsPoints d.dim s.view.kind b (length b)) (sym is.view.bytes)
      (subst (λ (k : ℕ). HoldsPoints d.dim k (spell is.view.element) (length (spell is.view.element))) (sym is.view.kind)
      (row_holds d.dim axes is.view.element is.view.good said))

  -- the hull that is read is that of its tree
  hull_is : (members : Option Box3) → hull_read d.dim s.knot s.view.kind s.view.bytes.now members
      ≡ hull_in d.dim is.mark.knot is.view.element.kind is.view.element.body members
  hull_is members =
      ap (λ (k : code.Knot). hull_read d.dim k s.view.kind s.view.bytes.now members) is.knot
      ∙ ap (λ (k : ℕ). hull_read d.dim (code_knot is.mark.knot) k s.view.bytes.now members) is.view.kind
      ∙ ap (λ (b : List ℕ). hull_read d.dim (code_knot is.mark.knot) is.view.element.kind b members) is.view.bytes
      ∙ hull_said d.dim axes is.view.element is.view.good is.mark.knot members

  module _ (hull : Box3) (members : Option Box3) (some : Some hull ≡ hull_read d.dim s.knot s.view.kind s.view.bytes.now members) where
    -- an element of which a hull is read has its display header
    loud : is_silent (class_of s.view.kind) ≡ false
    loud = hull_loud d.dim is.mark.knot s.view.kind s.view.bytes.now members hull (some
        ∙ ap (λ (k : code.Knot). hull_read d.dim k s.view.kind s.view.bytes.now members) is.knot)

    pub hull_long : 36 ≤ length s.view.bytes.now
    hull_long = nested_long loud

    finding_is : (keep : Reported) → finding_read keep d.dim s.knot n s.view.kind s.view.bytes.now hull
        ≡ finding_as keep d.dim is.mark.knot n is.view.element (Some hull)
    finding_is keep =
        ap (λ (k : code.Knot). finding_read keep d.dim k n s.view.kind s.view.bytes.now hull) is.knot
        ∙ ap (λ (k : ℕ). finding_read keep d.dim (code_knot is.mark.knot) n k s.view.bytes.now hull) is.view.kind
        ∙ ap (λ (b : List ℕ). finding_read keep d.dim (code_knot is.mark.knot) n is.view.element.kind b hull) is.view.bytes
        ∙ loud_findings d.dim axes is.view.element is.view.good (ap (λ (k : ℕ). is_silent (class_of k)) (sym is.view.kind) ∙ loud) keep is.mark.knot n hull

  module _ (keep : Reported) (os : List OpenBox) (fs : List Finding) where
    -- what was read behind it
    abbrev before : Pass
    before = record { open_boxes = os; noted = fs }

    marked_is : read_one keep d.dim n is.mark is.view.element (record { open_boxes = os; noted = fs })
        ≡ read_marked keep d.dim n (mark_of row_of (elements d) n) (slice_get (elements d) n) (record { open_boxes = os; noted = fs })
    marked_is =
        ap (λ (o : Option Element). read_marked keep d.dim n (Some is.mark) o before) (sym is.view.there)
        ∙ ap (λ (o : Option Mark). read_marked keep d.dim n o (slice_get (elements d) n) before) (sym is.marked)

    abbrev made : Option Box3 → List Finding → Pass
    made hull noted = record { open_boxes = with_hulls is.mark.parent hull (without n os); noted = noted }

    no_hull : (parent : Option ℕ) (boxes : List OpenBox) → with_hulls parent None boxes ≡ boxes
    no_hull None boxes = refl
    no_hull (Some p) boxes = refl

    -- a dead one takes what is told of the elements below it away
    pub dead_read : s.view.deleted ≡ true → record { open_boxes = without n os; noted = past s.end fs }
        ≡ read_marked keep d.dim n (mark_of row_of (elements d) n) (slice_get (elements d) n) (record { open_boxes = os; noted = fs })
    dead_read dead =
        let died : is.view.element.deleted ≡ true = sym is.view.deleted ∙ dead in
        ap (λ (k : ℕ). record { open_boxes = without n os; noted = past k fs }) is.end
        ∙ ap (λ (b : List OpenBox). record { open_boxes = b; noted = past is.mark.end fs }) (sym (no_hull is.mark.parent (without n os)))
        ∙ ap (λ (h : Option Box3). made h (past is.mark.end fs))
        (sym (cond-true is.view.element.deleted None (hull_in d.dim is.mark.knot is.view.element.kind is.view.element.body (box_for n os)) died))
        ∙ ap (made (tree_hull d.dim is.mark.knot is.view.element (box_for n os)))
        (sym (cond-true is.view.element.deleted (past is.mark.end fs)
        (finding_as keep d.dim is.mark.knot n is.view.element (tree_hull d.dim is.mark.knot is.view.element (box_for n os)) ++ fs) died))
        ∙ marked_is

    module _ (lives : s.view.deleted ≡ false) where
      alive : is.view.element.deleted ≡ false
      alive = sym is.view.deleted ∙ lives

      tree_is : tree_hull d.dim is.mark.knot is.view.element (box_for n os) ≡ hull_read d.dim s.knot s.view.kind s.view.bytes.now (box_for n os)
      tree_is = cond-false is.view.element.deleted None (hull_in d.dim is.mark.knot is.view.element.kind is.view.element.body (box_for n os)) alive
          ∙ sym (hull_is (box_for n os))

      live_is : (hull : Option Box3) → hull ≡ hull_read d.dim s.knot s.view.kind s.view.bytes.now (box_for n os)
          → made hull (finding_as keep d.dim is.mark.knot n is.view.element hull ++ fs)
          ≡ read_marked keep d.dim n (mark_of row_of (elements d) n) (slice_get (elements d) n) (record { open_boxes = os; noted = fs })
      live_is hull read =
          ap (λ (h : Option Box3). made h (finding_as keep d.dim is.mark.knot n is.view.element h ++ fs)) (read ∙ sym tree_is)
          ∙ ap (made (tree_hull d.dim is.mark.knot is.view.element (box_for n os)))
          (sym (cond-false is.view.element.deleted (past is.mark.end fs)
          (finding_as keep d.dim is.mark.knot n is.view.element (tree_hull d.dim is.mark.knot is.view.element (box_for n os)) ++ fs) alive))
          ∙ marked_is

      -- one without a hull leaves all
      pub bare_read : None ≡ hull_read d.dim s.knot s.view.kind s.view.bytes.now (box_for n os)
          → record { open_boxes = without n os; noted = fs }
          ≡ read_marked keep d.dim n (mark_of row_of (elements d) n) (slice_get (elements d) n) (record { open_boxes = os; noted = fs })
      bare_read none =
          ap (λ (b : List OpenBox). record { open_boxes = b; noted = fs }) (sym (no_hull is.mark.parent (without n os))) ∙ live_is None none

      -- one with a hull adds it to its header's box, and is told of
      pub hull_is_read : (hull : Box3) (boxes : List OpenBox) (noted : List Finding) → Some hull
          ≡ hull_read d.dim s.knot s.view.kind s.view.bytes.now (box_for n os)
          → boxes ≡ with_hulls s.parent (Some hull) (without n os) → noted ≡ finding_read keep d.dim s.knot n s.view.kind s.view.bytes.now hull ++ fs
          → record { open_boxes = boxes; noted = noted }
          ≡ read_marked keep d.dim n (mark_of row_of (elements d) n) (slice_get (elements d) n) (record { open_boxes = os; noted = fs })
      hull_is_read hull boxes noted some held are =
          ap (λ (b : List OpenBox). record { open_boxes = b; noted = noted }) (held ∙ ap (λ (p : Option ℕ). with_hulls p (Some hull) (without n os)) is.parent)
          ∙ ap (made (Some hull)) (are ∙ ap (λ (l : List Finding). l ++ fs) (finding_is hull (box_for n os) some keep))
          ∙ live_is (Some hull) some

-- the hull that is read with the box of the members
pub hull_from : (dim : ℕ) (s : NestedElement) (n : ℕ) (members hull : Option Box3) (os : List OpenBox)
    → hull ≡ hull_read dim s.knot s.view.kind s.view.bytes.now members → members ≡ box_for n os → hull
    ≡ hull_read dim s.knot s.view.kind s.view.bytes.now (box_for n os)
hull_from dim s n members hull os is held = is ∙ ap (hull_read dim s.knot s.view.kind s.view.bytes.now) held

-- the step from what was read behind an element
pub back_step : (keep : Reported) (dim : ℕ) (es : List Element) (n next end : ℕ) (pass made : Pass) → next ≡ n + 1 → next ≤ end
    → pass ≡ read_back keep dim es next (end - next)
    → made ≡ read_marked keep dim n (mark_of row_of es n) (slice_get es n) pass → made ≡ read_back keep dim es n (end - n)
back_step keep dim es n next end pass made follows within so_far read =
    let one : end - n ≡ suc (end - next) = omega arith in
    read
    ∙ ap (read_marked keep dim n (mark_of row_of es n) (slice_get es n)) (so_far ∙ ap (λ (k : ℕ). read_back keep dim es k (end - next)) follows)
    ∙ ap (read_back keep dim es n) (sym one)
