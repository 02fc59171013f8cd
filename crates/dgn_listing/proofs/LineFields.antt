-- What a line says of an element is what its bytes and its mark say.
use Rattle.std.proofs.Common.{ℕ, ◌≡◌, ◌<◌, ◌+◌, ◌-◌, codes, List, ◌++◌, map, length, refl, sym, ap, ◌∙◌, subst, arith}
use Rattle.std.specs.Prelude.{Option, Some, None, option_map, slice_get, Bool, is_some, not, ◌&&◌, ◌==◌, ◌≤◌}
use Rattle.elem_head.specs.declared.types.Head.{Head}
use Rattle.elem_head.specs.Head.{head_of}
use Rattle.dgn_drawing.specs.Element.{Element}
use Rattle.dgn_drawing.specs.Spelling.{spell}
use Rattle.dgn_drawing.specs.WellFormed.{IsDimension, IsWellFormed}
use Rattle.dgn_drawing.specs.Rows.{row_of}
use Rattle.dgn_drawing.specs.Nesting.{forest}
use Rattle.dgn_drawing.specs.Numbering.{Mark, mark_of, depth_of, knot_of, parent_of, span_of, is_orphan}
use Rattle.dgn_drawing.proofs.FirstElements.{dimension_is}
use Rattle.dgn_drawing.proofs.FieldPlaces.{head-sits}
use Rattle.dgn_drawing.proofs.RecordsRead.{size-spell}
use Rattle.nest_tree.specs.declared.knot.Knot.{Knot}
use Rattle.nest_tree.specs.Shapes.{code_knot}
use Rattle.elem_index.specs.declared.design.Design.{Design}
use Rattle.elem_index.specs.Design.{elements, IsWhole}
use Rattle.elem_index.proofs.Places.{each_at}
use Rattle.dgn_listing.specs.declared.tree_line.TreeLine.{TreeLine}
use Rattle.dgn_listing.specs.TreeTexts.{line_at, element_text, tree_text_by, tree_text}
use Rattle.dgn_listing.specs.Lines.{texts_from, ending_text}
use Rattle.dgn_listing.proofs.SpanEnds.{ends_behind}

-- the element whose spelling is given is the one there
pub taken : (o : Option Element) (b : List ℕ) → Some b ≡ option_map spell o → (e : Element) × (o ≡ Some e) × (b ≡ spell e)
taken None b is = absurd (let f = is in cc)
taken (Some e) b is = (e, refl, cc)

-- the head of an element of a whole design
pub record HeadIs (e : Element) (head : Head) : Type 0 where
  pub level : head.level ≡ e.level
  pub cbit : head.cbit ≡ e.cbit
  pub kind : head.kind ≡ e.kind
  pub deleted : head.deleted ≡ e.deleted

pub head_is : (d : Design) → IsWhole d → (n : ℕ) (e : Element) → slice_get (elements d) n ≡ Some e → HeadIs e (head_of (spell e))
head_is d whole n e found =
    let axes : IsDimension d.dim = subst IsDimension (sym whole.is_open.opens.axes) (dimension_is (d.body.items ++ d.tail.items)) in
    let good : IsWellFormed d.dim e = each_at (IsWellFormed d.dim) (elements d) n e whole.is_open.opens.each found in
    let sits = head-sits d.dim e axes good in
    record {
      level = ap (λ (h : Head). h.level) sits.head;
      cbit = ap (λ (h : Head). h.cbit) sits.head;
      kind = ap (λ (h : Head). h.kind) sits.head;
      deleted = ap (λ (h : Head). h.deleted) sits.head;
    }

-- the bytes of an element hold its head
pub long_enough : (d : Design) → IsWhole d → (n : ℕ) (b : List ℕ) → Some b ≡ option_map spell (slice_get (elements d) n) → 4 ≤ length b
long_enough d whole n b is =
    let this = taken (slice_get (elements d) n) b is in
    let axes : IsDimension d.dim = subst IsDimension (sym whole.is_open.opens.axes) (dimension_is (d.body.items ++ d.tail.items)) in
    let good : IsWellFormed d.dim this.0 = each_at (IsWellFormed d.dim) (elements d) n this.0 whole.is_open.opens.each this.1 in
    omega (arith, ap (length {A = ℕ}) this.2, size-spell d.dim this.0 axes good)

-- what is read of the bytes and the nesting is what is said of the element
abbrev said_of : ℕ → ℕ → ℕ → ℕ → Knot → Bool → Bool → TreeLine
said_of n depth kind level knot deleted orphan =
    record { number = n; depth = depth; kind = kind; level = level; knot = knot; deleted = deleted; orphan = orphan }

line_from : (n : ℕ) (e : Element) (r : Option Mark) (head : Head) (depth : ℕ) (knot : Knot) (parent : Option ℕ) → HeadIs e head
    → Some depth ≡ option_map (λ (m : Mark). m.depth) r → Some knot ≡ option_map code_knot (option_map (λ (m : Mark). m.knot) r)
    → Some parent ≡ option_map (λ (m : Mark). m.parent) r → (orphan : Bool) → orphan ≡ (not (n == 0) && not (is_some parent) && head.cbit)
    → Some (said_of n depth head.kind head.level knot head.deleted orphan) ≡ line_at n (Some e) r
line_from n e None head depth knot parent is deep knotted below orphan orphaned = absurd (let f = deep in cc)
line_from n e (Some m) head depth knot parent is deep knotted below orphan orphaned =
    let depth_is : depth ≡ m.depth = cc in
    let knot_is : knot ≡ code_knot m.knot = cc in
    let parent_is : parent ≡ m.parent = cc in
    let orphan_is : orphan ≡ is_orphan n m (row_of e) =
    orphaned ∙ ap (λ (p : Option ℕ). not (n == 0) && not (is_some p) && head.cbit) parent_is
    ∙ ap (λ (c : Bool). not (n == 0) && not (is_some m.parent) && c) is.cbit in
    let level_is = is.level in
    let kind_is = is.kind in
    let deleted_is = is.deleted in
    let same : said_of n depth head.kind head.level knot head.deleted orphan
    ≡ said_of n m.depth e.kind e.level (code_knot m.knot) e.deleted (is_orphan n m (row_of e)) = cc in
    ap Some same

pub line_is : (d : Design) → IsWhole d → (n : ℕ) (b : List ℕ) (head : Head) (depth : ℕ) (knot : Knot) (parent : Option ℕ)
    → Some b ≡ option_map spell (slice_get (elements d) n) → head ≡ head_of b
    → Some depth ≡ depth_of row_of (elements d) n → Some knot ≡ option_map code_knot (knot_of row_of (elements d) n)
    → Some parent ≡ parent_of row_of (elements d) n
    → (orphan : Bool) → orphan ≡ (not (n == 0) && not (is_some parent) && head.cbit)
    → Some (said_of n depth head.kind head.level knot head.deleted orphan) ≡ line_at n (slice_get (elements d) n) (mark_of row_of (elements d) n)
line_is d whole n b head depth knot parent is read deep knotted below orphan orphaned =
    let this = taken (slice_get (elements d) n) b is in
    let here : HeadIs this.0 head = subst (HeadIs this.0) (sym (read ∙ ap head_of this.2)) (head_is d whole n this.0 this.1) in
    line_from n this.0 (mark_of row_of (elements d) n) head depth knot parent here
    deep knotted below orphan orphaned
    ∙ ap (λ (o : Option Element). line_at n o (mark_of row_of (elements d) n)) (sym this.1)

-- the span of an element, by the marks of the elements
pub record Spanned (es : List Element) (n first end : ℕ) : Type 0 where
  pub ordered : first ≤ end
  pub text : tree_text es n ≡ texts_from (element_text es) first (end - first) ++ ending_text (codes "tree") (end - first)

abbrev pair_of : ℕ → ℕ → ℕ × ℕ
pair_of a b = (a, b)

spanned_from : (es : List Element) (n first end : ℕ) (r : Option Mark) → mark_of row_of es n ≡ r
    → Some (pair_of first end) ≡ option_map (λ (m : Mark). pair_of n m.end) r → Spanned es n first end
spanned_from es n first end None marks span = absurd (let f = span in cc)
spanned_from es n first end (Some m) marks span =
    let pair : pair_of first end ≡ pair_of n m.end = cc in
    let first_is : first ≡ n = ap (λ (p : ℕ × ℕ). p.0) pair in
    let end_is : end ≡ m.end = ap (λ (p : ℕ × ℕ). p.1) pair in
    let behind : 0 + n < m.end = ends_behind (forest row_of es) 0 0 None n m marks in
    record {
      ordered = omega arith;
      text = ap (tree_text_by es n) marks ∙ ap (λ (k : ℕ). texts_from (element_text es) n (k - n) ++ ending_text (codes "tree") (k - n)) (sym end_is)
          ∙ ap (λ (k : ℕ). texts_from (element_text es) k (end - k) ++ ending_text (codes "tree") (end - k)) (sym first_is);
    }

pub spanned : (es : List Element) (n first end : ℕ) → Some (pair_of first end) ≡ span_of row_of es n
    → Spanned es n first end
spanned es n first end span = spanned_from es n first end (mark_of row_of es n) refl span
