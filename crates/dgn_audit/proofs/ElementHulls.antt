-- What is read of a well formed element says what its record does: its hull, its stored range, and whether it is locked.
use Rattle.std.proofs.Common.{◌≡◌, ℕ, ◌≤◌, List, [], ◌∷◌, length, Option, Some, None, Bool, true, false, cond, refl, sym, ap, ◌∙◌, subst}
use Rattle.std.specs.Prelude.{◌==◌}
use Rattle.std.proofs.lemmas.Bool.{cond-true, cond-false, both_ways}
use Rattle.range_code.specs.declared.Box3.{Box3}
use Rattle.range_code.specs.Ranges.{range_of}
use Rattle.elem_head.specs.Head.{properties_of}
use Rattle.body_vertex.specs.Points.{points_of}
use Rattle.dgn_layout.specs.declared.types.Class.{Class}
use Rattle.dgn_layout.specs.Classes.{class_of, is_silent}
use Rattle.dgn_layout.specs.Spots.{has_spots, HoldsPoints}
use Rattle.dgn_drawing.specs.Element.{Parts, Line, Points, Text, Node, Cell, Header, Plain, Body, Silent, Shown, Element, form_of_body, form_of_parts}
use Rattle.dgn_drawing.specs.Forms.{form_of, form_in}
use Rattle.dgn_drawing.specs.Spelling.{spell}
use Rattle.dgn_drawing.specs.WellFormed.{IsDimension, IsWellFormed}
use Rattle.dgn_drawing.specs.Changes.{points_in, range_in}
use Rattle.dgn_drawing.specs.Laws.{PartsSit, BodySits}
use Rattle.dgn_drawing.specs.Nesting.{Knot, Leaf, Group, Run, Loose}
use Rattle.dgn_drawing.proofs.FieldPlaces.{all-sits}
use Rattle.dgn_drawing.proofs.SpotValues.{holds_points}
use Rattle.nest_tree.specs.Shapes.{code_knot}
use Rattle.edit_ops.specs.Causes.{says_locked, is_locked}
use Rattle.edit_ops.proofs.ReadableElements.{IsShown, is_shown, shown_long}
use Rattle.dgn_audit.specs.declared.reported.Reported.{Reported}
use Rattle.dgn_audit.specs.declared.reported.Reported.TheVariants as keeps
use Rattle.dgn_audit.specs.Hulls.{on_axes, stored_of, is_vertices, points_hull, range_hull, leaf_hull, hull_in}
use Rattle.dgn_audit.specs.Findings.{is_fitted, is_kept, finding_as}
use Rattle.dgn_audit.specs.Reading.{range_read, leaf_read, knot_read, hull_read, is_fitted_knot, is_kept_read, finding_read}

-- a class whose elements have their points in a row
pub row_class : (c : Class) → is_vertices c ≡ true → c ≡ Class.Vertices
row_class Class.Vertices is = refl
row_class Class.Words is = absurd (both_ways false refl is)
row_class Class.Counted is = absurd (both_ways false refl is)
row_class Class.Run is = absurd (both_ways false refl is)
row_class Class.Floating is = absurd (both_ways false refl is)
row_class Class.Boxed is = absurd (both_ways false refl is)
row_class Class.Silent is = absurd (both_ways false refl is)

-- has spots
pub row_spotted : (c : Class) → is_vertices c ≡ true → has_spots c ≡ true
row_spotted c is = ap has_spots (row_class c is)

-- the parts of such an element are its points
row_points : (dim kind : ℕ) (b : List ℕ) (parts : Parts) → form_in Class.Vertices kind ≡ form_of_parts parts → PartsSit dim kind b parts
    → points_of dim kind b ≡ points_in parts
row_points dim kind b (Line points) form sits = sits
row_points dim kind b (Points points) form sits = sits
row_points dim kind b (Text run origin spare chars) form sits = absurd (other (kind == 3) form)
  where
    other : (c : Bool) → cond c (form_of_parts (Line [])) (form_of_parts (Points [])) ≡ form_of_parts (Text run origin spare chars) → ⊥
    other true is = cc
    other false is = cc
row_points dim kind b (Node total run origin) form sits = absurd (other (kind == 3) form)
  where
    other : (c : Bool) → cond c (form_of_parts (Line [])) (form_of_parts (Points [])) ≡ form_of_parts (Node total run origin) → ⊥
    other true is = cc
    other false is = cc
row_points dim kind b (Cell total name run origin) form sits = absurd (other (kind == 3) form)
  where
    other : (c : Bool) → cond c (form_of_parts (Line [])) (form_of_parts (Points [])) ≡ form_of_parts (Cell total name run origin) → ⊥
    other true is = cc
    other false is = cc
row_points dim kind b (Header total number) form sits = absurd (other (kind == 3) form)
  where
    other : (c : Bool) → cond c (form_of_parts (Line [])) (form_of_parts (Points [])) ≡ form_of_parts (Header total number) → ⊥
    other true is = cc
    other false is = cc
row_points dim kind b Plain form sits = absurd (other (kind == 3) form)
  where
    other : (c : Bool) → cond c (form_of_parts (Line [])) (form_of_parts (Points [])) ≡ form_of_parts Plain → ⊥
    other true is = cc
    other false is = cc

-- a shown body has not the form of a silent one
pub shown_apart : (parts : Parts) → form_of_parts parts ≡ form_of_body (Silent []) → ⊥
shown_apart (Line points) is = cc
shown_apart (Points points) is = cc
shown_apart (Text run origin spare chars) is = cc
shown_apart (Node total run origin) is = cc
shown_apart (Cell total name run origin) is = cc
shown_apart (Header total number) is = cc
shown_apart Plain is = cc

-- nothing is read of a silent class
silent_hull : (dim : ℕ) (knot : Knot) (class : Class) (kind : ℕ) (b : Body) (members : Option Box3) → is_silent class ≡ true
    → form_in class kind ≡ form_of_body b → hull_in dim knot kind b members ≡ None
silent_hull dim knot class kind (Silent rest) members silent form = refl
silent_hull dim knot Class.Silent kind (Shown d parts rest) members silent form = absurd (shown_apart parts (sym form))
silent_hull dim knot Class.Vertices kind (Shown d parts rest) members silent form = absurd (both_ways false refl silent)
silent_hull dim knot Class.Words kind (Shown d parts rest) members silent form = absurd (both_ways false refl silent)
silent_hull dim knot Class.Counted kind (Shown d parts rest) members silent form = absurd (both_ways false refl silent)
silent_hull dim knot Class.Run kind (Shown d parts rest) members silent form = absurd (both_ways false refl silent)
silent_hull dim knot Class.Floating kind (Shown d parts rest) members silent form = absurd (both_ways false refl silent)
silent_hull dim knot Class.Boxed kind (Shown d parts rest) members silent form = absurd (both_ways false refl silent)

-- a fitted knot by the word of the code
pub knots_fitted : (knot : Knot) (kind : ℕ) → is_fitted_knot (code_knot knot) kind ≡ is_fitted knot kind
knots_fitted Leaf kind = refl
knots_fitted Group kind = refl
knots_fitted Run kind = refl
knots_fitted Loose kind = refl

module _ (dim : ℕ) (axes : IsDimension dim) (e : Element) (good : IsWellFormed dim e) where
  -- what holds of an element of which more is read than nothing
  module _ (loud : is_silent (class_of e.kind) ≡ false) where
    shown : IsShown e
    shown = is_shown dim e good loud

    pub loud_long : 36 ≤ length (spell e)
    loud_long = shown_long dim e good shown

    sits : BodySits dim e (Shown shown.display shown.parts shown.rest)
    sits = subst (λ (b : Body). BodySits dim e b) shown.body (all-sits dim e axes good).1

    range_is : on_axes dim (range_of (spell e)) ≡ on_axes dim (range_in shown.display)
    range_is = ap (on_axes dim) sits.0.range

    -- its stored range
    pub loud_stored : on_axes dim (range_of (spell e)) ≡ stored_of dim e.body
    loud_stored = range_is ∙ ap (stored_of dim) (sym shown.body)

    -- and whether it is locked
    pub loud_locked : says_locked (properties_of (spell e)) ≡ is_locked e.body
    loud_locked = ap says_locked sits.0.properties ∙ ap is_locked (sym shown.body)

    range_hulls : range_read dim e.kind (spell e) ≡ range_hull dim e.kind shown.display
    range_hulls = ap (λ (r : Box3). cond (e.kind == 34) None (Some r)) range_is

    form_is : form_in (class_of e.kind) e.kind ≡ form_of_parts shown.parts
    unfolding form_of
    form_is = good.form ∙ ap form_of_body shown.body

    parts_sit : PartsSit dim e.kind (spell e) shown.parts
    parts_sit = sits.1

    leaf_by : (v : Bool) → is_vertices (class_of e.kind) ≡ v → leaf_read dim e.kind (spell e) ≡ leaf_hull dim e.kind shown.display shown.parts
    leaf_by true is =
        let form : form_in Class.Vertices e.kind ≡ form_of_parts shown.parts =
        ap (λ (c : Class). form_in c e.kind) (sym (row_class (class_of e.kind) is)) ∙ form_is in
        cond-true (is_vertices (class_of e.kind)) (points_hull dim (points_of dim e.kind (spell e))) (range_read dim e.kind (spell e)) is
        ∙ ap (points_hull dim) (row_points dim e.kind (spell e) shown.parts form parts_sit)
        ∙ sym (cond-true (is_vertices (class_of e.kind)) (points_hull dim (points_in shown.parts)) (range_hull dim e.kind shown.display) is)
    leaf_by false is =
        cond-false (is_vertices (class_of e.kind)) (points_hull dim (points_of dim e.kind (spell e))) (range_read dim e.kind (spell e)) is
        ∙ range_hulls
        ∙ sym (cond-false (is_vertices (class_of e.kind)) (points_hull dim (points_in shown.parts)) (range_hull dim e.kind shown.display) is)

    knot_hulls : (knot : Knot) (members : Option Box3)
        → knot_read dim (code_knot knot) e.kind (spell e) members ≡ hull_in dim knot e.kind (Shown shown.display shown.parts shown.rest) members
    knot_hulls Leaf members = leaf_by (is_vertices (class_of e.kind)) refl
    knot_hulls Group members = refl
    knot_hulls Run members = range_hulls
    knot_hulls Loose members = refl

    -- what is told of it
    pub loud_findings : (keep : Reported) (knot : Knot) (n : ℕ) (hull : Box3)
        → finding_read keep dim (code_knot knot) n e.kind (spell e) hull ≡ finding_as keep dim knot n e (Some hull)
    loud_findings keep knot n hull =
        ap (λ (r : Box3). cond (is_kept_read keep (code_knot knot) e.kind r hull) (record { number = n; axes = dim; stored = r; hull = hull } ∷ []) [])
        loud_stored
        ∙ ap (λ (k : Bool). cond k (record { number = n; axes = dim; stored = stored_of dim e.body; hull = hull } ∷ []) []) (kept keep)
      where
        kept : (keep : Reported) → is_kept_read keep (code_knot knot) e.kind (stored_of dim e.body) hull ≡ is_kept keep dim knot e hull
        kept keeps.Fitted = knots_fitted knot e.kind
        kept keeps.Differing = refl

  hull_by : (s : Bool) → is_silent (class_of e.kind) ≡ s → (knot : Knot) (members : Option Box3)
      → hull_read dim (code_knot knot) e.kind (spell e) members ≡ hull_in dim knot e.kind e.body members
  unfolding form_of
  hull_by true is knot members =
      cond-true (is_silent (class_of e.kind)) None (knot_read dim (code_knot knot) e.kind (spell e) members) is
      ∙ sym (silent_hull dim knot (class_of e.kind) e.kind e.body members is good.form)
  hull_by false is knot members =
      cond-false (is_silent (class_of e.kind)) None (knot_read dim (code_knot knot) e.kind (spell e) members) is
      ∙ knot_hulls is knot members ∙ ap (λ (b : Body). hull_in dim knot e.kind b members) (sym (shown is).body)

  -- the hull of a tree with this head, which isn't marked deleted
  pub hull_said : (knot : Knot) (members : Option Box3) → hull_read dim (code_knot knot) e.kind (spell e) members ≡ hull_in dim knot e.kind e.body members
  hull_said = hull_by (is_silent (class_of e.kind)) refl

  -- it holds its points
  pub row_holds : is_vertices (class_of e.kind) ≡ true → HoldsPoints dim e.kind (spell e) (length (spell e))
  row_holds is = holds_points dim e axes good (row_spotted (class_of e.kind) is)

-- where a hull is read, more is read than nothing
pub hull_loud : (dim : ℕ) (knot : Knot) (kind : ℕ) (b : List ℕ) (members : Option Box3) (hull : Box3)
    → Some hull ≡ hull_read dim (code_knot knot) kind b members → is_silent (class_of kind) ≡ false
hull_loud dim knot kind b members hull is = by_silent (is_silent (class_of kind)) refl
  where
    by_silent : (s : Bool) → is_silent (class_of kind) ≡ s → is_silent (class_of kind) ≡ false
    by_silent false silent = silent
    by_silent true silent = absurd (let x = is ∙ cond-true (is_silent (class_of kind)) None (knot_read dim (code_knot knot) kind b members) silent in cc)
