-- What is shown of an element, from its bytes.
use Rattle.std.proofs.Common.{◌≡◌, ℕ, zero, suc, ◌+◌, ◌⊎◌, inl, inr, List, [], ◌∷◌, ◌++◌, take, map, Bool, true, false, cond, Some, None, slice_get, refl}
use Rattle.std.proofs.Common.{sym, ◌∙◌, ap, add-one}
use Rattle.std.specs.Prelude.{◌==◌, ◌||◌}
use Rattle.std.proofs.lemmas.Bool.{cond-true, cond-false, eq-eqb, ne_eqb}
use Rattle.elem_head.specs.declared.types.Symb.{Symb}
use Rattle.elem_head.specs.Head.{kind_of, level_of, symbology_of}
use Rattle.range_code.specs.declared.Box3.{Box3}
use Rattle.range_code.specs.Ranges.{range_of}
use Rattle.dgn_layout.specs.declared.types.Class.{Class}
use Rattle.dgn_layout.specs.Classes.{is_among, class_of}
use Rattle.body_vertex.specs.Points.{points_of, points_end, IsPathKind}
use Rattle.body_text.specs.Texts.{origin_of, chars_of, node_origin_of}
use Rattle.group_head.specs.Headers.{name_at, origin_at}
use Rattle.dgn_drawing.specs.declared.form.Form.{Form}
use Rattle.dgn_drawing.specs.declared.types.item.Item.{Item}
use Rattle.dgn_drawing.specs.declared.types.item_body.ItemBody.{ItemBody}
use Rattle.dgn_drawing.specs.Forms.{form_in, form_of}
use Rattle.dgn_drawing.specs.WellFormed.{IsDimension}
use Rattle.dgn_drawing.proofs.FormEnds.{end_in, end_of_form}
use Rattle.dgn_drawing.specs.Reading.{form_at, end_at, parts_at, display_at, body_in, element_at}
use Rattle.dgn_drawing.specs.Faults.{is_shown}
use Rattle.dgn_drawing.specs.Items.{in_space, item_body_of, shown_item, item_in, item_of}

-- one more point
pub map-take_get : {A B : Type 0} (f : A → B) (xs : List A) (i : ℕ) (x : A) → slice_get xs i ≡ Some x → map f (take (i + 1) xs) ≡ map f (take i xs) ++ f x ∷ []
map-take_get f [] i x found = absurd (cc)
map-take_get f (y ∷ ys) zero x found = let same : y ≡ x = cc in ap (λ z. f z ∷ []) same
map-take_get f (y ∷ ys) (suc i) x found =
    let here : map f (take (i + 1) ys) ≡ map f (take i ys) ++ f x ∷ [] = map-take_get f ys i x found in
    let more : map f (take (suc i) ys) ≡ map f (take i ys) ++ f x ∷ [] = rw add-one at here in
    rw add-one (ap (λ zs. f y ∷ zs) more)

-- a form of points is of class vertices, and such a type is one of four
vertices_chain : (t u v w x y : Bool)
    → cond t Class.Vertices (cond u Class.Words (cond v Class.Counted (cond w Class.Run (cond x Class.Floating (cond y Class.Boxed Class.Silent)))))
    ≡ Class.Vertices → t ≡ true
vertices_chain true u v w x y is = refl
vertices_chain false true v w x y is = cc
vertices_chain false false true w x y is = cc
vertices_chain false false false true x y is = cc
vertices_chain false false false false true y is = cc
vertices_chain false false false false false true is = cc
vertices_chain false false false false false false is = cc

four_of : (a b c d : Bool) → (a || (b || (c || (d || false)))) ≡ true → (((a || b) || c) || d) ≡ true
four_of true b c d is = refl
four_of false true c d is = refl
four_of false false true d is = refl
four_of false false false true is = refl
four_of false false false false is = cc

vertices_kind : (kind : ℕ) → class_of kind ≡ Class.Vertices → IsPathKind kind
vertices_kind kind is = four_of (kind == 3) (kind == 4) (kind == 6) (kind == 11) (vertices_chain (is_among kind (3 ∷ 4 ∷ 6 ∷ 11 ∷ [])) _ _ _ _ _ is)

abbrev of_points : Form → Bool
of_points Form.Line = true
of_points Form.Points = true
of_points other = false

points_class : (c : Class) (kind : ℕ) → of_points (form_in c kind) ≡ true → c ≡ Class.Vertices
points_class Class.Vertices kind is = refl
points_class Class.Words kind is = absurd (cc)
points_class Class.Counted kind is = none (kind == 2) (kind == 7) is
  where
    none : (s t : Bool) → of_points (cond s Form.Cell (cond t Form.Node Form.Header)) ≡ true → Class.Counted ≡ Class.Vertices
    none true t is = absurd (cc)
    none false true is = absurd (cc)
    none false false is = absurd (cc)
points_class Class.Run kind is = absurd (cc)
points_class Class.Floating kind is = absurd (cc)
points_class Class.Boxed kind is = absurd (cc)
points_class Class.Silent kind is = absurd (cc)

pub path_kind : (kind : ℕ) (f : Form) → f ≡ form_of kind → (f ≡ Form.Line) ⊎ (f ≡ Form.Points) → IsPathKind kind
unfolding form_of
path_kind kind f these is = vertices_kind kind (points_class (class_of kind) kind (ap of_points (sym these) ∙ some is))
  where
    some : (f ≡ Form.Line) ⊎ (f ≡ Form.Points) → of_points f ≡ true
    some (inl e) = ap of_points e
    some (inr e) = ap of_points e

-- each form's end and what is shown of it
module _ (f : Form) (dim : ℕ) (b : List ℕ) where
  pub path_fits : IsDimension dim → f ≡ form_at b → (f ≡ Form.Line) ⊎ (f ≡ Form.Points) → end_at dim b ≡ points_end dim (kind_of b) b
  unfolding end_in
  path_fits axes these (inl e) = end_of_form b axes Form.Line (sym these ∙ e)
  path_fits axes these (inr e) = end_of_form b axes Form.Points (sym these ∙ e)

  pub path_shown : (f ≡ Form.Line) ⊎ (f ≡ Form.Points) → item_body_of (parts_at f dim b) ≡ ItemBody.Path (map in_space (points_of dim (kind_of b) b))
  unfolding parts_at
  path_shown (inl e) = ap (λ (g : Form). item_body_of (parts_at g dim b)) e
  path_shown (inr e) = ap (λ (g : Form). item_body_of (parts_at g dim b)) e

  pub text_shown : f ≡ Form.Text → item_body_of (parts_at f dim b) ≡ ItemBody.Text (in_space (origin_of dim b)) (chars_of dim b)
  unfolding parts_at
  text_shown e = ap (λ (g : Form). item_body_of (parts_at g dim b)) e

  pub node_shown : f ≡ Form.Node → item_body_of (parts_at f dim b) ≡ ItemBody.Node (in_space (node_origin_of dim b))
  unfolding parts_at
  node_shown e = ap (λ (g : Form). item_body_of (parts_at g dim b)) e

  pub cell_shown : f ≡ Form.Cell → item_body_of (parts_at f dim b) ≡ ItemBody.Cell (name_at b) (in_space (origin_at dim b))
  unfolding parts_at
  cell_shown e = ap (λ (g : Form). item_body_of (parts_at g dim b)) e

  pub header_shown : f ≡ Form.Header → item_body_of (parts_at f dim b) ≡ ItemBody.Group
  unfolding parts_at
  header_shown e = ap (λ (g : Form). item_body_of (parts_at g dim b)) e

  pub plain_shown : f ≡ Form.Plain → item_body_of (parts_at f dim b) ≡ ItemBody.Boxed
  unfolding parts_at
  plain_shown e = ap (λ (g : Form). item_body_of (parts_at g dim b)) e

  pub silent_shown : f ≡ Form.Silent → item_body_of (parts_at f dim b) ≡ ItemBody.Boxed
  unfolding parts_at
  silent_shown e = ap (λ (g : Form). item_body_of (parts_at g dim b)) e

-- an element that is silent, or of type 34, has no item
module _ (dim number depth : ℕ) (b : List ℕ) where
  pub silent_item : form_at b ≡ Form.Silent → item_of dim number depth (element_at dim b) ≡ None
  unfolding element_at body_in
  silent_item is = ap (λ (f : Form). item_in dim number depth (element_at dim b) (body_in f dim b)) is

  -- any other has one
  shown_by : (f : Form) → is_shown f ≡ true
      → item_in dim number depth (element_at dim b) (body_in f dim b)
      ≡ (cond (kind_of b == 34) None (Some (shown_item dim number depth (element_at dim b) (display_at b) (parts_at f dim b))))
  unfolding element_at body_in
  shown_by Form.Line shown = refl
  shown_by Form.Points shown = refl
  shown_by Form.Text shown = refl
  shown_by Form.Node shown = refl
  shown_by Form.Cell shown = refl
  shown_by Form.Header shown = refl
  shown_by Form.Plain shown = refl
  shown_by Form.Silent shown = absurd (cc)

  pub other_item : is_shown (form_at b) ≡ true
      → item_of dim number depth (element_at dim b)
      ≡ (cond (kind_of b == 34) None (Some (shown_item dim number depth (element_at dim b) (display_at b) (parts_at (form_at b) dim b))))
  unfolding element_at
  other_item shown = shown_by (form_at b) shown

  pub shared_item : is_shown (form_at b) ≡ true → kind_of b ≡ 34 → item_of dim number depth (element_at dim b) ≡ None
  shared_item shown is = other_item shown ∙ cond-true (kind_of b == 34) _ _ (eq-eqb (kind_of b) 34 is)

  abbrev pub item_with : ℕ → ℕ → Symb → Box3 → ItemBody → Item
  item_with kind level symb range body =
      record { number = number; depth = depth; kind = kind; level = level; symb = symb; axes = dim; range = range; body = body }

  pub made_item : is_shown (form_at b) ≡ true → (kind_of b ≡ 34 → ⊥) → (kind level : ℕ) (symb : Symb) (range : Box3) (body : ItemBody)
      → kind ≡ kind_of b → level ≡ level_of b → symb ≡ symbology_of b → range ≡ range_of b → body ≡ item_body_of (parts_at (form_at b) dim b)
      → Some (item_with kind level symb range body) ≡ item_of dim number depth (element_at dim b)
  unfolding element_at display_at
  made_item shown isnt kind level symb range body e1 e2 e3 e4 e5 =
      let some = other_item shown ∙ cond-false (kind_of b == 34) _ _ (ne_eqb (kind_of b) 34 isnt) in
      let same : item_with kind level symb range body
      ≡ item_with (kind_of b) (level_of b) (symbology_of b) (range_of b) (item_body_of (parts_at (form_at b) dim b)) = cc in
      ap Some same ∙ sym some
