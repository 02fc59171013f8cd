-- What the body of a cell, of a text and of a row of points is.
use Rattle.std.proofs.Common.{◌≡◌, ℕ, List, [], Bool, true, false, cond, refl, sym, ap, ◌∙◌}
use Rattle.std.specs.Prelude.{ℤ, ◌==◌}
use Rattle.dgn_layout.specs.declared.types.Class.{Class}
use Rattle.dgn_layout.specs.Classes.{class_of}
use Rattle.dgn_drawing.specs.Forms.{form_in, form_of}
use Rattle.dgn_drawing.specs.Element.{Display, Line, Points, Text, Node, Cell, Header, Plain, Body, Silent, Shown, Element, form_of_parts, form_of_body}
use Rattle.dgn_drawing.specs.WellFormed.{IsWellFormed}

-- a cell
pub record IsCellBody (b : Body) : Type 0 where
  pub display : Display
  pub total : ℕ
  pub name : List ℕ
  pub run : List ℕ
  pub origin : List ℤ
  pub rest : List ℕ
  pub is : b ≡ Shown display (Cell total name run origin) rest

cell_of_form : (b : Body) → form_of_body b ≡ form_of_parts (Cell 0 [] [] []) → IsCellBody b
cell_of_form (Silent rest) form = absurd (cc)
cell_of_form (Shown d (Line points) rest) form = absurd (cc)
cell_of_form (Shown d (Points points) rest) form = absurd (cc)
cell_of_form (Shown d (Text run origin spare chars) rest) form = absurd (cc)
cell_of_form (Shown d (Node total run origin) rest) form = absurd (cc)
cell_of_form (Shown d (Cell total name run origin) rest) form =
    record { display = d; total = total; name = name; run = run; origin = origin; rest = rest; is = refl }
cell_of_form (Shown d (Header total number) rest) form = absurd (cc)
cell_of_form (Shown d Plain rest) form = absurd (cc)

pub cell_body : (dim : ℕ) (e : Element) → IsWellFormed dim e → e.kind ≡ 2 → IsCellBody e.body
unfolding form_of
cell_body dim e good kind = cell_of_form e.body (sym good.form ∙ ap form_of kind)

-- a text
pub record IsTextBody (b : Body) : Type 0 where
  pub display : Display
  pub run : List ℕ
  pub origin : List ℤ
  pub spare : ℕ
  pub chars : List ℕ
  pub rest : List ℕ
  pub is : b ≡ Shown display (Text run origin spare chars) rest

text_of_form : (b : Body) → form_of_body b ≡ form_of_parts (Text [] [] 0 []) → IsTextBody b
text_of_form (Silent rest) form = absurd (cc)
text_of_form (Shown d (Line points) rest) form = absurd (cc)
text_of_form (Shown d (Points points) rest) form = absurd (cc)
text_of_form (Shown d (Text run origin spare chars) rest) form =
    record { display = d; run = run; origin = origin; spare = spare; chars = chars; rest = rest; is = refl }
text_of_form (Shown d (Node total run origin) rest) form = absurd (cc)
text_of_form (Shown d (Cell total name run origin) rest) form = absurd (cc)
text_of_form (Shown d (Header total number) rest) form = absurd (cc)
text_of_form (Shown d Plain rest) form = absurd (cc)

pub text_body : (dim : ℕ) (e : Element) → IsWellFormed dim e → class_of e.kind ≡ Class.Words → IsTextBody e.body
unfolding form_of
text_body dim e good class = text_of_form e.body (sym good.form ∙ ap (λ (c : Class). form_in c e.kind) class)

-- a row of points: a line, or another with a count word before its points
pub data IsPathBody (b : Body) : Type 0 where
  IsLine : (display : Display) (points : List (List ℤ)) (rest : List ℕ) → b ≡ Shown display (Line points) rest → IsPathBody b
  IsRow : (display : Display) (points : List (List ℤ)) (rest : List ℕ) → b ≡ Shown display (Points points) rest → IsPathBody b

path_of_form : (t : Bool) (b : Body) → form_of_body b ≡ cond t (form_of_parts (Line [])) (form_of_parts (Points [])) → IsPathBody b
path_of_form true (Silent rest) form = absurd (cc)
path_of_form true (Shown d (Line points) rest) form = IsLine d points rest refl
path_of_form true (Shown d (Points points) rest) form = absurd (cc)
path_of_form true (Shown d (Text run origin spare chars) rest) form = absurd (cc)
path_of_form true (Shown d (Node total run origin) rest) form = absurd (cc)
path_of_form true (Shown d (Cell total name run origin) rest) form = absurd (cc)
path_of_form true (Shown d (Header total number) rest) form = absurd (cc)
path_of_form true (Shown d Plain rest) form = absurd (cc)
path_of_form false (Silent rest) form = absurd (cc)
path_of_form false (Shown d (Line points) rest) form = absurd (cc)
path_of_form false (Shown d (Points points) rest) form = IsRow d points rest refl
path_of_form false (Shown d (Text run origin spare chars) rest) form = absurd (cc)
path_of_form false (Shown d (Node total run origin) rest) form = absurd (cc)
path_of_form false (Shown d (Cell total name run origin) rest) form = absurd (cc)
path_of_form false (Shown d (Header total number) rest) form = absurd (cc)
path_of_form false (Shown d Plain rest) form = absurd (cc)

pub path_body : (dim : ℕ) (e : Element) → IsWellFormed dim e → class_of e.kind ≡ Class.Vertices → IsPathBody e.body
unfolding form_of
path_body dim e good class = path_of_form (e.kind == 3) e.body (sym good.form ∙ ap (λ (c : Class). form_in c e.kind) class)
