-- Where the pieces of a body stand: each begins where the one before it ends, in both dimensions. And
-- what a form says of the type that has it.
use Rattle.std.proofs.Common.{◌≡◌, ℕ, ◌+◌, ◌*◌, List, refl, subst, inl, inr, sym, Bool, true, false, cond}
use Rattle.std.specs.Prelude.{◌==◌}
use Rattle.dgn_words.specs.Numbers.{word_at, longs_at}
use Rattle.dgn_layout.specs.declared.types.Class.{Class}
use Rattle.dgn_layout.specs.Classes.{class_of}
use Rattle.body_vertex.specs.Points.{points_at, points_of, points_end}
use Rattle.body_text.specs.Texts.{origin_start, chars_count_place, chars_start, node_origin_start, node_end}
use Rattle.group_head.specs.Headers.{origin_at, cell_end}
use Rattle.dgn_drawing.specs.declared.form.Form.{Form}
use Rattle.dgn_drawing.specs.Forms.{form_in, form_of}
use Rattle.dgn_drawing.specs.WellFormed.{IsDimension, text_run, node_run, cell_run}

-- what holds in 2 and in 3 dimensions
pub in_both : (P : ℕ → Type 0) → P 2 → P 3 → {dim : ℕ} → IsDimension dim → P dim
in_both P two three (inl e) = subst P (sym e) two
in_both P two three (inr e) = subst P (sym e) three

pub text_origin : {dim : ℕ} → IsDimension dim → origin_start dim ≡ 36 + text_run dim
text_origin axes = in_both (λ (d : ℕ). origin_start d ≡ 36 + text_run d) refl refl axes

pub text_count : {dim : ℕ} → IsDimension dim → chars_count_place dim ≡ origin_start dim + 4 * dim
text_count axes = in_both (λ (d : ℕ). chars_count_place d ≡ origin_start d + 4 * d) refl refl axes

pub text_chars : {dim : ℕ} → IsDimension dim → chars_start dim ≡ chars_count_place dim + 2
text_chars axes = in_both (λ (d : ℕ). chars_start d ≡ chars_count_place d + 2) refl refl axes

pub node_origin : {dim : ℕ} → IsDimension dim → node_origin_start dim ≡ 38 + node_run dim
node_origin axes = in_both (λ (d : ℕ). node_origin_start d ≡ 38 + node_run d) refl refl axes

pub node_end_is : {dim : ℕ} → IsDimension dim → node_end dim ≡ node_origin_start dim + 4 * dim
node_end_is axes = in_both (λ (d : ℕ). node_end d ≡ node_origin_start d + 4 * d) refl refl axes

pub cell_origin : {dim : ℕ} → IsDimension dim → (b : List ℕ) → origin_at dim b ≡ longs_at dim b (42 + cell_run dim)
cell_origin axes b = in_both (λ (d : ℕ). origin_at d b ≡ longs_at d b (42 + cell_run d)) refl refl axes

pub cell_end_is : {dim : ℕ} → IsDimension dim → cell_end dim ≡ 42 + cell_run dim + 4 * dim
cell_end_is axes = in_both (λ (d : ℕ). cell_end d ≡ 42 + cell_run d + 4 * d) refl refl axes

-- the points of a line, and where they end
pub line_points : (kind dim : ℕ) (b : List ℕ) → (kind == 3) ≡ true → points_of dim kind b ≡ points_at 2 dim b 36
line_points kind dim b e = rw e refl

pub line_end : (kind dim : ℕ) (b : List ℕ) → (kind == 3) ≡ true → points_end dim kind b ≡ 36 + 4 * dim * 2
line_end kind dim b e = rw e refl

-- and of any other row of points
pub row_points : (kind dim : ℕ) (b : List ℕ) → (kind == 3) ≡ false → points_of dim kind b ≡ points_at (word_at b 36) dim b 38
row_points kind dim b e = rw e refl

pub row_end : (kind dim : ℕ) (b : List ℕ) → (kind == 3) ≡ false → points_end dim kind b ≡ 38 + 4 * dim * word_at b 36
row_end kind dim b e = rw e refl

-- only type 3 is a line
line_in : (c : Class) (kind : ℕ) → form_in c kind ≡ Form.Line → (kind == 3) ≡ true
line_in Class.Vertices kind e = first (kind == 3) e
  where
    first : (t : Bool) → cond t Form.Line Form.Points ≡ Form.Line → t ≡ true
    first true e = refl
    first false e = cc
line_in Class.Words kind e = cc
line_in Class.Counted kind e = none (kind == 2) (kind == 7) e
  where
    none : (s t : Bool) → cond s Form.Cell (cond t Form.Node Form.Header) ≡ Form.Line → (kind == 3) ≡ true
    none true t e = cc
    none false true e = cc
    none false false e = cc
line_in Class.Run kind e = cc
line_in Class.Floating kind e = cc
line_in Class.Boxed kind e = cc
line_in Class.Silent kind e = cc

pub is_line : (kind : ℕ) → form_of kind ≡ Form.Line → (kind == 3) ≡ true
unfolding form_of
is_line kind e = line_in (class_of kind) kind e

points_in : (c : Class) (kind : ℕ) → form_in c kind ≡ Form.Points → (kind == 3) ≡ false
points_in Class.Vertices kind e = second (kind == 3) e
  where
    second : (t : Bool) → cond t Form.Line Form.Points ≡ Form.Points → t ≡ false
    second true e = cc
    second false e = refl
points_in Class.Words kind e = cc
points_in Class.Counted kind e = none (kind == 2) (kind == 7) e
  where
    none : (s t : Bool) → cond s Form.Cell (cond t Form.Node Form.Header) ≡ Form.Points → (kind == 3) ≡ false
    none true t e = cc
    none false true e = cc
    none false false e = cc
points_in Class.Run kind e = cc
points_in Class.Floating kind e = cc
points_in Class.Boxed kind e = cc
points_in Class.Silent kind e = cc

pub is_points : (kind : ℕ) → form_of kind ≡ Form.Points → (kind == 3) ≡ false
unfolding form_of
is_points kind e = points_in (class_of kind) kind e
