-- The parts of each form, from bytes to the record and back.
use Rattle.std.proofs.Common.{◌≡◌, ℕ, ◌+◌, ◌-◌, ◌*◌, ◌<◌, ◌≤◌, List, [], ◌∷◌, ◌++◌, length, take, drop, get_or, refl, sym, ap, ◌∙◌, subst, arith, true}
use Rattle.std.proofs.Common.{false, length-append, length-drop}
use Rattle.std.specs.Prelude.{ℤ, ◌==◌}
use Rattle.std.specs.List.{AllByRecursion, flat_map}
use Rattle.std.proofs.lemmas.List.{length-take-le}
use Rattle.std.proofs.lemmas.List.Elements.{All-take, All-drop}
use Rattle.dgn_words.specs.Numbers.{word_at, word_bytes}
use Rattle.elem_head.specs.Head.{kind_of}
use Rattle.body_vertex.specs.Points.{points_at, points_of, points_end}
use Rattle.body_text.specs.Texts.{origin_start, origin_of, chars_count_place, chars_count, chars_start, chars_of, text_end, node_origin_start}
use Rattle.body_text.specs.Texts.{node_origin_of, node_end}
use Rattle.group_head.specs.Headers.{total_at, origin_at, cell_end}
use Rattle.body_vertex.proofs.Points.{length-points_at}
use Rattle.dgn_drawing.specs.declared.form.Form.{Form}
use Rattle.dgn_drawing.specs.Forms.{form_of}
use Rattle.dgn_drawing.specs.Element.{Parts, Line, Points, Text, Node, Cell, Header, Plain, form_of_parts}
use Rattle.dgn_drawing.specs.Spelling.{parts_bytes, point_bytes}
use Rattle.dgn_drawing.specs.WellFormed.{IsDimension, IsBytes, IsRun, IsPoint, IsText, IsNode, IsCell, HasParts, text_run, node_run, cell_run}
use Rattle.dgn_drawing.specs.Reading.{parts_at, number_at}
use Rattle.dgn_drawing.proofs.BytesAt.{Has, has_then, has_first, has_none, has_same, has_run, has_byte, run_is, index_is}
use Rattle.dgn_drawing.proofs.Fields.{byte_at, has_word, word_is, word_below, has_longs, longs_are, longs_on_plane, length-point_bytes, has_points}
use Rattle.dgn_drawing.proofs.Fields.{points_are, points_on_plane, length-points_bytes}
use Rattle.dgn_drawing.proofs.FormEnds.{end_in}
use Rattle.dgn_drawing.proofs.Places.{text_origin, text_count, text_chars, node_origin, node_end_is, cell_origin, cell_end_is, line_points, line_end}
use Rattle.dgn_drawing.proofs.Places.{row_points, row_end, is_line, is_points}

-- a run that stands within bytes
run_good : (b : List ℕ) (p n : ℕ) → IsBytes b → p + n ≤ length b → IsRun n (take n (drop p b))
run_good b p n bytes within = record {
  long = length-take-le n (drop p b) (omega (arith, length-drop p b));
  bytes = All-take (λ x. x < 256) n (drop p b) (All-drop (λ x. x < 256) p b bytes);
}

-- the parts are spelled from byte 36 to the body's end, hold their values, and have their form
pub record AreSpelled (f : Form) (dim : ℕ) (b : List ℕ) (parts : Parts) : Type 0 where
  pub bytes : Has b 36 (parts_bytes parts) (end_in f dim b)
  pub good : HasParts dim parts
  pub form : form_of_parts parts ≡ f

module _ (dim : ℕ) (b : List ℕ) (axes : IsDimension dim) (bytes : IsBytes b) where
  pub line_spelled : form_of (kind_of b) ≡ Form.Line → end_in Form.Line dim b ≤ length b → AreSpelled Form.Line dim b (parts_at Form.Line dim b)
  unfolding parts_bytes parts_at end_in
  line_spelled f within =
      let three : (kind_of b == 3) ≡ true = is_line (kind_of b) f in
      let points : points_of dim (kind_of b) b ≡ points_at 2 dim b 36 = line_points (kind_of b) dim b three in
      let ends : points_end dim (kind_of b) b ≡ 36 + 4 * dim * 2 = line_end (kind_of b) dim b three in
      record {
        bytes = has_same (ap (flat_map point_bytes) (sym points)) (has_points 2 dim b 36 (points_end dim (kind_of b) b) bytes ends within);
        good = (ap (length {A = List ℤ}) points, subst (AllByRecursion (IsPoint dim)) (sym points) (points_on_plane 2 dim b 36 bytes));
        form = refl;
      }

  pub points_spelled : form_of (kind_of b) ≡ Form.Points → end_in Form.Points dim b ≤ length b → AreSpelled Form.Points dim b (parts_at Form.Points dim b)
  unfolding parts_bytes parts_at end_in
  points_spelled f within =
      let other : (kind_of b == 3) ≡ false = is_points (kind_of b) f in
      let points : points_of dim (kind_of b) b ≡ points_at (word_at b 36) dim b 38 = row_points (kind_of b) dim b other in
      let ends : points_end dim (kind_of b) b ≡ 38 + 4 * dim * word_at b 36 = row_end (kind_of b) dim b other in
      let long : length (points_of dim (kind_of b) b) ≡ word_at b 36 = ap (length {A = List ℤ}) points ∙ length-points_at (word_at b 36) dim b 38 in
      let small = word_below b 36 bytes in
      record {
        bytes = has_then (has_same (ap word_bytes (sym long)) (has_word b 36 38 bytes refl (omega arith)))
            (has_same (ap (flat_map point_bytes) (sym points)) (has_points (word_at b 36) dim b 38 (points_end dim (kind_of b) b) bytes ends within));
        good = (rw long small, subst (AllByRecursion (IsPoint dim)) (sym points) (points_on_plane (word_at b 36) dim b 38 bytes));
        form = refl;
      }

  pub text_spelled : end_in Form.Text dim b ≤ length b → AreSpelled Form.Text dim b (parts_at Form.Text dim b)
  unfolding parts_bytes parts_at end_in
  text_spelled within =
      let e1 = text_origin axes in
      let e2 = text_count axes in
      let e3 = text_chars axes in
      let small = byte_at b (chars_count_place dim) bytes in
      let run : origin_start dim - 36 ≡ text_run dim = omega arith in
      let chars : length (chars_of dim b) ≡ chars_count dim b =
      length-take-le (chars_count dim b) (drop (chars_start dim) b) (omega (arith, length-drop (chars_start dim) b)) in
      record {
        bytes = has_then (has_run b 36 (origin_start dim - 36) (origin_start dim) (omega arith))
            (has_then (has_longs dim b (origin_start dim) (chars_count_place dim) bytes e2 (omega arith))
            (has_then (has_same (ap (λ (n : ℕ). n ∷ []) (sym chars)) (has_byte b (chars_count_place dim) (chars_count_place dim + 1) refl (omega arith)))
            (has_then (has_byte b (chars_count_place dim + 1) (chars_start dim) (omega arith) (omega arith))
            (has_run b (chars_start dim) (chars_count dim b) (text_end dim b) refl))));
        good = record {
          before = subst (λ (n : ℕ). IsRun n (take (origin_start dim - 36) (drop 36 b))) run (run_good b 36 (origin_start dim - 36) bytes (omega arith));
          point = longs_on_plane dim b (origin_start dim) bytes;
          byte = byte_at b (chars_count_place dim + 1) bytes;
          few = rw chars (omega arith);
          bytes = All-take (λ x. x < 256) (chars_count dim b) (drop (chars_start dim) b) (All-drop (λ x. x < 256) (chars_start dim) b bytes);
        };
        form = refl;
      }

  pub node_spelled : end_in Form.Node dim b ≤ length b → AreSpelled Form.Node dim b (parts_at Form.Node dim b)
  unfolding parts_bytes parts_at end_in
  node_spelled within =
      let e1 = node_origin axes in
      let e2 = node_end_is axes in
      let run : node_origin_start dim - 38 ≡ node_run dim = omega arith in
      record {
        bytes = has_then (has_word b 36 38 bytes refl (omega arith))
            (has_then (has_run b 38 (node_origin_start dim - 38) (node_origin_start dim) (omega arith))
            (has_longs dim b (node_origin_start dim) (node_end dim) bytes e2 within));
        good = record {
          word = word_below b 36 bytes;
          before = subst (λ (n : ℕ). IsRun n (take (node_origin_start dim - 38) (drop 38 b))) run
              (run_good b 38 (node_origin_start dim - 38) bytes (omega arith));
          point = longs_on_plane dim b (node_origin_start dim) bytes;
        };
        form = refl;
      }

  pub cell_spelled : end_in Form.Cell dim b ≤ length b → AreSpelled Form.Cell dim b (parts_at Form.Cell dim b)
  unfolding parts_bytes parts_at end_in
  cell_spelled within =
      let e1 = cell_end_is axes in
      let origin = cell_origin axes b in
      record {
        bytes = has_then (has_word b 36 38 bytes refl (omega arith))
            (has_then (has_then (has_word b 38 40 bytes refl (omega arith)) (has_then (has_word b 40 42 bytes refl (omega arith)) has_none))
            (has_then (has_run b 42 (cell_run dim) (42 + cell_run dim) refl)
            (has_same (ap point_bytes (sym origin)) (has_longs dim b (42 + cell_run dim) (cell_end dim) bytes e1 within))));
        good = record {
          word = word_below b 36 bytes;
          name_long = refl;
          name_words = (word_below b 38 bytes, (word_below b 40 bytes, tt));
          before = run_good b 42 (cell_run dim) bytes (omega arith);
          point = subst (IsPoint dim) (sym origin) (longs_on_plane dim b (42 + cell_run dim) bytes);
        };
        form = refl;
      }

  pub header_spelled : end_in Form.Header dim b ≤ length b → AreSpelled Form.Header dim b (parts_at Form.Header dim b)
  unfolding parts_bytes parts_at end_in
  header_spelled within = record {
    bytes = has_then (has_word b 36 38 bytes refl (omega arith)) (has_word b 38 40 bytes refl within);
    good = (word_below b 36 bytes, word_below b 38 bytes);
    form = refl;
  }

  pub plain_spelled : AreSpelled Form.Plain dim b (parts_at Form.Plain dim b)
  unfolding parts_bytes parts_at end_in
  plain_spelled = record { bytes = has_none; good = tt; form = refl }

-- the parts are read where they are spelled, and the body ends behind them
pub record AreRead (dim : ℕ) (b : List ℕ) (parts : Parts) (q : ℕ) : Type 0 where
  pub same : parts_at (form_of_parts parts) dim b ≡ parts
  pub ends : end_in (form_of_parts parts) dim b ≡ q

module _ (dim : ℕ) (b : List ℕ) (q : ℕ) (axes : IsDimension dim) where
  line_read : (points : List (List ℤ)) → HasParts dim (Line points) → form_of (kind_of b) ≡ Form.Line → q ≡ 36 + length (parts_bytes (Line points))
      → Has b 36 (parts_bytes (Line points)) q → AreRead dim b (Line points) q
  unfolding parts_bytes parts_at end_in
  line_read points good f at h =
      let three : (kind_of b == 3) ≡ true = is_line (kind_of b) f in
      let same : points_at 2 dim b 36 ≡ points = points_are 2 dim points good.0 good.1 h in
      let long = length-points_bytes dim points good.1 in
      let two = good.0 in
      record {
        same = ap Line (line_points (kind_of b) dim b three ∙ same);
        ends = line_end (kind_of b) dim b three ∙ sym (rw two at (at ∙ ap (λ (n : ℕ). 36 + n) long));
      }

  points_read : (points : List (List ℤ)) → HasParts dim (Points points) → form_of (kind_of b) ≡ Form.Points → q ≡ 36 + length (parts_bytes (Points points))
      → Has b 36 (parts_bytes (Points points)) q → AreRead dim b (Points points) q
  unfolding parts_bytes parts_at end_in
  points_read points good f at h =
      let other : (kind_of b == 3) ≡ false = is_points (kind_of b) f in
      let two = has_first {b = b} {x = word_bytes (length points)} 38 refl h in
      let count : word_at b 36 ≡ length points = word_is two.0 good.0 in
      let same : points_at (word_at b 36) dim b 38 ≡ points = points_are (word_at b 36) dim points (sym count) good.1 two.1 in
      let long : length (flat_map point_bytes points) ≡ 4 * dim * length points = length-points_bytes dim points good.1 in
      let place : q ≡ 38 + length (flat_map point_bytes points) = omega arith in
      record {
        same = ap Points (row_points (kind_of b) dim b other ∙ same);
        ends = row_end (kind_of b) dim b other ∙ ap (λ (n : ℕ). 38 + 4 * dim * n) count ∙ ap (λ (n : ℕ). 38 + n) (sym long) ∙ sym place;
      }

  text_read : (run : List ℕ) (origin : List ℤ) (spare : ℕ) (chars : List ℕ) → IsText dim run origin spare chars
      → q ≡ 36 + length (parts_bytes (Text run origin spare chars)) → Has b 36 (parts_bytes (Text run origin spare chars)) q
      → AreRead dim b (Text run origin spare chars) q
  unfolding parts_bytes parts_at end_in
  text_read run origin spare chars good at h =
      let e1 = text_origin axes in
      let e2 = text_count axes in
      let e3 = text_chars axes in
      let r = good.before.long in
      let l = length-point_bytes origin in
      let n = good.point.long in
      let one = has_first {b = b} {x = run} (origin_start dim) (omega arith) h in
      let two = has_first {b = b} {x = point_bytes origin} (chars_count_place dim) (omega arith) one.1 in
      let three = has_first {b = b} {x = length chars ∷ spare ∷ []} (chars_start dim) e3 two.1 in
      let count : chars_count dim b ≡ length chars = index_is 0 (chars_count_place dim) (omega arith) (omega arith) three.0 in
      let f1 : take (origin_start dim - 36) (drop 36 b) ≡ run = run_is (origin_start dim - 36) (omega arith) one.0 in
      let f2 : origin_of dim b ≡ origin = longs_are dim good.point two.0 in
      let f3 : get_or b (chars_count_place dim + 1) 0 ≡ spare = index_is 1 (chars_count_place dim + 1) refl (omega arith) three.0 in
      let f4 : chars_of dim b ≡ chars = run_is (chars_count dim b) (sym count) three.1 in
      let size = length-append run (point_bytes origin ++ (length chars ∷ spare ∷ chars)) in
      let size2 = length-append (point_bytes origin) (length chars ∷ spare ∷ chars) in
      record { same = cc; ends = omega arith }

  node_read : (total : ℕ) (run : List ℕ) (origin : List ℤ) → IsNode dim total run origin → q ≡ 36 + length (parts_bytes (Node total run origin))
      → Has b 36 (parts_bytes (Node total run origin)) q → AreRead dim b (Node total run origin) q
  unfolding parts_bytes parts_at end_in
  node_read total run origin good at h =
      let e1 = node_origin axes in
      let e2 = node_end_is axes in
      let r = good.before.long in
      let l = length-point_bytes origin in
      let n = good.point.long in
      let one = has_first {b = b} {x = word_bytes total} 38 refl h in
      let two = has_first {b = b} {x = run} (node_origin_start dim) (omega arith) one.1 in
      let f1 : total_at b ≡ total = word_is one.0 good.word in
      let f2 : take (node_origin_start dim - 38) (drop 38 b) ≡ run = run_is (node_origin_start dim - 38) (omega arith) two.0 in
      let f3 : node_origin_of dim b ≡ origin = longs_are dim good.point two.1 in
      let size = length-append run (point_bytes origin) in
      record { same = cc; ends = omega arith }

  header_read : (total number : ℕ) → HasParts dim (Header total number) → q ≡ 36 + length (parts_bytes (Header total number))
      → Has b 36 (parts_bytes (Header total number)) q → AreRead dim b (Header total number) q
  unfolding parts_bytes parts_at end_in
  header_read total number good at h =
      let one = has_first {b = b} {x = word_bytes total} 38 refl h in
      let f1 : total_at b ≡ total = word_is one.0 good.0 in
      let f2 : number_at b ≡ number = word_is one.1 good.1 in
      record { same = cc; ends = omega arith }

  cell_read : (total : ℕ) (name : List ℕ) (run : List ℕ) (origin : List ℤ) → IsCell dim total name run origin
      → q ≡ 36 + length (parts_bytes (Cell total name run origin)) → Has b 36 (parts_bytes (Cell total name run origin)) q
      → AreRead dim b (Cell total name run origin) q
  unfolding parts_bytes parts_at end_in
  cell_read total [] run origin good at h = absurd (omega (arith, good.name_long))
  cell_read total (v ∷ []) run origin good at h = absurd (omega (arith, good.name_long))
  cell_read total (v ∷ w ∷ x ∷ more) run origin good at h = absurd (omega (arith, good.name_long))
  cell_read total (v ∷ w ∷ []) run origin good at h =
      let e1 = cell_end_is axes in
      let r = good.before.long in
      let l = length-point_bytes origin in
      let n = good.point.long in
      let one = has_first {b = b} {x = word_bytes total} 38 refl h in
      let two = has_first {b = b} {x = flat_map word_bytes (v ∷ w ∷ [])} 42 refl one.1 in
      let first = has_first {b = b} {x = word_bytes v} 40 refl two.0 in
      let three = has_first {b = b} {x = run} (42 + cell_run dim) (omega arith) two.1 in
      let f1 : total_at b ≡ total = word_is one.0 good.word in
      let f2 : word_at b 38 ≡ v = word_is first.0 good.name_words.0 in
      let f3 : word_at b 40 ≡ w = word_is (has_first {b = b} {x = word_bytes w} 42 refl first.1).0 good.name_words.1.0 in
      let f4 : take (cell_run dim) (drop 42 b) ≡ run = run_is (cell_run dim) r three.0 in
      let f5 : origin_at dim b ≡ origin = cell_origin axes b ∙ longs_are dim good.point three.1 in
      let size = length-append run (point_bytes origin) in
      record { same = cc; ends = omega arith }

  pub parts_read : (parts : Parts) → HasParts dim parts → form_of (kind_of b) ≡ form_of_parts parts → q ≡ 36 + length (parts_bytes parts)
      → Has b 36 (parts_bytes parts) q → AreRead dim b parts q
  unfolding parts_bytes parts_at end_in
  parts_read (Line points) good f at h = line_read points good f at h
  parts_read (Points points) good f at h = points_read points good f at h
  parts_read (Text run origin spare chars) good f at h = text_read run origin spare chars good at h
  parts_read (Node total run origin) good f at h = node_read total run origin good at h
  parts_read (Cell total name run origin) good f at h = cell_read total name run origin good at h
  parts_read (Header total number) good f at h = header_read total number good at h
  parts_read Plain good f at h = record { same = refl; ends = sym at }
