-- What is kept of the first elements tells the lists that they stand in, and grows by one place at a time.
use Rattle.std.proofs.Common.{◌≡◌, ℕ, ◌+◌, ◌-◌, ◌≤◌, ◌<◌, List, [], ◌∷◌, ◌++◌, length, take, drop, map, get_or, sym, ap, ◌∙◌, arith}
use Rattle.std.specs.Prelude.{Option, None}
use Rattle.std.proofs.lemmas.List.{get_or-map, get_or-take, length-map, length-take, map_push, append-nil, take_rest, drop-drop, length-drop}
use Rattle.dgn_drawing.specs.declared.row.Row.{Row}
use Rattle.dgn_drawing.specs.Nesting as nesting
use Rattle.dgn_drawing.specs.Nesting.{Whole, itself, nest}
use Rattle.dgn_drawing.specs.Numbering.{Mark, marks}
use Rattle.nest_tree.specs.declared.knot.Knot.{Knot}
use Rattle.nest_tree.specs.NestEntries.{NestEntry}
use Rattle.nest_tree.specs.declared.shape.Shape as code
use Rattle.nest_tree.specs.declared.open_list.OpenList.{OpenList}
use Rattle.nest_tree.specs.Shapes.{code_knot, code_shape, shape_in, rows_between, IsBetween}
use Rattle.nest_tree.specs.Places.{marks_in, entry_of, ArePlaces, end_in, parent_in, depth_in, knot_in, kind_in, list_in, resume, Going}
use Rattle.nest_tree.specs.Sources.{no_row}
use Rattle.nest_tree.proofs.ListStacks.{length-marks_in, take_marks, end_read, entry_read, going_ends, mark_read}

abbrev pub no_mark : Mark
no_mark = record { knot = nesting.Leaf; depth = 0; parent = None; end = 0 }

module _ (rows : List Row) (n : ℕ) (ends : List ℕ) (entries : List NestEntry) (places : ArePlaces rows n ends entries) where
  pub length-ends : length ends ≡ n
  length-ends =
      let within = places.within in
      ap (length {A = ℕ}) places.ends_are ∙ length-map (take n (marks_in rows)) (λ (m : Mark). m.end)
      ∙ omega (arith, length-take n (marks_in rows), length-marks_in rows)

  pub length-entries : length entries ≡ n
  length-entries =
      let within = places.within in
      ap (length {A = NestEntry}) places.entries_are ∙ length-map (take n (marks_in rows)) entry_of
      ∙ omega (arith, length-take n (marks_in rows), length-marks_in rows)

  -- what is kept at one place is what the marks say there
  kept_at : {B : Type 0} (f : Mark → B) (i : ℕ) (d e : B) → i < n → get_or (map f (take n (marks_in rows))) i d ≡ get_or (map f (marks_in rows)) i e
  kept_at f i d e before =
      let within = places.within in
      let long = length-marks_in rows in
      let inner : i < length (take n (marks_in rows)) = omega (arith, length-take n (marks_in rows)) in
      get_or-map f (take n (marks_in rows)) i no_mark d inner ∙ ap f (get_or-take n (marks_in rows) i no_mark before)
      ∙ sym (get_or-map f (marks_in rows) i no_mark e (omega arith))

  pub end_at : (i : ℕ) (d : ℕ) → i < n → get_or ends i d ≡ end_in rows i
  end_at i d before = ap (λ (l : List ℕ). get_or l i d) places.ends_are ∙ kept_at (λ (m : Mark). m.end) i d 0 before

  mark_at : ℕ → Mark
  mark_at i = get_or (marks_in rows) i no_mark

  said_at : {B : Type 0} (f : Mark → B) (i : ℕ) (e : B) → i < n → get_or (map f (marks_in rows)) i e ≡ f (mark_at i)
  unfolding mark_at
  said_at f i e before = let within = places.within in get_or-map f (marks_in rows) i no_mark e (omega (arith, length-marks_in rows))

  pub entry_at : (i : ℕ) (d : NestEntry) → i < n → get_or entries i d ≡ record { parent = parent_in rows i; depth = depth_in rows i; knot = knot_in rows i }
  entry_at i d before =
      ap (λ (l : List NestEntry). get_or l i d) places.entries_are ∙ kept_at entry_of i d (entry_of no_mark) before
      ∙ said_at entry_of i (entry_of no_mark) before
      ∙ ap (λ (o : Option ℕ). record { parent = o; depth = (mark_at i).depth; knot = code_knot (mark_at i).knot })
      (sym (said_at (λ (m : Mark). m.parent) i None before))
      ∙ ap (λ (k : ℕ). record { parent = parent_in rows i; depth = k; knot = code_knot (mark_at i).knot }) (sym (said_at (λ (m : Mark). m.depth) i 0 before))
      ∙ ap (λ (k : Knot). record { parent = parent_in rows i; depth = depth_in rows i; knot = k })
      (sym (said_at (λ (m : Mark). code_knot m.knot) i Knot.Leaf before))

pub kind_at : (rows : List Row) (i : ℕ) → i < length rows → (get_or rows i no_row).kind ≡ kind_in rows i
kind_at rows i within = sym (get_or-map (λ (r : Row). r.kind) rows i no_row 0 within)

-- reading begins where what is left nests apart
pub begins : (rows : List Row) (n : ℕ) (f : OpenList) → n ≤ length rows → f ≡ list_in rows None 0
    → drop n (marks_in rows) ≡ marks (nest itself Whole (drop n rows)) n 0 None → Going rows n f
begins rows n f within is apart = record {
  stack = [];
  stands = is;
  left = apart ∙ ap (λ (l : List Row). marks (nest itself Whole l) n 0 None) (sym (take_rest rows n))
      ∙ sym (append-nil (marks (nest itself Whole (take (length rows - n) (drop n rows))) n 0 None))
      ∙ ap (λ (x : OpenList). resume (x ∷ []) n (drop n rows)) (sym is);
}

-- one element more has its place
module _ (rows : List Row) (at : ℕ) (f : OpenList) (going : Going rows at f) (inside : at < f.end) (s : code.Shape)
    (is : s ≡ code_shape (shape_in f.scope (rows_between rows at f.end))) (ends : List ℕ) (entries : List NestEntry)
    (places : ArePlaces rows at ends entries) where
  pub one_more : ArePlaces rows (at + 1) (ends ++ (at + 1 + s.count) ∷ []) (entries ++ record { parent = f.parent; depth = f.depth; knot = s.knot } ∷ [])
  one_more =
      let bound = going_ends rows at f going in
      record {
        within = omega arith;
        ends_are = ap (λ (l : List ℕ). l ++ (at + 1 + s.count) ∷ []) places.ends_are
            ∙ ap (λ (n : ℕ). map (λ (m : Mark). m.end) (take at (marks_in rows)) ++ n ∷ []) (sym (end_read rows at f going inside s is))
            ∙ sym (map_push (λ (m : Mark). m.end) (take at (marks_in rows)) (mark_read rows at f going inside))
            ∙ ap (map (λ (m : Mark). m.end)) (sym (take_marks rows at f going inside));
        entries_are = ap (λ (l : List NestEntry). l ++ record { parent = f.parent; depth = f.depth; knot = s.knot } ∷ []) places.entries_are
            ∙ ap (λ (x : NestEntry). map entry_of (take at (marks_in rows)) ++ x ∷ []) (sym (entry_read rows at f going inside s is))
            ∙ sym (map_push entry_of (take at (marks_in rows)) (mark_read rows at f going inside))
            ∙ ap (map entry_of) (sym (take_marks rows at f going inside));
      }

-- what stands for an entry past the end
abbrev pub no_entry : NestEntry
no_entry = record { parent = None; depth = 0; knot = Knot.Leaf }

-- the parent and the depth of an element, by what is kept of it
module _ (rows : List Row) (n : ℕ) (ends : List ℕ) (entries : List NestEntry) (places : ArePlaces rows n ends entries) (i : ℕ) (before : i < n) where
  pub parent_is : (get_or entries i no_entry).parent ≡ parent_in rows i
  parent_is = ap (λ (x : NestEntry). x.parent) (entry_at rows n ends entries places i no_entry before)

  pub depth_is : (get_or entries i no_entry).depth ≡ depth_in rows i
  depth_is = ap (λ (x : NestEntry). x.depth) (entry_at rows n ends entries places i no_entry before)

-- one element is read on, by the rows from number `first` on
module _ (rows new : List Row) (first : ℕ) (are : new ≡ drop first rows) (at : ℕ) (f : OpenList) (going : Going rows at f) (inside : at < f.end)
    (few : length rows < 4294967295) (from : first ≤ at) where
  pub between : IsBetween new (at - first) (f.end - first)
  between =
      let bound = going_ends rows at f going in
      let long : length new ≡ length rows - first = ap (length {A = Row}) are ∙ length-drop first rows in
      record { some = omega arith; bounds = omega arith; few = omega arith }

  same_between : rows_between new (at - first) (f.end - first) ≡ rows_between rows at f.end
  same_between =
      let count : f.end - first - (at - first) ≡ f.end - at = omega arith in
      let place : first + (at - first) ≡ at = omega arith in
      ap (λ (l : List Row). take (f.end - first - (at - first)) (drop (at - first) l)) are
      ∙ ap (take (f.end - first - (at - first))) (drop-drop (at - first) first rows ∙ ap (λ (k : ℕ). drop k rows) place)
      ∙ ap (λ (k : ℕ). take k (drop at rows)) count

  -- so the shape that they tell is the one of all rows
  pub shaped : (s : code.Shape) → s ≡ code_shape (shape_in f.scope (rows_between new (at - first) (f.end - first)))
      → s ≡ code_shape (shape_in f.scope (rows_between rows at f.end))
  shaped s is = is ∙ ap (λ (l : List Row). code_shape (shape_in f.scope l)) same_between
