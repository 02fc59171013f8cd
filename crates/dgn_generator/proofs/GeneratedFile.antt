-- A generated drawing opens as its elements.
use Rattle.std.proofs.Common.{◌≡◌, ℕ, zero, suc, ◌+◌, ◌-◌, ◌*◌, ◌/◌, ◌%◌, ◌^◌, ◌<◌, ◌≤◌, Bool, true, false, cond, List, [], ◌∷◌, ◌++◌, length, replicate}
use Rattle.std.proofs.Common.{get_or, refl, sym, ap, ◌∙◌, subst, inl, append_assoc, arith, length-append}
use Rattle.std.specs.Prelude.{pos, ◌==◌, ◌&&◌, nat_le, codes}
use Rattle.std.specs.List.{AllByRecursion}
use Rattle.std.proofs.lemmas.Int.{ints}
use Rattle.std.proofs.lemmas.Bool.Decides.{nat_tests}
use Rattle.std.proofs.lemmas.List.{get_or_append_left, append-nil}
use Rattle.std.proofs.lemmas.List.Concat.{flat_map-append}
use Rattle.std.proofs.lemmas.List.Elements.{All-nil, All-cons}
use Rattle.dgn_drawing.specs.declared.new_shape.NewShape.{NewShape}
use Rattle.dgn_drawing.specs.declared.new_shape.NewShape.TheVariants as shapes
use Rattle.dgn_drawing.specs.Forms.{form_of}
use Rattle.dgn_drawing.specs.Element.{Element}
use Rattle.dgn_drawing.specs.Spelling.{first_byte, second_byte, display_bytes, parts_bytes, body_bytes, spell, spelling}
use Rattle.dgn_drawing.specs.WellFormed.{IsBytes, IsCoordinate, IsWellFormed}
use Rattle.dgn_drawing.specs.NewElements.{NewElement, IsPointFor, IsShapeFor, IsNew, size_made, element_made}
use Rattle.dgn_drawing.specs.Opening.{dimension, IsTcb}
use Rattle.dgn_drawing.proofs.MadeElements.{made_good}
use Rattle.dgn_generator.specs.Generator.{next_state, number_of, point, new_at, member_of, shape_at, cell_header, cell, tree, tree_drawn, trees_within}
use Rattle.dgn_generator.specs.Generator.{blank_tcb, generated_elements, generated, GeneratedDrawingsOpen}
use Rattle.dgn_generator.proofs.DrawingGrows.{none_left, one_more}

-- a number that is drawn is below 2 ^ 20, and so is far within the plane
drawn_small : (s : ℕ) → number_of (next_state s) < 2 ^ 20
drawn_small s = omega arith

near : (n : ℕ) → n < 2 ^ 21 → IsCoordinate (pos n)
near n small = grind (arith, ints, nat_tests)

-- so a point near two such numbers is one of the plane
point_good : (x y : ℕ) → x < 2 ^ 21 → y < 2 ^ 21 → IsPointFor 2 (point x y)
point_good x y right up = record {
  numbers = record { long = refl; on_plane = (near x right, (near y up, (refl, tt))) };
  flat = λ two. refl;
}

-- what holds of either of two holds of the one that a test chooses
either : {A : Type 0} (P : A → Type 0) (test : Bool) (a b : A) → P a → P b → P (cond test a b)
either P true a b one two = one
either P false a b one two = two

-- zero bytes are bytes
zeros_good : (n : ℕ) → IsBytes (replicate n 0)
zeros_good zero = All-nil (λ x. x < 256)
zeros_good (suc n) = All-cons (λ x. x < 256) 0 (replicate n 0) (omega arith) (zeros_good n)

-- two bytes of which the second isn't FF are no mark of the end
second_differs : (x y : ℕ) → y < 255 → (x == 255 && y == 255) ≡ false
second_differs x y small = grind (arith, nat_tests)

module _ (i x y : ℕ) (right : x < 2 ^ 20) (up : y < 2 ^ 20) where
  -- an element of a shape for two axes is new
  shape_new : (shape : NewShape) → IsShapeFor 2 shape → IsNew (new_at i shape)
  shape_new shape good = record { level = omega arith; color = omega arith; weight = omega arith; style = omega arith; axes = inl refl; shape = good }

  -- a line to a point near
  line_new : (width height : ℕ) → width ≤ 100 → height ≤ 100 → IsShapeFor 2 (shapes.Line (point x y ∷ point (x + width) (y + height) ∷ []))
  line_new width height wide high = record {
    enough = omega arith;
    few = omega arith;
    each = (point_good x y (omega arith) (omega arith), (point_good (x + width) (y + height) (omega arith) (omega arith), tt));
  }

  -- a shape for two axes whose element has few bytes
  IsSmallShape : NewShape → Type 0
  IsSmallShape shape = IsShapeFor 2 shape × (size_made 2 shape ≤ 70)

  -- the shapes that take turns are
  chosen_small : IsSmallShape (shape_at i x y)
  unfolding IsSmallShape
  chosen_small =
      let a = point_good x y (omega arith) (omega arith) in
      let b = point_good (x + 10) y (omega arith) (omega arith) in
      let c = point_good (x + 10) (y + 10) (omega arith) (omega arith) in
      let d = point_good (x + 20) y (omega arith) (omega arith) in
      let e = point_good (x + 20) (y + 20) (omega arith) (omega arith) in
      let chain : IsSmallShape (shapes.Chain (point x y ∷ point (x + 10) y ∷ point (x + 10) (y + 10) ∷ [])) =
      (record { enough = omega arith; few = omega arith; each = (a, (b, (c, tt))) }, omega arith) in
      let ring : IsSmallShape (shapes.Shape (point x y ∷ point (x + 20) y ∷ point (x + 20) (y + 20) ∷ point x y ∷ [])) =
      (record { enough = omega arith; few = omega arith; each = (a, (d, (e, (a, tt)))) }, omega arith) in
      let text : IsSmallShape (shapes.Text 1 0 (pos 1000) (pos 1000) (point x y) (codes "DGN")) = (
        record {
          font_byte = omega arith;
          just_byte = omega arith;
          length_long = refl;
          length_up = omega (arith, ints);
          height_long = refl;
          height_up = omega (arith, ints);
          point = a;
          some = omega arith;
          few = omega arith;
          bytes = All-cons (λ z. z < 256) 68 (71 ∷ 78 ∷ []) (omega arith)
              (All-cons (λ z. z < 256) 71 (78 ∷ []) (omega arith) (All-cons (λ z. z < 256) 78 [] (omega arith) (All-nil (λ z. z < 256))));
        },
        omega arith,
      ) in
      either IsSmallShape (i % 4 == 0) _ _ (line_new 100 50 (omega arith) (omega arith), omega arith)
      (either IsSmallShape (i % 4 == 1) _ _ chain (either IsSmallShape (i % 4 == 2) _ _ ring text))

  -- a line with bit C is well formed
  member_good : (width height : ℕ) → width ≤ 100 → height ≤ 100
      → IsWellFormed 2 (member_of (new_at i (shapes.Line (point x y ∷ point (x + width) (y + height) ∷ []))))
  unfolding spell
  member_good width height wide high =
      let new : NewElement = new_at i (shapes.Line (point x y ∷ point (x + width) (y + height) ∷ [])) in
      let good = (made_good new (shape_new new.shape (line_new width height wide high))).good in
      record {
        level = good.level;
        kind = good.kind;
        form = good.form;
        parts = good.parts;
        even = good.even;
        small = good.small;
        no_mark = second_differs (first_byte (member_of new)) (second_byte (element_made new)) (omega arith);
        attributes = good.attributes;
      }

  -- and so is the header of a cell
  header_good : IsWellFormed 2 (cell_header i x y)
  unfolding spell body_bytes parts_bytes display_bytes form_of
  header_good = record {
    level = omega arith;
    kind = omega arith;
    form = refl;
    parts = (
      record {
        low = (point_good x y (omega arith) (omega arith)).numbers;
        high = (point_good (x + 30) (y + 30) (omega arith) (omega arith)).numbers;
        group = omega arith;
        index = omega arith;
        properties = omega arith;
        style = omega arith;
        weight = omega arith;
        color = omega arith;
      },
      record {
        word = omega arith;
        name_long = refl;
        name_words = (omega arith, (omega arith, tt));
        before = record { long = refl; bytes = zeros_good 42 };
        point = record { long = refl; on_plane = (near x (omega arith), (near y (omega arith), tt)) };
      },
      All-nil (λ z. z < 256),
    );
    even = refl;
    small = omega arith;
    no_mark = second_differs (first_byte (cell_header i x y)) 2 (omega arith);
    attributes = λ says. absurd (cc);
  }

-- elements of a tree where so many are left to make
record IsTree (left : ℕ) (es : List Element) : Type 0 where
  some : 1 ≤ length es
  few : length es ≤ left
  good : AllByRecursion (IsWellFormed 2) es
  small : length (spelling es) ≤ 70 * length es

module _ (left i x y : ℕ) (right : x < 2 ^ 20) (up : y < 2 ^ 20) where
  -- a cell is a tree where three are left
  cell_tree : 3 ≤ left → IsTree left (cell i x y)
  unfolding spell body_bytes parts_bytes display_bytes
  cell_tree three =
      let zero_x : x + 0 ≡ x = omega arith in
      let zero_y : y + 0 ≡ y = omega arith in
      let one = subst (λ (v : ℕ). IsWellFormed 2 (member_of (new_at i (shapes.Line (point x y ∷ point (x + 30) v ∷ []))))) zero_y
      (member_good i x y right up 30 0 (omega arith) (omega arith)) in
      let two = subst (λ (v : ℕ). IsWellFormed 2 (member_of (new_at i (shapes.Line (point x y ∷ point v (y + 30) ∷ []))))) zero_x
      (member_good i x y right up 0 30 (omega arith) (omega arith)) in
      record { some = omega arith; few = three; good = (header_good i x y right up, (one, (two, tt))); small = omega arith }

  -- and one element where one is
  one_tree : 1 ≤ left → IsTree left (element_made (new_at i (shape_at i x y)) ∷ [])
  unfolding IsSmallShape
  one_tree one =
      let shape : NewShape = shape_at i x y in
      let chosen = chosen_small i x y right up in
      let fine = made_good (new_at i shape) (shape_new i x y right up shape chosen.0) in
      let long : length (spelling (element_made (new_at i shape) ∷ [])) ≡ size_made 2 shape =
      ap (length {A = ℕ}) (append-nil (spell (element_made (new_at i shape)))) ∙ fine.size in
      let small = chosen.1 in
      record { some = omega arith; few = one; good = (fine.good, tt); small = omega arith }

  -- so each tree is one
  chosen_tree : (first large : Bool) → 1 ≤ left → (large ≡ true → 3 ≤ left)
      → IsTree left (cond (first && large) (cell i x y) (element_made (new_at i (shape_at i x y)) ∷ []))
  chosen_tree true true one three = cell_tree (three refl)
  chosen_tree true false one three = one_tree one
  chosen_tree false large one three = one_tree one

  tree_good : 1 ≤ left → IsTree left (tree left i x y)
  tree_good one = chosen_tree (i % 16 == 0) (nat_le 3 left) one (λ large. grind (arith, nat_tests))

-- elements of trees where so many were left to make
record AreTrees (left : ℕ) (es : List Element) : Type 0 where
  number : length es ≡ left
  good : AllByRecursion (IsWellFormed 2) es
  small : length (spelling es) ≤ 70 * left

-- a tree before trees
each_both : (es more : List Element) → AllByRecursion (IsWellFormed 2) es → AllByRecursion (IsWellFormed 2) more → AllByRecursion (IsWellFormed 2) (es ++ more)
each_both [] more first last = last
each_both (e ∷ es) more first last = (first.0, each_both es more first.1 last)

before_trees : (left : ℕ) (es more : List Element) → IsTree left es → AreTrees (left - length es) more → AreTrees left (es ++ more)
before_trees left es more tree trees =
    let few = tree.few in
    let small = tree.small in
    let number = trees.number in
    let behind = trees.small in
    let both : length (spelling (es ++ more)) ≡ length (spelling es) + length (spelling more) =
    ap (length {A = ℕ}) (flat_map-append spell es more) ∙ length-append (spelling es) (spelling more) in
    record {
      number = length-append es more ∙ omega arith;
      good = each_both es more tree.good trees.good;
      small = omega arith;
    }

-- trees are drawn until no element is left to make
trees_good : (n left i s : ℕ) → left ≤ n → AreTrees left (trees_within n left i s)
trees_good n zero i s enough = subst (AreTrees 0) (sym (none_left n i s)) (record { number = refl; good = tt; small = omega arith })
trees_good zero (suc left) i s enough = absurd (omega arith)
trees_good (suc n) (suc left) i s enough =
    let es : List Element = tree_drawn (suc left) i s in
    let good : IsTree (suc left) es =
    tree_good (suc left) i (number_of (next_state s)) (number_of (next_state (next_state s))) (drawn_small s) (drawn_small (next_state s))
    (omega arith) in
    let some = good.some in
    subst (AreTrees (suc left)) (sym (one_more n (suc left) i s (omega arith)))
    (before_trees (suc left) es (trees_within n (suc left - length es) (i + length es) (next_state (next_state s))) good
    (trees_good n (suc left - length es) (i + length es) (next_state (next_state s)) (omega arith)))

-- the TCB is well formed
tcb_good : IsWellFormed 2 blank_tcb
unfolding blank_tcb spell body_bytes form_of
tcb_good = record {
  level = omega arith;
  kind = omega arith;
  form = refl;
  parts = zeros_good 1532;
  even = refl;
  small = omega arith;
  no_mark = refl;
  attributes = tt;
}

tcb_long : length (spell blank_tcb) ≡ 1536
unfolding blank_tcb spell body_bytes
tcb_long = refl

-- and its byte 1214 is 0
tcb_flat : get_or (spell blank_tcb) 1214 0 ≡ 0
unfolding blank_tcb spell body_bytes
tcb_flat = refl

tcb_begins : IsTcb blank_tcb
unfolding blank_tcb spell body_bytes
tcb_begins = record { silent = refl; begins = refl }

dimension-generated : (behind : List ℕ) → 2 ≡ dimension (spell blank_tcb ++ behind)
dimension-generated behind =
    let long = tcb_long in
    let byte : get_or (spell blank_tcb ++ behind) 1214 0 ≡ 0 = get_or_append_left (spell blank_tcb) behind 0 1214 (omega arith) ∙ tcb_flat in
    sym (ap (λ (b : ℕ). cond (b / 64 % 2 == 1) 3 2) byte)

-- the law on generated drawings
pub generated_opens : GeneratedDrawingsOpen
unfolding generated_elements
generated_opens seed count few =
    let es : List Element = trees_within count count 0 seed in
    let trees : AreTrees count es = trees_good count count 0 seed (omega arith) in
    let number = trees.number in
    let small = trees.small in
    let first = tcb_long in
    let mark : List ℕ = 255 ∷ 255 ∷ [] in
    let whole : length (generated seed count) ≡ length (spell blank_tcb) + length (spelling es) + 2 =
    length-append (spell blank_tcb ++ spelling es) mark ∙ ap (λ (n : ℕ). n + 2) (length-append (spell blank_tcb) (spelling es)) in
    record {
      opens = record {
        whole = refl;
        each = (tcb_good, trees.good);
        first = tcb_begins;
        tail = refl;
        axes = dimension-generated (spelling es ++ mark) ∙ ap dimension (sym (append_assoc (spell blank_tcb) (spelling es) mark));
      };
      number = omega arith;
      few = omega arith;
    }
