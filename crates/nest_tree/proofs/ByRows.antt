-- Nesting looks at rows alone: the trees of the rows of elements are the rows of the trees of the elements.
use Rattle.std.proofs.Common.{◌≡◌, ℕ, zero, suc, ◌+◌, ◌-◌, ◌≤◌, List, [], ◌∷◌, ◌++◌, length, take, drop, map, refl, sym, ap, ◌∙◌, arith, Bool, cond}
use Rattle.std.specs.Prelude.{Option, Some, None, option_map, ◌==◌, ◌&&◌, nat_le}
use Rattle.std.proofs.lemmas.List.{take-map, drop-map, length-map, map-append, length-drop, length-take}
use Rattle.dgn_drawing.specs.declared.row.Row.{Row}
use Rattle.dgn_drawing.specs.Nesting.{Scope, Whole, whole_of, filling, member_count, front_count, is_spline_part, has_bit, Shape, shape_of, shape, Leaf}
use Rattle.dgn_drawing.specs.Nesting.{Forest, NoTree, Tree, nest, forest, forest_map, flat, itself}
use Rattle.dgn_drawing.specs.Numbering.{Mark, end_of, marks}
use Rattle.nest_tree.proofs.NestingSteps.{nest_cons, nest_nil}

module _ {A : Type 0} (row : A → Row) where
  front_rows : (test : Row → Bool) (l : List A) → front_count (λ e. test (row e)) l ≡ front_count test (map row l)
  front_rows test [] = refl
  front_rows test (e ∷ l) = ap (λ (k : ℕ). cond (test (row e)) (suc k) 0) (front_rows test l)

  filling_rows : (bytes : ℕ) (l : List A) → filling row bytes l ≡ filling itself bytes (map row l)
  filling_rows bytes [] = refl
  filling_rows bytes (e ∷ l) =
      ap (λ (o : Option ℕ). cond (bytes == 0) (Some 0) (cond ((row e).cbit && nat_le (row e).size bytes) (option_map suc o) None))
      (filling_rows (bytes - (row e).size) l)

  shape_rows : (scope : Scope) (h : A) (r : List A) → shape row scope h r ≡ shape itself scope (row h) (map row r)
  shape_rows scope h r =
      let members = ap (λ (o : Option ℕ). cond (nat_le (row h).size (whole_of (row h))) o None) (filling_rows (whole_of (row h) - (row h).size) r) in
      ap (λ (o : Option ℕ). shape_of scope (row h) o (front_count (λ e. is_spline_part (row e)) r) (front_count (λ e. has_bit (row e)) r)) members
      ∙ ap (λ (k : ℕ). shape_of scope (row h) (member_count itself (row h) (map row r)) k (front_count (λ e. has_bit (row e)) r)) (front_rows is_spline_part r)
      ∙ ap (λ (k : ℕ). shape_of scope (row h) (member_count itself (row h) (map row r)) (front_count is_spline_part (map row r)) k) (front_rows has_bit r)

  nest_rows_in : (n : ℕ) (scope : Scope) (l : List A) → length l ≤ n → forest_map row (nest row scope l) ≡ nest itself scope (map row l)
  nest_rows_in n scope [] short = ap (forest_map row) (nest_nil row scope) ∙ sym (nest_nil itself scope)
  nest_rows_in zero scope (h ∷ r) short = absurd (omega arith)
  nest_rows_in (suc n) scope (h ∷ r) short =
      let s = shape row scope h r in
      let k = (shape row scope h r).count in
      let below = nest_rows_in n (shape row scope h r).inside (take k r) (omega (arith, length-take k r)) in
      let behind = nest_rows_in n scope (drop k r) (omega (arith, length-drop k r)) in
      ap (forest_map row) (nest_cons row scope h r)
      ∙ ap (λ (f : Forest Row). Tree (shape row scope h r).knot (row h) f (forest_map row (nest row scope (drop k r)))) below
      ∙ ap (λ (f : Forest Row). Tree (shape row scope h r).knot (row h) (nest itself (shape row scope h r).inside (map row (take k r))) f) behind
      ∙ ap (λ (x : List Row). Tree (shape row scope h r).knot (row h) (nest itself (shape row scope h r).inside x) (nest itself scope (map row (drop k r))))
      (sym (take-map row k r))
      ∙ ap (λ (x : List Row). Tree (shape row scope h r).knot (row h) (nest itself (shape row scope h r).inside (take k (map row r))) (nest itself scope x))
      (sym (drop-map row k r))
      ∙ ap (λ (s : Shape). Tree s.knot (row h) (nest itself s.inside (take s.count (map row r))) (nest itself scope (drop s.count (map row r))))
      (shape_rows scope h r)
      ∙ sym (nest_cons itself scope (row h) (map row r))

  pub nest_rows : (scope : Scope) (l : List A) → forest_map row (nest row scope l) ≡ nest itself scope (map row l)
  nest_rows scope l = nest_rows_in (length l) scope l (omega arith)

  pub forest_rows : (es : List A) → forest_map row (forest row es) ≡ forest itself (map row es)
  forest_rows [] = refl
  forest_rows (e ∷ es) = ap (λ (f : Forest Row). Tree Leaf (row e) NoTree f) (nest_rows Whole es)

-- the marks of trees look at their forms alone
pub flat-map : {A B : Type 0} (f : A → B) (t : Forest A) → flat (forest_map f t) ≡ map f (flat t)
flat-map f NoTree = refl
flat-map {A} {B} f (Tree knot h below behind) =
    ap (λ (x : List B). f h ∷ x)
    (ap (λ (x : List B). x ++ flat (forest_map f behind)) (flat-map f below) ∙ ap (λ (x : List B). map f (flat below) ++ x) (flat-map f behind)
    ∙ sym (map-append f (flat below) (flat behind)))

pub marks-map : {A B : Type 0} (f : A → B) (t : Forest A) (n depth : ℕ) (parent : Option ℕ) → marks (forest_map f t) n depth parent ≡ marks t n depth parent
marks-map f NoTree n depth parent = refl
marks-map {A} {B} f (Tree knot h below behind) n depth parent =
    let same : length (flat (forest_map f below)) ≡ length (flat below) = ap (length {A = B}) (flat-map f below) ∙ length-map (flat below) f in
    let inner = marks-map f below (n + 1) (depth + 1) (Some n) in
    let outer = marks-map f behind (end_of n below) depth parent in
    ap (λ (k : ℕ). record {
      knot = knot;
      depth = depth;
      parent = parent;
      end =
          n + 1 + k;
    } ∷ (marks (forest_map f below) (n + 1) (depth + 1) (Some n) ++ marks (forest_map f behind) (n + 1 + k) depth parent)) same
    ∙ ap (λ (ms : List Mark). record {
      knot = knot;
      depth = depth;
      parent = parent;
      end =
          end_of n below;
    } ∷ (ms ++ marks (forest_map f behind) (end_of n below) depth parent)) inner
    ∙ ap (λ (ms : List Mark). record {
      knot = knot;
      depth = depth;
      parent = parent;
      end =
          end_of n below;
    } ∷ (marks below (n + 1) (depth + 1) (Some n) ++ ms)) outer
