-- Where the tree of one element stands among the trees of all: what is before it and what is behind it.
use Rattle.std.proofs.Common.{◌≡◌, ℕ, zero, suc, ◌+◌, ◌-◌, ◌<◌, ◌≤◌, List, [], ◌∷◌, ◌++◌, length, drop, map, refl, sym, ap, ◌∙◌, arith, append_assoc}
use Rattle.std.proofs.Common.{length-append, true, false, inl, inr}
use Rattle.std.specs.Prelude.{Option, Some, None, option_map, slice_get, nat_lt}
use Rattle.std.proofs.lemmas.List.{drop-append-le, map-append}
use Rattle.std.proofs.lemmas.Option.{slice_get-map}
use Rattle.std.proofs.lemmas.Bool.{cases_Bool, cond-true, cond-false, ltb-true, ltb-false}
use Rattle.std.proofs.Math.Seq.{drop-append-add}
use Rattle.dgn_drawing.specs.Element.{Element}
use Rattle.dgn_drawing.specs.Rows.{row_of}
use Rattle.dgn_drawing.specs.Nesting.{Knot, Forest, NoTree, Tree, flat, forest, joined}
use Rattle.dgn_drawing.specs.Numbering.{Mark, end_of, marks, marks_of, mark_of}
use Rattle.nest_tree.proofs.NestingSteps.{flat-forest}
use Rattle.edit_ops.specs.Trees.{count_in, tree_at}

-- for each element of trees that are numbered from n on, the number behind the last element below it
abbrev pub ends : {A : Type 0} → Forest A → ℕ → List ℕ
ends NoTree n = []
ends (Tree knot h below behind) n = end_of n below ∷ (ends below (n + 1) ++ ends behind (end_of n below))

-- these are the ends of the marks
pub ends_marked : {A : Type 0} (f : Forest A) (n depth : ℕ) (parent : Option ℕ) → map (λ (m : Mark). m.end) (marks f n depth parent) ≡ ends f n
ends_marked NoTree n depth parent = refl
ends_marked (Tree knot h below behind) n depth parent =
    ap (λ (l : List ℕ). end_of n below ∷ l)
    (map-append (λ (m : Mark). m.end) (marks below (n + 1) (depth + 1) (Some n)) (marks behind (end_of n below) depth parent)
    ∙ ap (λ (l : List ℕ). l ++ map (λ (m : Mark). m.end) (marks behind (end_of n below) depth parent)) (ends_marked below (n + 1) (depth + 1) (Some n))
    ∙ ap (λ (l : List ℕ). ends below (n + 1) ++ l) (ends_marked behind (end_of n below) depth parent))

-- there is one for each element
pub length-ends : {A : Type 0} (f : Forest A) (n : ℕ) → length (ends f n) ≡ length (flat f)
length-ends NoTree n = refl
length-ends (Tree knot h below behind) n =
    omega (
      arith,
      length-append (ends below (n + 1)) (ends behind (end_of n below)),
      length-append (flat below) (flat behind),
      length-ends below (n + 1),
      length-ends behind (end_of n below),
    )

-- the elements of trees behind trees are those of the first and then those of the others
pub flat-joined : {A : Type 0} (f g : Forest A) → flat (joined f g) ≡ flat f ++ flat g
flat-joined NoTree g = refl
flat-joined {A} (Tree knot h below behind) g =
    ap (λ (l : List A). h ∷ l) (ap (λ (l : List A). flat below ++ l) (flat-joined behind g) ∙ sym (append_assoc (flat below) (flat behind) (flat g)))

-- four lists, read from the left and from the right
regroup : {A : Type 0} (a b c d : List A) → (a ++ (b ++ c)) ++ d ≡ a ++ (b ++ (c ++ d))
regroup a b c d = simp append_assoc

-- the n-th element of trees, which are numbered from `first` on: its tree, which has the number `at`, what
-- stands before it and what behind it
pub record PlacedIn {A : Type 0} (f : Forest A) (n first at : ℕ) : Type 0 where
  pub knot : Knot
  pub head : A
  pub below : Forest A
  pub front : List A
  pub behind : List A
  pub ends_behind : List ℕ
  pub tree : tree_at n f ≡ Tree knot head below NoTree
  pub count : length front ≡ n
  pub parts : flat f ≡ front ++ ((head ∷ flat below) ++ behind)
  pub ended : drop n (ends f first) ≡ end_of at below ∷ (ends below (at + 1) ++ ends_behind)

module _ {A : Type 0} (knot : Knot) (h : A) (below behind : Forest A) (n first at : ℕ) where
  -- the tree lies below the first head
  in_below : nat_lt n (count_in below) ≡ true → PlacedIn below n (first + 1) at → PlacedIn (Tree knot h below behind) (suc n) first at
  in_below is p =
      let early : n < length (flat below) = ltb-true n (length (flat below)) is in
      record {
        knot = p.knot;
        head = p.head;
        below = p.below;
        front = h ∷ p.front;
        behind = p.behind ++ flat behind;
        ends_behind = p.ends_behind ++ ends behind (end_of first below);
        tree = cond-true (nat_lt n (count_in below)) (tree_at n below) (tree_at (n - count_in below) behind) is ∙ p.tree;
        count = ap suc p.count;
        parts = ap (λ (l : List A). h ∷ (l ++ flat behind)) p.parts
            ∙ ap (λ (l : List A). h ∷ l) (regroup p.front (p.head ∷ flat p.below) p.behind (flat behind));
        ended = drop-append-le n (ends below (first + 1)) (ends behind (end_of first below)) (omega (arith, length-ends below (first + 1)))
            ∙ ap (λ (l : List ℕ). l ++ ends behind (end_of first below)) p.ended
            ∙ ap (λ (l : List ℕ). end_of at p.below ∷ l) (append_assoc (ends p.below (at + 1)) p.ends_behind (ends behind (end_of first below)));
      }

  -- the tree lies behind the first tree
  in_behind : nat_lt n (count_in below) ≡ false → PlacedIn behind (n - count_in below) (end_of first below) at
      → PlacedIn (Tree knot h below behind) (suc n) first at
  in_behind is p =
      let late : length (flat below) ≤ n = ltb-false n (length (flat below)) is in
      let counted = p.count in
      let long : n ≡ length (ends below (first + 1)) + (n - length (flat below)) = omega (arith, length-ends below (first + 1)) in
      record {
        knot = p.knot;
        head = p.head;
        below = p.below;
        front = h ∷ (flat below ++ p.front);
        behind = p.behind;
        ends_behind = p.ends_behind;
        tree = cond-false (nat_lt n (count_in below)) (tree_at n below) (tree_at (n - count_in below) behind) is ∙ p.tree;
        count = omega (arith, length-append (flat below) p.front);
        parts = ap (λ (l : List A). h ∷ (flat below ++ l)) p.parts
            ∙ ap (λ (l : List A). h ∷ l) (sym (append_assoc (flat below) p.front ((p.head ∷ flat p.below) ++ p.behind)));
        ended = ap (λ (k : ℕ). drop k (ends below (first + 1) ++ ends behind (end_of first below))) long
            ∙ drop-append-add (ends below (first + 1)) (ends behind (end_of first below)) (n - length (flat below))
            ∙ p.ended;
      }

-- each element of trees has its place
pub placed_in : {A : Type 0} (f : Forest A) (n first at : ℕ) → at ≡ first + n → n < length (flat f) → PlacedIn f n first at
placed_in NoTree n first at is inside = absurd (omega arith)
placed_in {A} (Tree knot h below behind) zero first at is inside = record {
  knot = knot;
  head = h;
  below = below;
  front = [];
  behind = flat behind;
  ends_behind = ends behind (end_of first below);
  tree = refl;
  count = refl;
  parts = refl;
  ended =
      let here : first ≡ at = omega arith in
      ap (λ (k : ℕ). end_of k below ∷ (ends below (k + 1) ++ ends behind (end_of first below))) here;
}
placed_in (Tree knot h below behind) (suc n) first at is inside = elim (cases_Bool (nat_lt n (count_in below))) [
  | inl within ↦
      let early : n < length (flat below) = ltb-true n (length (flat below)) within in
      in_below knot h below behind n first at within (placed_in below n (first + 1) at (omega arith) early)
  | inr past ↦
      let late : length (flat below) ≤ n = ltb-false n (length (flat below)) past in
      in_behind knot h below behind n first at past
      (placed_in behind (n - count_in below) (end_of first below) at (omega arith) (omega (arith, length-append (flat below) (flat behind))))
]

-- the tree of element n of a drawing: its head and what is below it, the elements before it and those behind
-- it, and the mark of its head
pub record IsPlaced (es : List Element) (n : ℕ) : Type 0 where
  pub knot : Knot
  pub head : Element
  pub below : Forest Element
  pub front : List Element
  pub behind : List Element
  pub ends_behind : List ℕ
  pub tree : tree_at n (forest row_of es) ≡ Tree knot head below NoTree
  pub count : length front ≡ n
  pub parts : es ≡ front ++ ((head ∷ flat below) ++ behind)
  pub ended : drop n (ends (forest row_of es) 0) ≡ end_of n below ∷ (ends below (n + 1) ++ ends_behind)
  pub mark : Mark
  pub marked : mark_of row_of es n ≡ Some mark
  pub end : mark.end ≡ end_of n below

-- the first of what is left of a list behind the first n
pub first_left : {A : Type 0} (l : List A) (n : ℕ) (x : A) (rest : List A) → drop n l ≡ x ∷ rest → slice_get l n ≡ Some x
first_left [] zero x rest is = absurd (cc)
first_left [] (suc n) x rest is = absurd (cc)
first_left (y ∷ l) zero x rest is = cc
first_left (y ∷ l) (suc n) x rest is = first_left l n x rest is

-- and the others behind it
pub others_left : {A : Type 0} (l : List A) (n : ℕ) (x : A) (rest : List A) → drop n l ≡ x ∷ rest → drop (n + 1) l ≡ rest
others_left [] zero x rest is = absurd (cc)
others_left [] (suc n) x rest is = absurd (cc)
others_left (y ∷ l) zero x rest is = cc
others_left {A} (y ∷ l) (suc n) x rest is =
    let e : suc n + 1 ≡ suc (n + 1) = omega arith in
    ap (λ (k : ℕ). drop k (y ∷ l)) e ∙ others_left l n x rest is

-- a mark whose end is known
marked_end : (o : Option Mark) (end : ℕ) → option_map (λ (m : Mark). m.end) o ≡ Some end → (mark : Mark) × (o ≡ Some mark) × (mark.end ≡ end)
marked_end None end is = absurd (let e = is in cc)
marked_end (Some m) end is = (m, refl, cc)

-- the end of an element's mark is the one that stands at its number
pub mark_ends : (es : List Element) (n : ℕ) → option_map (λ (m : Mark). m.end) (mark_of row_of es n) ≡ slice_get (ends (forest row_of es) 0) n
mark_ends es n =
    sym (slice_get-map (λ (m : Mark). m.end) (marks_of (forest row_of es)) n) ∙ ap (λ (l : List ℕ). slice_get l n) (ends_marked (forest row_of es) 0 0 None)

-- an element of a drawing by its place among the trees of all
placed_as : (es : List Element) (n : ℕ) → PlacedIn (forest row_of es) n 0 n → IsPlaced es n
placed_as es n p =
    let m = marked_end (mark_of row_of es n) (end_of n p.below)
    (mark_ends es n ∙ first_left (ends (forest row_of es) 0) n (end_of n p.below) (ends p.below (n + 1) ++ p.ends_behind) p.ended) in
    record {
      knot = p.knot;
      head = p.head;
      below = p.below;
      front = p.front;
      behind = p.behind;
      ends_behind = p.ends_behind;
      tree = p.tree;
      count = p.count;
      parts = sym (flat-forest row_of es) ∙ p.parts;
      ended = p.ended;
      mark = m.0;
      marked = m.1;
      end = m.2;
    }

-- each element of a drawing has its place
pub placed : (es : List Element) (n : ℕ) → n < length es → IsPlaced es n
placed es n known = placed_as es n (placed_in (forest row_of es) n 0 n (omega arith) (omega (arith, ap (length {A = Element}) (flat-forest row_of es))))
