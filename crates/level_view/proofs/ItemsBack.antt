-- What is found backwards over the elements of trees is what the trees show.
use Rattle.std.proofs.Common.{◌≡◌, ℕ, zero, suc, ◌+◌, ◌<◌, ◌≤◌, List, [], ◌∷◌, ◌++◌, length, drop, refl, sym, ap, ◌∙◌, arith, append_assoc, length-append}
use Rattle.std.specs.Prelude.{Option, Some, None, slice_get}
use Rattle.std.proofs.lemmas.List.{append-nil}
use Rattle.dgn_drawing.specs.declared.types.item.Item.{Item}
use Rattle.dgn_drawing.specs.declared.mask.Mask.{Mask}
use Rattle.dgn_drawing.specs.Element.{Element}
use Rattle.dgn_drawing.specs.Rows.{row_of}
use Rattle.dgn_drawing.specs.Nesting.{Knot, Leaf, Group, Run, Loose, Forest, NoTree, Tree, flat, forest}
use Rattle.dgn_drawing.specs.Numbering.{Mark, end_of, marks, marks_of, mark_of}
use Rattle.dgn_drawing.specs.Shown.{shown_tree, items, shown}
use Rattle.dgn_drawing.proofs.ListRests.{drop_front}
use Rattle.nest_tree.proofs.NestingSteps.{flat-forest}
use Rattle.level_view.specs.Back.{with_marked, read_back}
use Rattle.level_view.proofs.Numbers.{items_each, back_each}
use Rattle.level_view.proofs.ItemJoins.{ShowsNoneBelow, element_joins}
use Rattle.level_view.proofs.BareHeads.{IsBare, AreBare, forest_bare}

-- an element of a list, from what is behind those before it
pub here_and_behind : {A : Type 0} (xs : List A) (n : ℕ) (x : A) (rest : List A) → drop n xs ≡ x ∷ rest → (slice_get xs n ≡ Some x) × (drop (n + 1) xs ≡ rest)
here_and_behind [] zero x rest is = absurd (cc)
here_and_behind [] (suc n) x rest is = absurd (cc)
here_and_behind (y ∷ xs) zero x rest is = (cc, cc)
here_and_behind {A} (y ∷ xs) (suc n) x rest is =
    let inner = here_and_behind xs n x rest is in
    let e : suc n + 1 ≡ suc (n + 1) = omega arith in
    (inner.0, ap (λ (k : ℕ). drop k (y ∷ xs)) e ∙ inner.1)

-- the trees stand among all elements from number n on, with their marks
pub record Stands (es : List Element) (f : Forest Element) (n depth : ℕ) (parent : Option ℕ) : Type 0 where
  pub marks_behind : List Mark
  pub behind : List Element
  pub marked : drop n (marks_of (forest row_of es)) ≡ marks f n depth parent ++ marks_behind
  pub listed : drop n es ≡ flat f ++ behind

pub length-marks : {A : Type 0} (f : Forest A) (n depth : ℕ) (parent : Option ℕ) → length (marks f n depth parent) ≡ length (flat f)
length-marks NoTree n depth parent = refl
length-marks (Tree knot h below behind) n depth parent =
    omega (
      arith,
      length-append (marks below (n + 1) (depth + 1) (Some n)) (marks behind (end_of n below) depth parent),
      length-append (flat below) (flat behind),
      length-marks below (n + 1) (depth + 1) (Some n),
      length-marks behind (end_of n below) depth parent,
    )

module _ (es : List Element) (knot : Knot) (e : Element) (below behind : Forest Element) (n depth : ℕ) (parent : Option ℕ)
    (stands : Stands es (Tree knot e below behind) n depth parent) where
  marks_next : (slice_get (marks_of (forest row_of es)) n ≡ Some (record { knot = knot; depth = depth; parent = parent; end = end_of n below }))
      × (drop (n + 1) (marks_of (forest row_of es)) ≡ (marks below (n + 1) (depth + 1) (Some n) ++ marks behind (end_of n below) depth parent)
      ++ stands.marks_behind)
  marks_next = here_and_behind (marks_of (forest row_of es)) n (record { knot = knot; depth = depth; parent = parent; end = end_of n below })
      ((marks below (n + 1) (depth + 1) (Some n) ++ marks behind (end_of n below) depth parent) ++ stands.marks_behind) stands.marked

  elements_next : (slice_get es n ≡ Some e) × (drop (n + 1) es ≡ (flat below ++ flat behind) ++ stands.behind)
  elements_next = here_and_behind es n e ((flat below ++ flat behind) ++ stands.behind) stands.listed

  pub head_marked : mark_of row_of es n ≡ Some (record { knot = knot; depth = depth; parent = parent; end = end_of n below })
  head_marked = marks_next.0

  pub head_listed : slice_get es n ≡ Some e
  head_listed = elements_next.0

  pub below_stands : Stands es below (n + 1) (depth + 1) (Some n)
  below_stands = record {
    marks_behind = marks behind (end_of n below) depth parent ++ stands.marks_behind;
    behind = flat behind ++ stands.behind;
    marked = marks_next.1 ∙ append_assoc (marks below (n + 1) (depth + 1) (Some n)) (marks behind (end_of n below) depth parent) stands.marks_behind;
    listed = elements_next.1 ∙ append_assoc (flat below) (flat behind) stands.behind;
  }

  pub behind_stands : Stands es behind (end_of n below) depth parent
  unfolding below_stands
  behind_stands =
      let past : drop (n + 1 + length (marks below (n + 1) (depth + 1) (Some n))) (marks_of (forest row_of es)) ≡ marks behind (end_of n below) depth parent
      ++ stands.marks_behind =
      drop_front (marks_of (forest row_of es)) (marks below (n + 1) (depth + 1) (Some n))
      (marks behind (end_of n below) depth parent ++ stands.marks_behind) (n + 1) _ refl below_stands.marked in
      let same : n + 1 + length (marks below (n + 1) (depth + 1) (Some n)) ≡ end_of n below =
      ap (λ (k : ℕ). n + 1 + k) (length-marks below (n + 1) (depth + 1) (Some n)) in
      record {
        marks_behind = stands.marks_behind;
        behind = stands.behind;
        marked = ap (λ (k : ℕ). drop k (marks_of (forest row_of es))) (sym same) ∙ past;
        listed = drop_front es (flat below) (flat behind ++ stands.behind) (n + 1) _ refl below_stands.listed;
      }

-- where nothing is below, nothing is shown below
shows_none : (dim : ℕ) (mask : Mask) (n depth : ℕ) (knot : Knot) (below : Forest Element) → IsBare knot below
    → ShowsNoneBelow knot (items dim mask n depth below)
shows_none dim mask n depth Leaf below bare = ap (items dim mask n depth) bare
shows_none dim mask n depth Group below bare = tt
shows_none dim mask n depth Run below bare = tt
shows_none dim mask n depth Loose below bare = ap (items dim mask n depth) bare

module _ (dim : ℕ) (mask : Mask) (es : List Element) where
  pub trees_found : (f : Forest Element) (n depth : ℕ) (parent : Option ℕ) → AreBare f → Stands es f n depth parent → (count : ℕ)
      → read_back dim mask es n (length (flat f) + count) ≡ items dim mask n depth f ++ read_back dim mask es (n + length (flat f)) count
  trees_found NoTree n depth parent bare stands count =
      let none : 0 + count ≡ count = omega arith in
      let here : n + 0 ≡ n = omega arith in
      ap (read_back dim mask es n) none ∙ ap (λ (k : ℕ). read_back dim mask es k count) (sym here)
  trees_found (Tree knot e below behind) n depth parent bare stands count =
      let inner = items dim mask (n + 1) (depth + 1) below in
      let outer = items dim mask (end_of n below) depth behind in
      let rest = read_back dim mask es (end_of n below) (length (flat behind) + count) in
      let last = read_back dim mask es (n + length (flat (Tree knot e below behind))) count in
      let steps : length (flat (Tree knot e below behind)) + count ≡ suc (length (flat below) + (length (flat behind) + count)) =
      omega (arith, length-append (flat below) (flat behind)) in
      let after : n + 1 + length (flat below) + length (flat behind) ≡ n + length (flat (Tree knot e below behind)) =
      omega (arith, length-append (flat below) (flat behind)) in
      let at_below : read_back dim mask es (n + 1) (length (flat below) + (length (flat behind) + count)) ≡ items dim mask (n + 1) (depth + 1) below
      ++ read_back dim mask es (end_of n below) (length (flat behind) + count)
      = trees_found below (n + 1) (depth + 1) (Some n) bare.1 (below_stands es knot e below behind n depth parent stands) (length (flat behind) + count) in
      let at_behind : read_back dim mask es (end_of n below) (length (flat behind) + count) ≡ items dim mask (end_of n below) depth behind
      ++ read_back dim mask es (n + length (flat (Tree knot e below behind))) count
      = trees_found behind (end_of n below) depth parent bare.2 (behind_stands es knot e below behind n depth parent stands) count
      ∙ ap (λ (k : ℕ). items dim mask (end_of n below) depth behind ++ read_back dim mask es k count) after in
      let low = items_each (λ k. k < end_of n below) dim mask (n + 1) (depth + 1) below (λ k from below_end. below_end) in
      let high = back_each (λ k. end_of n below ≤ k) dim mask es (end_of n below) (length (flat behind) + count) (λ k from below_end. from) in
      ap (read_back dim mask es n) steps
      ∙ ap (with_marked dim mask n (mark_of row_of es n) (slice_get es n)) at_below
      ∙ ap (λ (m : Option Mark). with_marked dim mask n m (slice_get es n)
      (items dim mask (n + 1) (depth + 1) below ++ read_back dim mask es (end_of n below) (length (flat behind) + count)))
      (head_marked es knot e below behind n depth parent stands)
      ∙ ap (λ (o : Option Element). with_marked dim mask n (Some (record { knot = knot; depth = depth; parent = parent; end = end_of n below })) o
      (items dim mask (n + 1) (depth + 1) below ++ read_back dim mask es (end_of n below) (length (flat behind) + count)))
      (head_listed es knot e below behind n depth parent stands)
      ∙ element_joins dim mask n depth (end_of n below) e (items dim mask (n + 1) (depth + 1) below)
      (read_back dim mask es (end_of n below) (length (flat behind) + count)) low high knot (shows_none dim mask (n + 1) (depth + 1) knot below bare.0)
      ∙ ap (λ (x : List Item). shown_tree dim mask knot n depth e (items dim mask (n + 1) (depth + 1) below) ++ x) at_behind
      ∙ sym (append_assoc (shown_tree dim mask knot n depth e (items dim mask (n + 1) (depth + 1) below)) (items dim mask (end_of n below) depth behind)
      (read_back dim mask es (n + length (flat (Tree knot e below behind))) count))

-- all trees stand from number 0 on
pub all_stand : (es : List Element) → Stands es (forest row_of es) 0 0 None
all_stand es = record {
  marks_behind = [];
  behind = [];
  marked = sym (append-nil (marks_of (forest row_of es)));
  listed = sym (flat-forest row_of es) ∙ sym (append-nil (flat (forest row_of es)));
}

-- so all elements show what the display shows
pub all_found : (dim : ℕ) (mask : Mask) (es : List Element) → read_back dim mask es 0 (length es) ≡ shown dim mask es
all_found dim mask es =
    let long : length es ≡ length (flat (forest row_of es)) + 0 = omega (arith, ap (length {A = Element}) (flat-forest row_of es)) in
    ap (read_back dim mask es 0) long ∙ trees_found dim mask es (forest row_of es) 0 0 None (forest_bare row_of es) (all_stand es) 0
    ∙ append-nil (shown dim mask es)
