-- Where the headers above an element and its part lie: between the first byte of the root's tree and that tree's end.
use Rattle.std.proofs.Common.{◌≡◌, ℕ, zero, suc, ◌+◌, ◌-◌, ◌<◌, ◌≤◌, List, [], ◌∷◌, ◌++◌, length, take, drop, Bool, true, false, cond, refl, sym, ap, ◌∙◌}
use Rattle.std.proofs.Common.{subst, arith, length-append, inl, inr}
use Rattle.std.specs.Prelude.{nat_lt, Some, None, option_map}
use Rattle.std.specs.List.{AllByRecursion}
use Rattle.std.proofs.lemmas.Grind.{flat_map-append}
use Rattle.std.proofs.lemmas.List.{append-nil, drop_at, take_at}
use Rattle.std.proofs.lemmas.Bool.{cases_Bool, cond_both, cond-true, cond-false, ltb-true, ltb-false, lt-ltb, le-ltb}
use Rattle.dgn_drawing.specs.Element.{Element}
use Rattle.dgn_drawing.specs.Spelling.{spell, spelling, size_of}
use Rattle.dgn_drawing.specs.Rows.{row_of}
use Rattle.dgn_drawing.specs.Nesting.{Knot, Forest, NoTree, Tree, flat, forest}
use Rattle.dgn_drawing.specs.Numbering.{Mark, end_of, headers_in, headers_of, first_or, root_of, span_of}
use Rattle.nest_tree.proofs.NestingSteps.{flat-forest}
use Rattle.elem_index.specs.Offsets.{offset_of}
use Rattle.edit_ops.specs.Trees.{count_in, tree_at, Live, live_from, above_from, above_tree, every_from, Reach, Living, Every, Head, reached_from, reached}
use Rattle.edit_ops.proofs.PartPlace.{PlacedIn, placed_in, IsPlaced, placed}
use Rattle.edit_ops.proofs.EachLive.{each_both, live_behind, live_dead, live_alive}
use Rattle.edit_ops.proofs.LiveFound.{offset_behind}
use Rattle.edit_ops.proofs.RowsKept.{above_side, tree_side}
use Rattle.edit_ops.proofs.TreesExchanged.{before_below, before_behind}
use Rattle.edit_ops.proofs.EditedBytes.{all_so}

-- an element lies between two places
abbrev pub LiesBetween : ℕ → ℕ → Live → Type 0
LiesBetween low high v = (low ≤ v.place) × (v.place + size_of v.element ≤ high)

-- elements that do lie between any two around them
all_around : (low high a b : ℕ) → a ≤ low → high ≤ b → (vs : List Live) → AllByRecursion (LiesBetween low high) vs → AllByRecursion (LiesBetween a b) vs
all_around low high a b from to vs all =
    all_so (LiesBetween low high) (LiesBetween a b) (λ v is. (let f = is.0 in omega arith, let u = is.1 in omega arith)) vs all

-- the length of a head, of what is below it and of what is behind
tree_long : (h : Element) (below behind : List Element)
    → length (spelling (h ∷ (below ++ behind))) ≡ size_of h + (length (spelling below) + length (spelling behind))
tree_long h below behind =
    let both : spelling (below ++ behind) ≡ spelling below ++ spelling behind = flat_map-append spell below behind in
    omega (arith, length-append (spell h) (spelling (below ++ behind)), ap (length {A = ℕ}) both, length-append (spelling below) (spelling behind))

-- live elements of trees lie in their bytes
live_between : (n p end : ℕ) (f : Forest Element) → p + length (spelling (flat f)) ≤ end → AllByRecursion (LiesBetween p end) (live_from n p f)
live_between n p end NoTree to = tt
live_between n p end (Tree knot e below behind) to =
    let long = tree_long e (flat below) (flat behind) in
    let inner = all_around (p + size_of e) end p end (omega arith) (omega arith) (live_from (n + 1) (p + size_of e) below)
    (live_between (n + 1) (p + size_of e) end below (omega arith)) in
    let outer = all_around (p + (size_of e + length (spelling (flat below)))) end p end (omega arith) (omega arith) (live_behind n p e below behind)
    (live_between (end_of n below) (p + (size_of e + length (spelling (flat below)))) end behind (omega arith)) in
    elim (cases_Bool e.deleted) [
      | inl dead ↦ subst (AllByRecursion (LiesBetween p end)) (sym (live_dead n p knot e below behind dead)) outer
      | inr alive ↦
          subst (AllByRecursion (LiesBetween p end)) (sym (live_alive n p knot e below behind alive))
          ((omega arith, omega arith), each_both (LiesBetween p end) (live_from (n + 1) (p + size_of e) below) (live_behind n p e below behind) inner outer)
    ]

-- and all elements of trees
every_between : (n p end : ℕ) (f : Forest Element) → p + length (spelling (flat f)) ≤ end → AllByRecursion (LiesBetween p end) (every_from n p f)
every_between n p end NoTree to = tt
every_between n p end (Tree knot e below behind) to =
    let long = tree_long e (flat below) (flat behind) in
    let inside : List Live = every_from (n + 1) (p + size_of e) below in
    let past : List Live = every_from (end_of n below) (p + (size_of e + length (spelling (flat below)))) behind in
    let inner = all_around (p + size_of e) end p end (omega arith) (omega arith) inside (every_between (n + 1) (p + size_of e) end below (omega arith)) in
    let outer = all_around (p + (size_of e + length (spelling (flat below)))) end p end (omega arith) (omega arith) past
    (every_between (end_of n below) (p + (size_of e + length (spelling (flat below)))) end behind (omega arith)) in
    ((omega arith, omega arith), each_both (LiesBetween p end) inside past inner outer)

-- so do those that a change reaches
reach_between : (reach : Reach) (n p end : ℕ) (f : Forest Element) → p + length (spelling (flat f)) ≤ end
    → AllByRecursion (LiesBetween p end) (reached_from reach n p f)
reach_between Living n p end f to = live_between n p end f to
reach_between Every n p end f to = every_between n p end f to
reach_between Head n p end NoTree to = tt
reach_between Head n p end (Tree knot e below behind) to =
    let long = tree_long e (flat below) (flat behind) in
    ((omega arith, omega arith), tt)

-- and so do headers
above_between : (n first p end : ℕ) (f : Forest Element) → p + length (spelling (flat f)) ≤ end → AllByRecursion (LiesBetween p end) (above_from n first p f)
above_between n first p end NoTree to = tt
above_between zero first p end (Tree knot e below behind) to = tt
above_between (suc n) first p end (Tree knot e below behind) to =
    let long = tree_long e (flat below) (flat behind) in
    let inner = all_around (p + size_of e) end p end (omega arith) (omega arith) (above_from n (first + 1) (p + size_of e) below)
    (above_between n (first + 1) (p + size_of e) end below (omega arith)) in
    let outer = all_around (p + (size_of e + length (spelling (flat below)))) end p end (omega arith) (omega arith)
    (above_from (n - count_in below) (end_of first below) (p + (size_of e + length (spelling (flat below)))) behind)
    (above_between (n - count_in below) (end_of first below) (p + (size_of e + length (spelling (flat below)))) end behind (omega arith)) in
    cond_both (nat_lt n (count_in below)) _ _ (λ (vs : List Live). AllByRecursion (LiesBetween p end) vs)
    (λ _. ((omega arith, omega arith), inner)) (λ _. outer)

-- the bytes before the part of an element, and those of the part, are bytes of the trees
part_long : (n : ℕ) (f : Forest Element) → n < length (flat f)
    → length (spelling (take n (flat f))) + length (spelling (flat (tree_at n f))) ≤ length (spelling (flat f))
part_long n f known =
    let p : PlacedIn f n 0 n = placed_in f n 0 n (omega arith) known in
    let front : take n (flat f) ≡ p.front = ap (take n) p.parts ∙ take_at p.front ((p.head ∷ flat p.below) ++ p.behind) n p.count in
    let part : flat (tree_at n f) ≡ p.head ∷ flat p.below = ap flat p.tree ∙ ap (λ (l : List Element). p.head ∷ l) (append-nil (flat p.below)) in
    let all : spelling (flat f) ≡ spelling p.front ++ (spelling (p.head ∷ flat p.below) ++ spelling p.behind)
    = ap spelling p.parts ∙ flat_map-append spell p.front ((p.head ∷ flat p.below) ++ p.behind)
    ∙ ap (λ (b : List ℕ). spelling p.front ++ b) (flat_map-append spell (p.head ∷ flat p.below) p.behind) in
    omega (
      arith,
      ap (λ (l : List Element). length (spelling l)) front,
      ap (λ (l : List Element). length (spelling l)) part,
      ap (length {A = ℕ}) all,
      length-append (spelling p.front) (spelling (p.head ∷ flat p.below) ++ spelling p.behind),
      length-append (spelling (p.head ∷ flat p.below)) (spelling p.behind),
    )

-- the root above element n of trees that are numbered from `first` on and begin at byte p, where the part of n
-- begins at byte q: its number among them, its bytes, and that the headers and the part lie in them
record Rooted (n first p q at : ℕ) (f : Forest Element) : Type 0 where
  place : ℕ
  low : ℕ
  high : ℕ
  root : first_or at (headers_in n first f) ≡ first + place
  known : place < length (flat f)
  begins : low ≡ p + length (spelling (take place (flat f)))
  ends : high ≡ low + length (spelling (flat (tree_at place f)))
  above : AllByRecursion (LiesBetween low high) (above_from n first p f)
  from : low ≤ q
  to : q + length (spelling (flat (tree_at n f))) ≤ high

-- the headers' numbers above an element below the first head, or behind the first tree
abbrev headers_side : Bool → ℕ → ℕ → Forest Element → Forest Element → List ℕ
headers_side b n first below behind = cond b (first ∷ headers_in n (first + 1) below) (headers_in (n - count_in below) (end_of first below) behind)

module _ (n first p q at : ℕ) (h : Element) (below behind : Forest Element) where
  -- the same, of one of the two
  record RootedSide (b : Bool) (tree : Forest Element) : Type 0 where
    place : ℕ
    low : ℕ
    high : ℕ
    root : first_or at (headers_side b n first below behind) ≡ first + place
    known : place < length (flat tree)
    begins : low ≡ p + length (spelling (take place (flat tree)))
    ends : high ≡ low + length (spelling (flat (tree_at place tree)))
    above : AllByRecursion (LiesBetween low high) (above_side b n first p h below behind)
    from : low ≤ q
    to : q + length (spelling (flat (tree_side b n below behind))) ≤ high

  rooted_side : (knot : Knot) (b : Bool) → nat_lt n (count_in below) ≡ b → q ≡ p + length (spelling (take (suc n) (h ∷ (flat below ++ flat behind))))
      → (b ≡ false → Rooted (n - count_in below) (end_of first below) (p + (size_of h + length (spelling (flat below)))) q at behind)
      → RootedSide b (Tree knot h below behind)
  rooted_side knot true is at_q more =
      let early : n < length (flat below) = ltb-true n (length (flat below)) is in
      let long = tree_long h (flat below) [] in
      let part = part_long n below early in
      let before = before_below n h (flat below) (flat behind) early in
      let inner : p + size_of h + length (spelling (flat below)) ≤ p + length (spelling (h ∷ (flat below ++ []))) = omega arith in
      record {
        place = 0;
        low = p;
        high = p + length (spelling (h ∷ (flat below ++ [])));
        root = omega arith;
        known = omega arith;
        begins = omega arith;
        ends = refl;
        above = (
          (omega arith, omega arith),
          all_around (p + size_of h) (p + length (spelling (h ∷ (flat below ++ [])))) p (p + length (spelling (h ∷ (flat below ++ [])))) (omega arith)
              (omega arith) (above_from n (first + 1) (p + size_of h) below)
              (above_between n (first + 1) (p + size_of h) (p + length (spelling (h ∷ (flat below ++ [])))) below inner),
        );
        from = omega arith;
        to = omega arith;
      }
  rooted_side knot false is at_q more =
      let r = more refl in
      let late : nat_lt (count_in below + r.place) (count_in below) ≡ false = le-ltb (count_in below + r.place) (count_in below) (omega arith) in
      let left : count_in below + r.place - count_in below ≡ r.place = omega arith in
      let tree : tree_at (suc (count_in below + r.place)) (Tree knot h below behind) ≡ tree_at r.place behind =
      cond-false (nat_lt (count_in below + r.place) (count_in below)) (tree_at (count_in below + r.place) below)
      (tree_at (count_in below + r.place - count_in below) behind) late
      ∙ ap (λ (j : ℕ). tree_at j behind) left in
      let before = before_behind (count_in below + r.place) r.place h (flat below) (flat behind) refl in
      let root = r.root in
      let known = r.known in
      let begins = r.begins in
      record {
        place = suc (count_in below + r.place);
        low = r.low;
        high = r.high;
        root = omega arith;
        known = omega (arith, length-append (flat below) (flat behind));
        begins = omega arith;
        ends = r.ends ∙ ap (λ (f : Forest Element). r.low + length (spelling (flat f))) (sym tree);
        above = r.above;
        from = r.from;
        to = r.to;
      }

-- each element has its root
rooted : (n first p q at : ℕ) (f : Forest Element) → n < length (flat f) → at ≡ first + n → q ≡ p + length (spelling (take n (flat f)))
    → Rooted n first p q at f
rooted n first p q at NoTree known at_is at_q = absurd (omega arith)
rooted zero first p q at (Tree knot h below behind) known at_is at_q = record {
  place = 0;
  low = p;
  high = p + length (spelling (h ∷ (flat below ++ [])));
  root = at_is;
  known = known;
  begins = omega arith;
  ends = refl;
  above = tt;
  from = omega arith;
  to = omega arith;
}
rooted (suc n) first p q at (Tree knot h below behind) known at_is at_q =
    let s = rooted_side n first p q at h below behind knot (nat_lt n (count_in below)) refl at_q
    (λ is.
    let late : length (flat below) ≤ n = ltb-false n (length (flat below)) is in
    let split : n ≡ length (flat below) + (n - count_in below) = omega arith in
    rooted (n - count_in below) (end_of first below) (p + (size_of h + length (spelling (flat below)))) q at behind
    (omega (arith, known, length-append (flat below) (flat behind)))
    (omega arith)
    (omega (arith, at_q, before_behind n (n - count_in below) h (flat below) (flat behind) split))) in
    record {
      place = s.place;
      low = s.low;
      high = s.high;
      root = s.root;
      known = s.known;
      begins = s.begins;
      ends = s.ends;
      above = s.above;
      from = s.from;
      to = s.to;
    }

-- where the tree of a root begins and ends, and that the headers above an element of it and that element's part lie there
pub record LieInTree (es : List Element) (n root end : ℕ) : Type 0 where
  pub rises : offset_of es root ≤ offset_of es end
  pub above : AllByRecursion (LiesBetween (offset_of es root) (offset_of es end)) (above_tree es n)
  pub from : offset_of es root ≤ offset_of es n
  pub to : offset_of es n + length (spelling (flat (tree_at n (forest row_of es)))) ≤ offset_of es end

-- the value that an option has
some_value : {x y : ℕ} → Some x ≡ Some y → x ≡ y
some_value is = cc

-- the end of a tree
pub tree_ends : (es : List Element) (root end : ℕ) → root < length es → span_of row_of es root ≡ Some (root, end)
    → offset_of es end ≡ offset_of es root + length (spelling (flat (tree_at root (forest row_of es))))
tree_ends es root end known span =
    let p : IsPlaced es root = placed es root known in
    let marked : option_map (λ (m : Mark). m.end) (Some p.mark) ≡ Some end =
    ap (option_map (λ (x : ℕ × ℕ). x.1)) (ap (option_map (λ (m : Mark). (root, m.end))) (sym p.marked) ∙ span) in
    let end_is : end ≡ end_of root p.below = sym (some_value marked) ∙ p.end in
    let left : drop root es ≡ (p.head ∷ flat p.below) ++ p.behind =
    ap (drop root) p.parts ∙ drop_at p.front ((p.head ∷ flat p.below) ++ p.behind) root p.count in
    let part : flat (tree_at root (forest row_of es)) ≡ p.head ∷ flat p.below =
    ap flat p.tree ∙ ap (λ (l : List Element). p.head ∷ l) (append-nil (flat p.below)) in
    offset_behind es (p.head ∷ flat p.below) p.behind root end (omega (arith, end_is)) left
    ∙ ap (λ (l : List Element). offset_of es root + length (spelling l)) (sym part)

-- an element lies so, whose root among the trees is known
lie_as : (es : List Element) (n root end : ℕ) → n < length es → root_of row_of es n ≡ Some root → span_of row_of es root ≡ Some (root, end)
    → Rooted n 0 0 (offset_of es n) n (forest row_of es) → LieInTree es n root end
lie_as es n root end known root_is span r =
    let count : length (flat (forest row_of es)) ≡ length es = ap (length {A = Element}) (flat-forest row_of es) in
    let same : first_or n (headers_of row_of es n) ≡ root =
    some_value (sym (cond-true (nat_lt n (length es)) (Some (first_or n (headers_of row_of es n))) None (lt-ltb n (length es) known)) ∙ root_is) in
    let place : r.place ≡ root = let x = r.root in omega arith in
    let root_known : root < length es = let k = r.known in omega arith in
    let tree_end : offset_of es end ≡ offset_of es root + length (spelling (flat (tree_at root (forest row_of es)))) = tree_ends es root end root_known span in
    let from : length (spelling (take r.place (flat (forest row_of es)))) ≡ offset_of es root =
    ap (λ (l : List Element). length (spelling (take r.place l))) (flat-forest row_of es) ∙ ap (offset_of es) place in
    let tree : length (spelling (flat (tree_at r.place (forest row_of es)))) ≡ length (spelling (flat (tree_at root (forest row_of es)))) =
    ap (λ (k : ℕ). length (spelling (flat (tree_at k (forest row_of es))))) place in
    let begins = r.begins in
    let ends = r.ends in
    let low : r.low ≡ offset_of es root = omega arith in
    let high : r.high ≡ offset_of es end = omega arith in
    record {
      rises = omega arith;
      above = subst (λ (x : ℕ). AllByRecursion (LiesBetween x (offset_of es end)) (above_tree es n)) low
          (subst (λ (x : ℕ). AllByRecursion (LiesBetween r.low x) (above_tree es n)) high r.above);
      from = subst (λ (x : ℕ). x ≤ offset_of es n) low r.from;
      to = subst (λ (x : ℕ). offset_of es n + length (spelling (flat (tree_at n (forest row_of es)))) ≤ x) high r.to;
    }

-- each element of a drawing lies so
pub lie_in_tree : (es : List Element) (n root end : ℕ) → n < length es → root_of row_of es n ≡ Some root → span_of row_of es root ≡ Some (root, end)
    → LieInTree es n root end
lie_in_tree es n root end known root_is span =
    let count : length (flat (forest row_of es)) ≡ length es = ap (length {A = Element}) (flat-forest row_of es) in
    let at_q : offset_of es n ≡ 0 + length (spelling (take n (flat (forest row_of es)))) =
    ap (λ (l : List Element). length (spelling (take n l))) (sym (flat-forest row_of es)) ∙ omega arith in
    lie_as es n root end known root_is span (rooted n 0 0 (offset_of es n) n (forest row_of es) (omega arith) (omega arith) at_q)

-- so each element lies there that a change reaches in the part
pub reached_lie : (reach : Reach) (es : List Element) (n root end : ℕ) → LieInTree es n root end
    → AllByRecursion (LiesBetween (offset_of es root) (offset_of es end)) (reached reach es n)
reached_lie reach es n root end lie =
    all_around (offset_of es n) (offset_of es end) (offset_of es root) (offset_of es end) lie.from (omega arith) (reached reach es n)
    (reach_between reach n (offset_of es n) (offset_of es end) (tree_at n (forest row_of es)) lie.to)
