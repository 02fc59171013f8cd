-- The walks to one element of trees agree.
use Rattle.std.proofs.Common.{◌≡◌, ℕ, zero, suc, ◌+◌, ◌-◌, ◌<◌, ◌≤◌, List, [], ◌∷◌, ◌++◌, length, take, drop, map}
use Rattle.std.proofs.Common.{refl, sym, ap, ◌∙◌, arith, append_assoc, length-append, Bool, true, false, cond}
use Rattle.std.specs.Prelude.{Some, None, option_map, nat_lt}
use Rattle.std.proofs.lemmas.List.{append-nil, take_at, drop_at}
use Rattle.std.proofs.lemmas.Option.{slice_get_within}
use Rattle.std.proofs.lemmas.Bool.{cond-true, cond-false, ltb-true, ltb-false}
use Rattle.dgn_drawing.specs.Element.{Element}
use Rattle.dgn_drawing.specs.Spelling.{spelling, size_of}
use Rattle.dgn_drawing.specs.Rows.{row_of}
use Rattle.dgn_drawing.specs.Nesting.{Knot, Forest, NoTree, Tree, flat, forest}
use Rattle.dgn_drawing.specs.Numbering.{Mark, end_of, marks_of, mark_of, span_of, headers_in}
use Rattle.nest_tree.proofs.LookUps.{found_of}
use Rattle.nest_tree.proofs.ListStacks.{length-marks}
use Rattle.nest_tree.proofs.NestingSteps.{flat-forest}
use Rattle.edit_ops.specs.Trees.{Live, count_in, tree_at, exchange, above_from}
use Rattle.edit_ops.specs.WalkLaws.{HeadersAreNumbered, PartsAreSpans, ExchangesAreLocal}
use Rattle.edit_ops.proofs.PartPlace.{IsPlaced, placed, flat-joined}

-- ---- the headers above

either_numbers : (t : Bool) (a b : List Live) (x y : List ℕ) → map (λ (v : Live). v.number) a ≡ x → map (λ (v : Live). v.number) b ≡ y
    → map (λ (v : Live). v.number) (cond t a b) ≡ cond t x y
either_numbers true a b x y first second = first
either_numbers false a b x y first second = second

numbers_in : (f : Forest Element) (n first p : ℕ) → map (λ (v : Live). v.number) (above_from n first p f) ≡ headers_in n first f
numbers_in NoTree n first p = refl
numbers_in (Tree knot e below behind) zero first p = refl
numbers_in (Tree knot e below behind) (suc n) first p =
    let here : Live = record { number = first; place = p; element = e } in
    let past : ℕ = p + (size_of e + length (spelling (flat below))) in
    either_numbers (nat_lt n (count_in below)) (here ∷ above_from n (first + 1) (p + size_of e) below)
    (above_from (n - count_in below) (end_of first below) past behind)
    (first ∷ headers_in n (first + 1) below) (headers_in (n - count_in below) (end_of first below) behind)
    (ap (λ (l : List ℕ). first ∷ l) (numbers_in below n (first + 1) (p + size_of e)))
    (numbers_in behind (n - count_in below) (end_of first below) past)

pub headers_are_numbered : HeadersAreNumbered
headers_are_numbered es n = numbers_in (forest row_of es) n 0 0

-- ---- the part

-- an element with a span is there, and the span ends with its mark
span_there : (es : List Element) (n end : ℕ) → span_of row_of es n ≡ Some (n, end) → (n < length es)
    × (option_map (λ (m : Mark). m.end) (mark_of row_of es n) ≡ Some end)
span_there es n end span =
    let found = found_of (λ (m : Mark). (n, m.end)) (mark_of row_of es n) (n, end) (sym span) in
    let same : found.0.end ≡ end = sym (ap (λ (q : ℕ × ℕ). q.1) found.2) in (
      omega (
        arith,
        slice_get_within (marks_of (forest row_of es)) n found.0 found.1,
        length-marks (forest row_of es) 0 0 None,
        ap (length {A = Element}) (flat-forest row_of es),
      ),
      ap (option_map (λ (m : Mark). m.end)) found.1 ∙ ap Some same,
    )

module _ (es : List Element) (n end : ℕ) (known : n < length es) (ends_at : option_map (λ (m : Mark). m.end) (mark_of row_of es n) ≡ Some end) where
  p : IsPlaced es n
  p = placed es n known

  abbrev part : List Element
  part = p.head ∷ flat p.below

  end_is : end ≡ n + length part
  end_is =
      let some : Some end ≡ Some p.mark.end = sym ends_at ∙ ap (option_map (λ (m : Mark). m.end)) p.marked in
      let same : end ≡ p.mark.end = cc in
      omega (arith, same, p.end)

  part_is : flat (tree_at n (forest row_of es)) ≡ part
  part_is = ap flat p.tree ∙ ap (λ (l : List Element). p.head ∷ l) (append-nil (flat p.below))

  left : drop n es ≡ part ++ p.behind
  left = ap (drop n) p.parts ∙ drop_at p.front (part ++ p.behind) n p.count

  pub spanned : flat (tree_at n (forest row_of es)) ≡ take (end - n) (drop n es)
  spanned =
      part_is ∙ sym (take_at part p.behind (end - n) (omega (arith, end_is))) ∙ ap (take (end - n)) (sym left)

  -- it has as many elements
  pub part_long : length (flat (tree_at n (forest row_of es))) + n ≡ end
  part_long = omega (arith, end_is, ap (length {A = Element}) part_is)

pub parts_are_spans : PartsAreSpans
parts_are_spans es n end span = let there = span_there es n end span in spanned es n end there.0 there.1

-- ---- the exchange

-- the n-th element of trees stands between others, and so does another tree in its place
record Exchanged (f : Forest Element) (n : ℕ) (other : Forest Element → Forest Element) : Type 0 where
  pub front : List Element
  pub behind : List Element
  pub count : length front ≡ n
  pub parts : flat f ≡ front ++ (flat (tree_at n f) ++ behind)
  pub exchanged : flat (exchange (λ header. header) other n f) ≡ front ++ (flat (other (tree_at n f)) ++ behind)

-- three lists behind one, and then a fourth
gathered : (h : Element) (a b c d : List Element) → h ∷ ((a ++ (b ++ c)) ++ d) ≡ (h ∷ a) ++ (b ++ (c ++ d))
gathered h a b c d = simp append_assoc

behind_tree : (h : Element) (a b c : List Element) → h ∷ (a ++ (b ++ c)) ≡ (h ∷ (a ++ b)) ++ c
behind_tree h a b c = simp append_assoc

-- the same of one of two
either_exchanged : (t : Bool) (n : ℕ) (other : Forest Element → Forest Element) (knot : Knot) (h : Element) (below behind : Forest Element)
    → (t ≡ true → Exchanged below n other) → (t ≡ false → (length (flat below) ≤ n) × Exchanged behind (n - count_in below) other)
    → nat_lt n (count_in below) ≡ t → Exchanged (Tree knot h below behind) (suc n) other
either_exchanged true n other knot h below behind inner outer is =
    let x = inner refl in
    let tree : tree_at (suc n) (Tree knot h below behind) ≡ tree_at n below = cond-true (nat_lt n (count_in below)) _ _ is in
    let trees : exchange (λ header. header) other (suc n) (Tree knot h below behind) ≡ Tree knot h (exchange (λ header. header) other n below) behind =
    cond-true (nat_lt n (count_in below)) _ _ is in
    record {
      front = h ∷ x.front;
      behind = x.behind ++ flat behind;
      count = ap suc x.count;
      parts = ap (λ (l : List Element). h ∷ (l ++ flat behind)) x.parts
          ∙ gathered h x.front (flat (tree_at n below)) x.behind (flat behind)
          ∙ ap (λ (t : Forest Element). (h ∷ x.front) ++ (flat t ++ (x.behind ++ flat behind))) (sym tree);
      exchanged = ap flat trees
          ∙ ap (λ (l : List Element). h ∷ (l ++ flat behind)) x.exchanged
          ∙ gathered h x.front (flat (other (tree_at n below))) x.behind (flat behind)
          ∙ ap (λ (t : Forest Element). (h ∷ x.front) ++ (flat (other t) ++ (x.behind ++ flat behind))) (sym tree);
    }
either_exchanged false n other knot h below behind inner outer is =
    let late = (outer refl).0 in
    let x = (outer refl).1 in
    let tree : tree_at (suc n) (Tree knot h below behind) ≡ tree_at (n - count_in below) behind = cond-false (nat_lt n (count_in below)) _ _ is in
    let trees : exchange (λ header. header) other (suc n) (Tree knot h below behind)
    ≡ Tree knot h below (exchange (λ header. header) other (n - count_in below) behind) =
    cond-false (nat_lt n (count_in below)) _ _ is in
    record {
      front = h ∷ (flat below ++ x.front);
      behind = x.behind;
      count = omega (arith, x.count, length-append (flat below) x.front);
      parts = ap (λ (l : List Element). h ∷ (flat below ++ l)) x.parts
          ∙ behind_tree h (flat below) x.front (flat (tree_at (n - count_in below) behind) ++ x.behind)
          ∙ ap (λ (t : Forest Element). (h ∷ (flat below ++ x.front)) ++ (flat t ++ x.behind)) (sym tree);
      exchanged = ap flat trees
          ∙ ap (λ (l : List Element). h ∷ (flat below ++ l)) x.exchanged
          ∙ behind_tree h (flat below) x.front (flat (other (tree_at (n - count_in below) behind)) ++ x.behind)
          ∙ ap (λ (t : Forest Element). (h ∷ (flat below ++ x.front)) ++ (flat (other t) ++ x.behind)) (sym tree);
    }

exchanged_in : (f : Forest Element) (n : ℕ) (other : Forest Element → Forest Element) → n < length (flat f) → Exchanged f n other
exchanged_in NoTree n other known = absurd (omega arith)
exchanged_in (Tree knot h below behind) zero other known = record {
  front = [];
  behind = flat behind;
  count = refl;
  parts = ap (λ (l : List Element). h ∷ (l ++ flat behind)) (sym (append-nil (flat below)));
  exchanged = flat-joined (other (Tree knot h below NoTree)) behind;
}
exchanged_in (Tree knot h below behind) (suc n) other known =
    either_exchanged (nat_lt n (count_in below)) n other knot h below behind
    (λ is. let early : n < length (flat below) = ltb-true n (length (flat below)) is in exchanged_in below n other early)
    (λ is.
    let late : length (flat below) ≤ n = ltb-false n (length (flat below)) is in
    (late, exchanged_in behind (n - count_in below) other (omega (arith, known, length-append (flat below) (flat behind)))))
    refl

pub exchanges_are_local : ExchangesAreLocal
exchanges_are_local es n end other span =
    let there = span_there es n end span in
    let whole = flat-forest row_of es in
    let x = exchanged_in (forest row_of es) n other (omega (arith, there.0, ap (length {A = Element}) whole)) in
    let part : List Element = flat (tree_at n (forest row_of es)) in
    let parts : es ≡ x.front ++ (part ++ x.behind) = sym whole ∙ x.parts in
    let front : take n es ≡ x.front = ap (take n) parts ∙ take_at x.front (part ++ x.behind) n x.count in
    let long : length part + n ≡ end = part_long es n end there.0 there.1 in
    let behind : drop end es ≡ x.behind =
    ap (drop end) (parts ∙ sym (append_assoc x.front part x.behind))
    ∙ drop_at (x.front ++ part) x.behind end (omega (arith, long, x.count, length-append x.front part)) in
    x.exchanged
    ∙ ap (λ (l : List Element). l ++ (flat (other (tree_at n (forest row_of es))) ++ x.behind)) (sym front)
    ∙ ap (λ (l : List Element). take n es ++ (flat (other (tree_at n (forest row_of es))) ++ l)) (sym behind)
