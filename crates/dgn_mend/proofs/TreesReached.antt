-- Mending arrives at each element without bit C that begins a tree, so that the trees without a broken number stay.
use Rattle.std.proofs.Common.{◌≡◌, ℕ, zero, suc, ◌+◌, ◌<◌, ◌≤◌, Bool, true, false, cond, List, [], ◌∷◌, ◌++◌, length, take, drop, refl, sym, ap, ◌∙◌, subst, arith}
use Rattle.std.proofs.Common.{length-append, append_assoc}
use Rattle.std.specs.Prelude.{◌&&◌, not, IsTrue}
use Rattle.std.specs.List.{AllByRecursion}
use Rattle.std.proofs.lemmas.List.{take-append-drop, take-append-le, drop-append-le, length-take, length-drop, length-take-le}
use Rattle.std.proofs.lemmas.Bool.{cond_both, both_ways}
use Rattle.dgn_drawing.specs.Element.{Element}
use Rattle.dgn_drawing.specs.Nesting.{Knot, Leaf, Scope, Whole, Forest, NoTree, Tree, Shape, shape, nest, forest, flat, joined}
use Rattle.dgn_drawing.specs.Rows.{row_of}
use Rattle.dgn_drawing.specs.Opening.{Opens}
use Rattle.nest_tree.proofs.NestingSteps.{nest_cons, nest_nil, count_within, flat-nest}
use Rattle.dgn_mend.specs.Mending.{Taken, still_waiting, taken, mended_within, mended, mend}
use Rattle.dgn_mend.specs.Laws.{HasNoLoose, has_trees, IsSoundBehind, SoundTreesStay}
use Rattle.dgn_mend.proofs.SoundTrees.{top_stays}
use Rattle.dgn_mend.proofs.MembersTaken.{AreMarked, taken_marked}

-- mending keeps the number of elements
pub length_within : (n dim : ℕ) (top : Bool) (w l : List Element) → length (mended_within n dim top w l) ≡ length l
unfolding mended_within
length_within zero dim top w l = refl
length_within (suc n) dim top w [] = refl
length_within (suc n) dim top w (h ∷ r) =
    let t : Taken = taken dim top (still_waiting top h w) h r in
    let below : List Element = cond t.goes (mended_within n dim false [] (take t.below r)) (take t.below r) in
    let one : length below ≡ length (take t.below r) =
    cond_both t.goes (mended_within n dim false [] (take t.below r)) (take t.below r) (λ x. length x ≡ length (take t.below r))
    (λ _. length_within n dim false [] (take t.below r)) (λ _. refl) in
    let two = length_within n dim top t.waiting (drop t.below r) in
    let both = ap (length {A = Element}) (take-append-drop t.below r) in
    omega (arith, one, two, both, length-append (take t.below r) (drop t.below r), length-append below (mended_within n dim top t.waiting (drop t.below r)))

-- elements with bit C end before one without it
marked_short : (k : ℕ) (a : List Element) (h : Element) (r : List Element) → h.cbit ≡ false
    → AllByRecursion (λ (e : Element). IsTrue e.cbit) (take k (a ++ (h ∷ r))) → k ≤ length a
marked_short zero a h r free marked = omega arith
marked_short (suc k) [] h r free marked = absurd (both_ways h.cbit free marked.0)
marked_short (suc k) (x ∷ a) h r free marked = omega (arith, marked_short k a h r free marked.1)

-- mending of a list goes on at one of its elements with no header that waits
record Reaches (dim n : ℕ) (w a : List Element) (h : Element) (r : List Element) : Type 0 where
  pub front : List Element
  pub steps : ℕ
  pub long : length front ≡ length a
  pub is : mended_within n dim true w (a ++ (h ∷ r)) ≡ front ++ mended_within (suc steps) dim true [] (h ∷ r)

none_wait : (h : Element) (w : List Element) → h.cbit ≡ false → still_waiting true h w ≡ []
none_wait h w free = ap (λ (c : Bool). cond (true && not c) [] w) free

reached : (n dim : ℕ) (w a : List Element) (h : Element) (r : List Element) → h.cbit ≡ false → length (a ++ (h ∷ r)) ≤ n → Reaches dim n w a h r
unfolding mended_within
reached zero dim w [] h r free few = absurd (omega arith)
reached zero dim w (x ∷ a) h r free few = absurd (omega arith)
reached (suc n) dim w [] h r free few = record {
  front = [];
  steps = n;
  long = refl;
  is = ap (λ (v : List Element). (taken dim true v h r).head
      ∷ (cond (taken dim true v h r).goes (mended_within n dim false [] (take (taken dim true v h r).below r)) (take (taken dim true v h r).below r)
      ++ mended_within n dim true (taken dim true v h r).waiting (drop (taken dim true v h r).below r)))
      (none_wait h w free ∙ sym (none_wait h [] free));
}
reached (suc n) dim w (x ∷ a) h r free few =
    let l : List Element = a ++ (h ∷ r) in
    let t : Taken = taken dim true (still_waiting true x w) x l in
    let short : t.below ≤ length a = marked_short t.below a h r free (taken_marked dim true (still_waiting true x w) x l).marked in
    let below : List Element = cond t.goes (mended_within n dim false [] (take t.below l)) (take t.below l) in
    let long_below : length below ≡ t.below =
    cond_both t.goes (mended_within n dim false [] (take t.below l)) (take t.below l) (λ z. length z ≡ length (take t.below l))
    (λ _. length_within n dim false [] (take t.below l)) (λ _. refl)
    ∙ length-take-le t.below l (omega (arith, length-append a (h ∷ r))) in
    let apart : drop t.below l ≡ drop t.below a ++ (h ∷ r) = drop-append-le t.below a (h ∷ r) short in
    let more = reached n dim t.waiting (drop t.below a) h r free
    (omega (arith, length-append (drop t.below a) (h ∷ r), length-append a (h ∷ r), length-drop t.below a)) in
    let rest : List Element = mended_within (suc more.steps) dim true [] (h ∷ r) in
    record {
      front = t.head ∷ (below ++ more.front);
      steps = more.steps;
      long = omega (arith, length-append below more.front, long_below, more.long, length-drop t.below a);
      is = ap (λ (z : List Element). t.head ∷ (below ++ mended_within n dim true t.waiting z)) apart
          ∙ ap (λ (z : List Element). t.head ∷ (below ++ z)) more.is
          ∙ ap (λ (z : List Element). t.head ∷ z) (sym (append_assoc below more.front rest));
    }

-- where a tree stands behind others in the nesting of a list, and what it is
record StandsBehind (before : Forest Element) (knot : Knot) (h : Element) (below : Forest Element) (l : List Element) : Type 0 where
  pub front : List Element
  pub rest : List Element
  pub long : length front ≡ length (flat before)
  pub is : l ≡ front ++ (h ∷ rest)
  pub knot_is : knot ≡ (shape row_of Whole h rest).knot
  pub below_is : below ≡ nest row_of (shape row_of Whole h rest).inside (take (shape row_of Whole h rest).count rest)

-- two trees are the same in each of their parts
record SameTree (k k' : Knot) (h h' : Element) (b b' f f' : Forest Element) : Type 0 where
  pub knots : k ≡ k'
  pub heads : h ≡ h'
  pub belows : b ≡ b'
  pub behinds : f ≡ f'

same_tree : {k k' : Knot} {h h' : Element} {b b' f f' : Forest Element} → Tree k h b f ≡ Tree k' h' b' f' → SameTree k k' h h' b b' f f'
same_tree is = record { knots = cc; heads = cc; belows = cc; behinds = cc }

abbrev ShapedAs : Knot → Forest Element → List Element → Element → Type 0
ShapedAs knot below rest h =
    (knot ≡ (shape row_of Whole h rest).knot)
    × (below ≡ nest row_of (shape row_of Whole h rest).inside (take (shape row_of Whole h rest).count rest))

stands : (before : Forest Element) (knot : Knot) (h : Element) (below behind : Forest Element) (l : List Element)
    → nest row_of Whole l ≡ joined before (Tree knot h below behind) → StandsBehind before knot h below l
stands NoTree knot h below behind [] is = absurd (let e : NoTree ≡ Tree knot h below behind = sym (nest_nil row_of Whole) ∙ is in cc)
stands NoTree knot h below behind (x ∷ r) is =
    let same = same_tree (sym (nest_cons row_of Whole x r) ∙ is) in
    let shaped : ShapedAs knot below r h = subst (ShapedAs knot below r) same.heads (sym same.knots, sym same.belows) in
    record {
      front = [];
      rest = r;
      long = refl;
      is = ap (λ (z : Element). z ∷ r) same.heads;
      knot_is = shaped.0;
      below_is = shaped.1;
    }
stands (Tree k g b f) knot h below behind [] is =
    absurd (let e : NoTree ≡ Tree k g b (joined f (Tree knot h below behind)) = sym (nest_nil row_of Whole) ∙ is in cc)
stands (Tree k g b f) knot h below behind (x ∷ r) is =
    let s : Shape = shape row_of Whole x r in
    let same = same_tree (sym (nest_cons row_of Whole x r) ∙ is) in
    let more = stands f knot h below behind (drop s.count r) same.behinds in
    let inner : flat b ≡ take s.count r = ap flat (sym same.belows) ∙ flat-nest row_of s.inside (take s.count r) in
    record {
      front = x ∷ (take s.count r ++ more.front);
      rest = more.rest;
      long = omega (arith, length-append (take s.count r) more.front, length-append (flat b) (flat f), more.long, ap (length {A = Element}) inner);
      is = ap (λ (z : List Element). x ∷ z) (sym (take-append-drop s.count r) ∙ ap (λ (z : List Element). take s.count r ++ z) more.is
          ∙ sym (append_assoc (take s.count r) more.front (h ∷ more.rest)));
      knot_is = more.knot_is;
      below_is = more.below_is;
    }

-- the law on trees without a broken number
abbrev Stays : ℕ → List Element → Forest Element → Element → Forest Element → Type 0
Stays dim es before h below =
    (first : List Element) × (last : List Element) × (length first ≡ length (flat before)) × (mend dim es ≡ first ++ ((h ∷ flat below) ++ last))

tree_stays : (dim : ℕ) (es : List Element) (before behind : Forest Element) (knot : Knot) (h : Element) (below : Forest Element)
    → forest row_of es ≡ joined before (Tree knot h below behind) → IsSoundBehind before knot h below → Stays dim es before h below
tree_stays dim [] NoTree behind knot h below is sound = absurd (cc)
tree_stays dim [] (Tree k g b f) behind knot h below is sound = absurd (cc)
tree_stays dim (e ∷ es) NoTree behind knot h below is sound =
    let same = same_tree is in
    let last : List Element = mended dim true [] es in (
      [],
      last,
      refl,
      ap (λ (z : Element). z ∷ last) same.heads ∙ ap (λ (z : Forest Element). h ∷ (flat z ++ last)) same.belows,
    )
tree_stays dim (e ∷ es) (Tree k g b f) behind knot h below is sound =
    let same = same_tree is in
    let at = stands f knot h below behind es same.behinds in
    let free : h.cbit ≡ false = sound.free refl in
    let rest : List Element = at.rest in
    let s : Shape = shape row_of Whole h rest in
    let few : length (at.front ++ (h ∷ rest)) ≤ length es = omega (arith, ap (length {A = Element}) at.is) in
    let there = reached (length es) dim [] at.front h rest free few in
    let inside : Forest Element = nest row_of s.inside (take s.count rest) in
    let one : HasNoLoose (Tree s.knot h below NoTree) = subst (λ (z : Knot). HasNoLoose (Tree z h below NoTree)) at.knot_is sound.whole in
    let two : HasNoLoose (Tree s.knot h inside NoTree) = subst (λ (z : Forest Element). HasNoLoose (Tree s.knot h z NoTree)) at.below_is one in
    let kept = top_stays there.steps dim [] h rest free two in
    let members : take s.count rest ≡ flat below = sym (flat-nest row_of s.inside (take s.count rest)) ∙ ap flat (sym at.below_is) in
    let none : flat b ≡ [] = ap flat (sym same.belows) in (
      e ∷ there.front,
      kept.0,
      omega (arith, there.long, at.long, length-append (flat b) (flat f), ap (length {A = Element}) none),
      ap (λ (z : List Element). e ∷ mended_within (length es) dim true [] z) at.is
          ∙ ap (λ (z : List Element). e ∷ z) there.is
          ∙ ap (λ (z : List Element). e ∷ (there.front ++ z)) kept.1
          ∙ ap (λ (z : List Element). e ∷ (there.front ++ (h ∷ (z ++ kept.0)))) members,
    )

pub sound_stay : SoundTreesStay
sound_stay f dim es t before behind knot h below opens is sound = tree_stays dim es before behind knot h below is sound
