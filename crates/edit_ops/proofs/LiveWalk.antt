-- What is left of the tree of one element where its elements are gone through from the first to the last, and
-- a dead one is passed with all below it.
use Rattle.std.proofs.Common.{◌≡◌, ℕ, suc, ◌+◌, ◌<◌, ◌≤◌, List, [], ◌∷◌, ◌++◌, length, drop, map, refl, sym, ap, ◌∙◌, arith, append_assoc, length-append}
use Rattle.std.proofs.Common.{Bool, true, false, cond, inl, inr}
use Rattle.std.specs.Prelude.{Option, Some, option_map, slice_get}
use Rattle.std.proofs.lemmas.List.{append-nil, drop_at, map-append}
use Rattle.std.proofs.lemmas.Option.{slice_get_within}
use Rattle.std.proofs.lemmas.Bool.{cases_Bool, cond-true, cond-false}
use Rattle.dgn_drawing.specs.Element.{Element}
use Rattle.dgn_drawing.specs.Spelling.{spelling, size_of}
use Rattle.dgn_drawing.specs.Rows.{row_of}
use Rattle.dgn_drawing.specs.Nesting.{Knot, Forest, NoTree, Tree, flat, forest, joined}
use Rattle.dgn_drawing.specs.Numbering.{Mark, end_of, mark_of}
use Rattle.dgn_drawing.proofs.ListRests.{drop_front}
use Rattle.elem_index.specs.Offsets.{offset_of}
use Rattle.edit_ops.specs.Trees.{Live, live_from, live_tree}
use Rattle.edit_ops.proofs.PartPlace.{ends, length-ends, flat-joined, IsPlaced, placed, mark_ends, first_left, others_left}
use Rattle.edit_ops.proofs.EachLive.{live_first, live_behind, live_dead, live_alive}

-- the numbers of the live elements of trees that are numbered from n on
abbrev pub numbers : Forest Element → ℕ → List ℕ
numbers NoTree n = []
numbers (Tree knot e below behind) n = cond e.deleted [] (n ∷ numbers below (n + 1)) ++ numbers behind (end_of n below)

-- a place has no part in them
pub numbers_live : (n p : ℕ) (f : Forest Element) → map (λ (v : Live). v.number) (live_from n p f) ≡ numbers f n
numbers_live n p NoTree = refl
numbers_live n p (Tree knot e below behind) =
    let inner = numbers_live (n + 1) (p + size_of e) below in
    let outer = numbers_live (end_of n below) (p + (size_of e + length (spelling (flat below)))) behind in
    elim (cases_Bool e.deleted) [
      | inl dead ↦
          ap (map (λ (v : Live). v.number)) (live_dead n p knot e below behind dead) ∙ outer
          ∙ ap (λ (l : List ℕ). l ++ numbers behind (end_of n below)) (sym (cond-true e.deleted [] (n ∷ numbers below (n + 1)) dead))
      | inr alive ↦
          ap (map (λ (v : Live). v.number)) (live_alive n p knot e below behind alive)
          ∙ map-append (λ (v : Live). v.number) (live_first n p e below) (live_behind n p e below behind)
          ∙ ap (λ (l : List ℕ). (n ∷ l) ++ map (λ (v : Live). v.number) (live_behind n p e below behind)) inner
          ∙ ap (λ (l : List ℕ). (n ∷ numbers below (n + 1)) ++ l) outer
          ∙ ap (λ (l : List ℕ). l ++ numbers behind (end_of n below)) (sym (cond-false e.deleted [] (n ∷ numbers below (n + 1)) alive))
    ]

-- the numbers of trees behind trees go on where those of the first end
numbers-joined : (f g : Forest Element) (n at : ℕ) → at ≡ n + length (flat f) → numbers (joined f g) n ≡ numbers f n ++ numbers g at
numbers-joined NoTree g n at is = let e : n ≡ at = omega arith in ap (numbers g) e
numbers-joined (Tree knot e below behind) g n at is =
    let rest = numbers-joined behind g (end_of n below) at (omega (arith, length-append (flat below) (flat behind))) in
    ap (λ (l : List ℕ). cond e.deleted [] (n ∷ numbers below (n + 1)) ++ l) rest
    ∙ sym (append_assoc (cond e.deleted [] (n ∷ numbers below (n + 1))) (numbers behind (end_of n below)) (numbers g at))

-- and so do the ends
pub ends-joined : {A : Type 0} (f g : Forest A) (n at : ℕ) → at ≡ n + length (flat f) → ends (joined f g) n ≡ ends f n ++ ends g at
ends-joined NoTree g n at is = let e : n ≡ at = omega arith in ap (ends g) e
ends-joined (Tree knot h below behind) g n at is =
    let rest = ends-joined behind g (end_of n below) at (omega (arith, length-append (flat below) (flat behind))) in
    ap (λ (l : List ℕ). end_of n below ∷ (ends below (n + 1) ++ l)) rest
    ∙ ap (λ (l : List ℕ). end_of n below ∷ l) (sym (append_assoc (ends below (n + 1)) (ends behind (end_of n below)) (ends g at)))

-- the elements of the tree of element n, of which those before number i are gone through and gave these
-- numbers: the trees that are left, which end before number `end`
pub record IsLeft (es : List Element) (n end i : ℕ) (live : List ℕ) : Type 0 where
  pub left : Forest Element
  pub behind : List Element
  pub ends_behind : List ℕ
  pub listed : drop i es ≡ flat left ++ behind
  pub reach : i + length (flat left) ≡ end
  pub ended : drop i (ends (forest row_of es) 0) ≡ ends left i ++ ends_behind
  pub all : live ++ numbers left i ≡ map (λ (v : Live). v.number) (live_tree es n)

-- where some are left, they begin with a tree
record Goes (es : List Element) (n end i : ℕ) (live : List ℕ) : Type 0 where
  knot : Knot
  head : Element
  below : Forest Element
  others : Forest Element
  behind : List Element
  ends_behind : List ℕ
  listed : drop i es ≡ head ∷ ((flat below ++ flat others) ++ behind)
  reach : i + suc (length (flat below ++ flat others)) ≡ end
  ended : drop i (ends (forest row_of es) 0) ≡ end_of i below ∷ ((ends below (i + 1) ++ ends others (end_of i below)) ++ ends_behind)
  all : live ++ numbers (Tree knot head below others) i ≡ map (λ (v : Live). v.number) (live_tree es n)

begins : (es : List Element) (n end i : ℕ) (live : List ℕ) (left : Forest Element) (behind : List Element) (ends_behind : List ℕ)
    → drop i es ≡ flat left ++ behind → i + length (flat left) ≡ end → drop i (ends (forest row_of es) 0) ≡ ends left i ++ ends_behind
    → live ++ numbers left i ≡ map (λ (v : Live). v.number) (live_tree es n) → i < end → Goes es n end i live
begins es n end i live NoTree behind ends_behind listed reach ended all more = absurd (omega arith)
begins es n end i live (Tree knot e below others) behind ends_behind listed reach ended all more = record {
  knot = knot;
  head = e;
  below = below;
  others = others;
  behind = behind;
  ends_behind = ends_behind;
  listed = listed;
  reach = reach;
  ended = ended;
  all = all;
}

ends_here : (live : List ℕ) (left : Forest Element) (i end : ℕ) → i + length (flat left) ≡ end → end ≤ i → live ++ numbers left i ≡ live
ends_here live NoTree i end reach past = append-nil live
ends_here live (Tree knot e below others) i end reach past = absurd (omega arith)

-- what is said of something that is there
one_of : {A B : Type 0} (f : A → B) (o : Option A) (x : A) (y : B) → o ≡ Some x → Some y ≡ option_map f o → y ≡ f x
one_of {A} {B} f o x y there said = let e : Some y ≡ Some (f x) = said ∙ ap (option_map f) there in cc

module _ (es : List Element) (n end i : ℕ) (live : List ℕ) (so_far : IsLeft es n end i live) where
  -- behind the last of them all numbers are known
  pub all_numbers : end ≤ i → live ≡ map (λ (v : Live). v.number) (live_tree es n)
  all_numbers past = sym (ends_here live so_far.left i end so_far.reach past) ∙ so_far.all

  module _ (more : i < end) where
    goes : Goes es n end i live
    goes = begins es n end i live so_far.left so_far.behind so_far.ends_behind so_far.listed so_far.reach so_far.ended so_far.all more

    here : slice_get es i ≡ Some goes.head
    here = first_left es i goes.head ((flat goes.below ++ flat goes.others) ++ goes.behind) goes.listed

    -- the next element is there
    pub next_known : i < length es
    next_known = slice_get_within es i goes.head here

    end_here : slice_get (ends (forest row_of es) 0) i ≡ Some (end_of i goes.below)
    end_here = first_left (ends (forest row_of es) 0) i (end_of i goes.below)
        ((ends goes.below (i + 1) ++ ends goes.others (end_of i goes.below)) ++ goes.ends_behind) goes.ended

    listed_next : drop (i + 1) es ≡ flat goes.below ++ (flat goes.others ++ goes.behind)
    listed_next = others_left es i goes.head ((flat goes.below ++ flat goes.others) ++ goes.behind) goes.listed
        ∙ append_assoc (flat goes.below) (flat goes.others) goes.behind

    ended_next : drop (i + 1) (ends (forest row_of es) 0) ≡ ends goes.below (i + 1) ++ (ends goes.others (end_of i goes.below) ++ goes.ends_behind)
    ended_next = others_left (ends (forest row_of es) 0) i (end_of i goes.below)
        ((ends goes.below (i + 1) ++ ends goes.others (end_of i goes.below)) ++ goes.ends_behind) goes.ended
        ∙ append_assoc (ends goes.below (i + 1)) (ends goes.others (end_of i goes.below)) goes.ends_behind

    module _ (deleted : Bool) (said : Some deleted ≡ option_map (λ (e : Element). e.deleted) (slice_get es i)) where
      deleted_is : deleted ≡ goes.head.deleted
      deleted_is = one_of (λ (e : Element). e.deleted) (slice_get es i) goes.head deleted here said

      -- a live one gives its number, and what is below it is next
      pub enters : deleted ≡ false → IsLeft es n end (i + 1) (live ++ i ∷ [])
      enters clear =
          let alive : goes.head.deleted ≡ false = sym deleted_is ∙ clear in
          let reached = goes.reach in
          let at : end_of i goes.below ≡ i + 1 + length (flat goes.below) = refl in
          record {
            left = joined goes.below goes.others;
            behind = goes.behind;
            ends_behind = goes.ends_behind;
            listed = listed_next ∙ sym (append_assoc (flat goes.below) (flat goes.others) goes.behind)
                ∙ ap (λ (l : List Element). l ++ goes.behind) (sym (flat-joined goes.below goes.others));
            reach = omega (arith, ap (length {A = Element}) (flat-joined goes.below goes.others));
            ended = ended_next ∙ sym (append_assoc (ends goes.below (i + 1)) (ends goes.others (end_of i goes.below)) goes.ends_behind)
                ∙ ap (λ (l : List ℕ). l ++ goes.ends_behind) (sym (ends-joined goes.below goes.others (i + 1) (end_of i goes.below) at));
            all = append_assoc live (i ∷ []) (numbers (joined goes.below goes.others) (i + 1))
                ∙ ap (λ (l : List ℕ). live ++ (i ∷ l)) (numbers-joined goes.below goes.others (i + 1) (end_of i goes.below) at)
                ∙ ap (λ (l : List ℕ). live ++ (l ++ numbers goes.others (end_of i goes.below)))
                (sym (cond-false goes.head.deleted [] (i ∷ numbers goes.below (i + 1)) alive))
                ∙ goes.all;
          }

      module _ (next : ℕ) (ends_at : Some next ≡ option_map (λ (m : Mark). m.end) (mark_of row_of es i)) where
        next_is : next ≡ end_of i goes.below
        next_is = let e : Some next ≡ Some (end_of i goes.below) = ends_at ∙ mark_ends es i ∙ end_here in cc

        -- a dead one is passed with all below it
        pub passes : deleted ≡ true → IsLeft es n end next live
        passes set =
            let dead : goes.head.deleted ≡ true = sym deleted_is ∙ set in
            let reached = goes.reach in
            let is = next_is in
            let at : next ≡ i + 1 + length (flat goes.below) = next_is in
            let at_ends : next ≡ i + 1 + length (ends goes.below (i + 1)) = omega (arith, length-ends goes.below (i + 1)) in
            record {
              left = goes.others;
              behind = goes.behind;
              ends_behind = goes.ends_behind;
              listed = drop_front es (flat goes.below) (flat goes.others ++ goes.behind) (i + 1) next at listed_next;
              reach = omega (arith, length-append (flat goes.below) (flat goes.others));
              ended = drop_front (ends (forest row_of es) 0) (ends goes.below (i + 1)) (ends goes.others (end_of i goes.below) ++ goes.ends_behind) (i + 1)
                  next at_ends ended_next
                  ∙ ap (λ (k : ℕ). ends goes.others k ++ goes.ends_behind) (sym next_is);
              all = ap (λ (k : ℕ). live ++ numbers goes.others k) next_is
                  ∙ ap (λ (l : List ℕ). live ++ (l ++ numbers goes.others (end_of i goes.below)))
                  (sym (cond-true goes.head.deleted [] (i ∷ numbers goes.below (i + 1)) dead))
                  ∙ goes.all;
            }

        -- so what is behind it comes later
        pub goes_on : i < next
        goes_on = omega (arith, next_is)

-- at first all of the tree is left
pub all_left : (es : List Element) (n end : ℕ) → n < length es → Some end ≡ option_map (λ (m : Mark). m.end) (mark_of row_of es n) → IsLeft es n end n []
all_left es n end known ends_at =
    let p : IsPlaced es n = placed es n known in
    let end_is : end ≡ end_of n p.below = one_of (λ (m : Mark). m.end) (mark_of row_of es n) p.mark end p.marked ends_at ∙ p.end in
    record {
      left = Tree p.knot p.head p.below NoTree;
      behind = p.behind;
      ends_behind = p.ends_behind;
      listed = ap (drop n) p.parts ∙ drop_at p.front ((p.head ∷ flat p.below) ++ p.behind) n p.count
          ∙ ap (λ (l : List Element). (p.head ∷ l) ++ p.behind) (sym (append-nil (flat p.below)));
      reach = omega (arith, length-append (flat p.below) []);
      ended = p.ended ∙ ap (λ (l : List ℕ). end_of n p.below ∷ (l ++ p.ends_behind)) (sym (append-nil (ends p.below (n + 1))));
      all = sym (numbers_live n (offset_of es n) (Tree p.knot p.head p.below NoTree))
          ∙ ap (λ (f : Forest Element). map (λ (v : Live). v.number) (live_from n (offset_of es n) f)) (sym p.tree);
    }
