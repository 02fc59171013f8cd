-- The live elements of a tree are those that stand at their numbers.
use Rattle.std.proofs.Common.{◌≡◌, ℕ, ◌+◌, ◌<◌, List, [], ◌∷◌, ◌++◌, length, drop, map, refl, sym, ap, ◌∙◌, arith, append_assoc, length-append, inl, inr}
use Rattle.std.specs.Prelude.{Option, Some, option_map, slice_get}
use Rattle.std.specs.Option.{option_to_list}
use Rattle.std.proofs.lemmas.List.{append-nil, drop_at, map-append}
use Rattle.std.proofs.lemmas.Option.{slice_get_within}
use Rattle.std.proofs.lemmas.Grind.{flat_map-append}
use Rattle.std.proofs.lemmas.Bool.{cases_Bool}
use Rattle.dgn_drawing.specs.Element.{Element}
use Rattle.dgn_drawing.specs.Spelling.{spell, spelling, size_of}
use Rattle.dgn_drawing.specs.Nesting.{Forest, NoTree, Tree, flat}
use Rattle.dgn_drawing.specs.Numbering.{end_of}
use Rattle.elem_index.specs.Offsets.{offset_of}
use Rattle.elem_index.proofs.Places.{stands_at}
use Rattle.edit_ops.specs.Trees.{Live, live_from, live_tree, found_at}
use Rattle.edit_ops.specs.Written.{lives_of}
use Rattle.edit_ops.proofs.PartPlace.{IsPlaced, placed, first_left, others_left}
use Rattle.edit_ops.proofs.EachLive.{live_first, live_behind, live_dead, live_alive}
use Rattle.dgn_drawing.proofs.ListRests.{drop_front}

-- the element behind the first n begins where these end
pub offset_next : (es : List Element) (n : ℕ) (e : Element) → slice_get es n ≡ Some e → offset_of es (n + 1) ≡ offset_of es n + size_of e
offset_next es n e there =
    let stands = stands_at es n (slice_get_within es n e there) in
    let same : stands.0 ≡ e = let x = stands.1.found in cc in
    stands.1.next ∙ ap (λ (x : Element). offset_of es n + size_of x) same

-- and so does the element behind more of them
pub offset_behind : (es front rest : List Element) (n at : ℕ) → at ≡ n + length front → drop n es ≡ front ++ rest
    → offset_of es at ≡ offset_of es n + length (spelling front)
offset_behind es [] rest n at is left = let e : at ≡ n = omega arith in ap (offset_of es) e ∙ omega arith
offset_behind es (e ∷ front) rest n at is left =
    let next = offset_next es n e (first_left es n e (front ++ rest) left) in
    let more = offset_behind es front rest (n + 1) at (omega arith) (others_left es n e (front ++ rest) left) in
    omega (arith, length-append (spell e) (spelling front))

-- the elements of two lists of numbers
found-both : (es : List Element) (ns ms : List ℕ) → lives_of es (ns ++ ms) ≡ lives_of es ns ++ lives_of es ms
found-both es ns ms = flat_map-append (λ m. option_to_list (found_at es m)) ns ms

-- the elements of numbers of which the first is known
pub found_first : (es : List Element) (n p : ℕ) (e : Element) (ns : List ℕ) → slice_get es n ≡ Some e → p ≡ offset_of es n
    → lives_of es (n ∷ ns) ≡ record { number = n; place = p; element = e } ∷ lives_of es ns
found_first es n p e ns there at =
    ap (λ (o : Option Element). option_to_list (option_map (λ (e : Element). record { number = n; place = offset_of es n; element = e }) o) ++ lives_of es ns)
    there
    ∙ ap (λ (k : ℕ). record { number = n; place = k; element = e } ∷ lives_of es ns) (sym at)

-- the live elements of trees that stand in a drawing are those at their numbers
pub found_live : (es : List Element) (n p : ℕ) (f : Forest Element) (behind : List Element) → drop n es ≡ flat f ++ behind → p ≡ offset_of es n
    → lives_of es (map (λ (v : Live). v.number) (live_from n p f)) ≡ live_from n p f
found_live es n p NoTree behind left at = refl
found_live es n p (Tree knot e below others) behind left at =
    let there = first_left es n e ((flat below ++ flat others) ++ behind) left in
    let next : drop (n + 1) es ≡ flat below ++ (flat others ++ behind)
    = others_left es n e ((flat below ++ flat others) ++ behind) left ∙ append_assoc (flat below) (flat others) behind in
    let at_next : p + size_of e ≡ offset_of es (n + 1) = omega (arith, offset_next es n e there) in
    let past : drop (end_of n below) es ≡ flat others ++ behind = drop_front es (flat below) (flat others ++ behind) (n + 1) (end_of n below) refl next in
    let at_past : p + (size_of e + length (spelling (flat below))) ≡ offset_of es (end_of n below)
    = omega (arith, offset_behind es (flat below) (flat others ++ behind) (n + 1) (end_of n below) refl next) in
    let inner = found_live es (n + 1) (p + size_of e) below (flat others ++ behind) next at_next in
    let outer = found_live es (end_of n below) (p + (size_of e + length (spelling (flat below)))) others behind past at_past in
    elim (cases_Bool e.deleted) [
      | inl dead ↦
          ap (λ (vs : List Live). lives_of es (map (λ (v : Live). v.number) vs)) (live_dead n p knot e below others dead) ∙ outer
          ∙ sym (live_dead n p knot e below others dead)
      | inr alive ↦
          ap (λ (vs : List Live). lives_of es (map (λ (v : Live). v.number) vs)) (live_alive n p knot e below others alive)
          ∙ ap (lives_of es) (map-append (λ (v : Live). v.number) (live_first n p e below) (live_behind n p e below others))
          ∙ found-both es (map (λ (v : Live). v.number) (live_first n p e below)) (map (λ (v : Live). v.number) (live_behind n p e below others))
          ∙ ap (λ (vs : List Live). vs ++ lives_of es (map (λ (v : Live). v.number) (live_behind n p e below others)))
          (found_first es n p e (map (λ (v : Live). v.number) (live_from (n + 1) (p + size_of e) below)) there at
          ∙ ap (λ (vs : List Live). record { number = n; place = p; element = e } ∷ vs) inner)
          ∙ ap (λ (vs : List Live). live_first n p e below ++ vs) outer
          ∙ sym (live_alive n p knot e below others alive)
    ]

-- so are those of the tree of one element
pub found_tree : (es : List Element) (n : ℕ) → n < length es → lives_of es (map (λ (v : Live). v.number) (live_tree es n)) ≡ live_tree es n
found_tree es n known =
    let p : IsPlaced es n = placed es n known in
    let left : drop n es ≡ flat (Tree p.knot p.head p.below NoTree) ++ p.behind
    = ap (drop n) p.parts ∙ drop_at p.front ((p.head ∷ flat p.below) ++ p.behind) n p.count
    ∙ ap (λ (l : List Element). (p.head ∷ l) ++ p.behind) (sym (append-nil (flat p.below))) in
    ap (λ (f : Forest Element). lives_of es (map (λ (v : Live). v.number) (live_from n (offset_of es n) f))) p.tree
    ∙ found_live es n (offset_of es n) (Tree p.knot p.head p.below NoTree) p.behind left refl
    ∙ ap (live_from n (offset_of es n)) (sym p.tree)
