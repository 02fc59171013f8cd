-- Mending arrives at each element that begins a tree and has no bit C, and leaves the tree as it is where none of its headers
-- is loose.
use Rattle.std.proofs.Common.{◌≡◌, ℕ, zero, suc, ◌+◌, ◌-◌, ◌<◌, ◌≤◌, ◌==◌, Bool, true, false, cond, List, [], ◌∷◌, ◌++◌, length, take, drop, refl, sym, ap, ◌∙◌, subst, arith}
use Rattle.std.proofs.Common.{Option, Some, None, length-append, append_assoc}
use Rattle.std.specs.Prelude.{◌&&◌, ◌||◌, not, IfSome, option_map, nat_le}
use Rattle.std.specs.List.{AllByRecursion}
use Rattle.std.proofs.lemmas.List.{take-append-drop, length-take, length-drop}
use Rattle.std.proofs.lemmas.Bool.{cond_both, both_ways, and_parts}
use Rattle.dgn_layout.specs.Classes.{class_of, is_among}
use Rattle.dgn_layout.specs.declared.TheConstants.{SHARED_CELL}
use Rattle.dgn_drawing.specs.Element.{Parts, Line, Points, Text, Node, Cell, Header, Plain, Body, Silent, Shown, Element}
use Rattle.dgn_drawing.specs.Spelling.{size_of}
use Rattle.dgn_drawing.specs.Nesting.{Knot, Leaf, Group, Run, Loose, Scope, Whole, Members, Parts as PartScope, Forest, NoTree, Tree, is_counted, member_count, filling, front_count, is_spline_part, has_bit}
use Rattle.dgn_drawing.specs.Nesting.{Shape, leaf, run_over, group_or_loose, shape, nest, forest, flat, joined, whole_of, bytes_of}
use Rattle.dgn_drawing.specs.Numbering.{is_loose}
use Rattle.dgn_drawing.specs.Rows.{row_of, total_of, total_of_parts}
use Rattle.nest_tree.proofs.NestingSteps.{nest_cons, nest_nil, count_within, front_within, members_within, AtMost}
use Rattle.edit_ops.specs.Causes.{is_locked}
use Rattle.dgn_mend.specs.Mending.{parts_totalled, body_totalled, put_right, own_words, fits, or_else, with_total, found, lost_from, overflowing, Taken, passed, is_claimed, frees}
use Rattle.dgn_mend.specs.Mending.{still_waiting, counted_taken, taken, mended_within, mended, mend}
use Rattle.dgn_mend.specs.Laws.{HasNoLoose}

-- a header with its own total is as it was
own_parts : (p : Parts) → parts_totalled (total_of_parts p) p ≡ p
own_parts (Line points) = refl
own_parts (Points points) = refl
own_parts (Text run origin spare chars) = refl
own_parts (Node total run origin) = refl
own_parts (Cell total name run origin) = refl
own_parts (Header total number) = refl
own_parts Plain = refl

own_body : (b : Body) → body_totalled (total_of b) b ≡ b
own_body (Silent rest) = refl
own_body (Shown d parts rest) = ap (λ (p : Parts). Shown d p rest) (own_parts parts)

own_right : (h : Element) (free : Bool) → (h.cbit && not free) ≡ h.cbit → put_right free (total_of h.body) h ≡ h
own_right h free kept =
    cond_both (is_locked h.body) h (record h { cbit = h.cbit && not free; body = body_totalled (total_of h.body) h.body }) (λ m. m ≡ h) (λ _. refl)
    (λ _. ap (λ (c : Bool). record h { cbit = c; body = body_totalled (total_of h.body) h.body }) kept
    ∙ ap (λ (b : Body). record h { body = b }) (own_body h.body))

-- an element below a header, and one without bit C, isn't freed
unfreed : (top c x : Bool) → (top ≡ true → c ≡ false) → (c && not (top && (c && x))) ≡ c
unfreed true true x none = absurd (both_ways true (none refl) refl)
unfreed true false x none = refl
unfreed false true x none = refl
unfreed false false x none = refl

module _ (dim : ℕ) (top : Bool) (w : List Element) (h : Element) (r : List Element) (free : top ≡ true → h.cbit ≡ false) where
  -- what is taken is as the nesting has it
  abbrev Agrees : Taken → Shape → Type 0
  Agrees t s = is_loose s.knot ≡ false → (t.head ≡ h) × (t.below ≡ s.count) × (t.goes ≡ true → s.inside ≡ Members)

  counted_agrees : (o : Option ℕ) (x : Option (ℕ × ℕ)) (lost : Option ℕ)
      → Agrees (counted_taken dim top w h (or_else (with_total (total_of h.body) o) x) lost) (group_or_loose o)
  counted_agrees None x lost sound = absurd (both_ways true sound refl)
  counted_agrees (Some k) x lost sound =
      (own_right h (frees dim top w h) (unfreed top h.cbit (not (is_claimed dim w h)) free), refl, λ _. refl)

agree : (P : Taken → Shape → Type 0) (c1 c2 c3 : Bool) (x y z v : Taken) (x' y' z' v' : Shape) → P x x' → P y y' → P z z' → P v v'
    → P (cond c1 x (cond c2 y (cond c3 z v))) (cond c1 x' (cond c2 y' (cond c3 z' v')))
agree P true c2 c3 x y z v x' y' z' v' px py pz pv = px
agree P false true c3 x y z v x' y' z' v' px py pz pv = py
agree P false false true x y z v x' y' z' v' px py pz pv = pz
agree P false false false x y z v x' y' z' v' px py pz pv = pv

abbrev scope_of : Bool → Scope
scope_of true = Whole
scope_of false = Members

taken_agrees : (dim : ℕ) (top : Bool) (w : List Element) (h : Element) (r : List Element) (free : top ≡ true → h.cbit ≡ false)
    → Agrees dim top w h r free (taken dim top w h r) (shape row_of (scope_of top) h r)
taken_agrees dim true w h r free =
    let splines : ℕ = front_count (λ e. is_spline_part (row_of e)) r in
    let parts : ℕ = front_count (λ e. has_bit (row_of e)) r in
    agree (Agrees dim true w h r free) (is_counted (class_of h.kind)) (is_among h.kind (24 ∷ 27 ∷ [])) ((h.kind == SHARED_CELL) && true)
    (counted_taken dim true w h (found h r) (overflowing h r)) (passed h splines false w) (passed h parts true w) (passed h 0 false w)
    (group_or_loose (member_count row_of (row_of h) r)) (run_over PartScope splines) (run_over Members parts) leaf
    (counted_agrees dim true w h r free (member_count row_of (row_of h) r) _ (overflowing h r))
    (λ _. (refl, refl, λ is. absurd (both_ways false refl is))) (λ _. (refl, refl, λ _. refl)) (λ _. (refl, refl, λ is. absurd (both_ways false refl is)))
taken_agrees dim false w h r free =
    let splines : ℕ = front_count (λ e. is_spline_part (row_of e)) r in
    let parts : ℕ = front_count (λ e. has_bit (row_of e)) r in
    agree (Agrees dim false w h r free) (is_counted (class_of h.kind)) (is_among h.kind (24 ∷ 27 ∷ [])) ((h.kind == SHARED_CELL) && false)
    (counted_taken dim false w h (found h r) (overflowing h r)) (passed h splines false w) (passed h parts true w) (passed h 0 false w)
    (group_or_loose (member_count row_of (row_of h) r)) (run_over PartScope splines) (run_over Members parts) leaf
    (counted_agrees dim false w h r free (member_count row_of (row_of h) r) _ (overflowing h r))
    (λ _. (refl, refl, λ is. absurd (both_ways false refl is))) (λ _. (refl, refl, λ _. refl)) (λ _. (refl, refl, λ is. absurd (both_ways false refl is)))

never : (x : Bool) → false ≡ true → x ≡ false
never x is = absurd (both_ways false refl is)

-- what is below a header stays where no header of it is loose
pub below_stays : (n dim : ℕ) (w l : List Element) → HasNoLoose (nest row_of Members l) → mended_within n dim false w l ≡ l
unfolding mended_within
below_stays zero dim w l sound = refl
below_stays (suc n) dim w [] sound = refl
below_stays (suc n) dim w (h ∷ r) sound =
    let s : Shape = shape row_of Members h r in
    let t : Taken = taken dim false w h r in
    let each = subst HasNoLoose (nest_cons row_of Members h r) sound in
    let same = taken_agrees dim false w h r (never h.cbit) each.0 in
    let below : cond t.goes (mended_within n dim false [] (take t.below r)) (take t.below r) ≡ take t.below r =
    cond_both t.goes (mended_within n dim false [] (take t.below r)) (take t.below r) (λ x. x ≡ take t.below r)
    (λ goes. below_stays n dim [] (take t.below r)
    (subst (λ (k : ℕ). HasNoLoose (nest row_of Members (take k r))) (sym same.1)
    (subst (λ (i : Scope). HasNoLoose (nest row_of i (take s.count r))) (same.2 goes) each.1)))
    (λ _. refl) in
    let behind : mended_within n dim false t.waiting (drop t.below r) ≡ drop t.below r =
    below_stays n dim t.waiting (drop t.below r) (subst (λ (k : ℕ). HasNoLoose (nest row_of Members (drop k r))) (sym same.1) each.2) in
    ap (λ (x : Element). x ∷ (cond t.goes (mended_within n dim false [] (take t.below r)) (take t.below r) ++ mended_within n dim false t.waiting (drop t.below r))) same.0
    ∙ ap (λ (x : List Element). h ∷ (x ++ mended_within n dim false t.waiting (drop t.below r))) below
    ∙ ap (λ (x : List Element). h ∷ (take t.below r ++ x)) behind
    ∙ ap (λ (x : List Element). h ∷ x) (take-append-drop t.below r)

-- so does a tree at the top whose head has no bit C
pub top_stays : (n dim : ℕ) (w : List Element) (h : Element) (r : List Element) → h.cbit ≡ false
    → HasNoLoose (Tree (shape row_of Whole h r).knot h (nest row_of (shape row_of Whole h r).inside (take (shape row_of Whole h r).count r)) NoTree)
    → (last : List Element) × (mended_within (suc n) dim true w (h ∷ r) ≡ h ∷ (take (shape row_of Whole h r).count r ++ last))
unfolding mended_within
top_stays n dim w h r unmarked each =
    let s : Shape = shape row_of Whole h r in
    let t : Taken = taken dim true (still_waiting true h w) h r in
    let same = taken_agrees dim true (still_waiting true h w) h r (λ _. unmarked) each.0 in
    let last : List Element = mended_within n dim true t.waiting (drop t.below r) in
    let below : cond t.goes (mended_within n dim false [] (take t.below r)) (take t.below r) ≡ take t.below r =
    cond_both t.goes (mended_within n dim false [] (take t.below r)) (take t.below r) (λ x. x ≡ take t.below r)
    (λ goes. below_stays n dim [] (take t.below r)
    (subst (λ (k : ℕ). HasNoLoose (nest row_of Members (take k r))) (sym same.1)
    (subst (λ (i : Scope). HasNoLoose (nest row_of i (take s.count r))) (same.2 goes) each.1)))
    (λ _. refl) in (
      last,
      ap (λ (x : Element). x ∷ (cond t.goes (mended_within n dim false [] (take t.below r)) (take t.below r) ++ last)) same.0
          ∙ ap (λ (x : List Element). h ∷ (x ++ last)) below
          ∙ ap (λ (k : ℕ). h ∷ (take k r ++ last)) same.1,
    )
