-- What is read behind other elements, and begins without bit C, nests apart from them.
use Rattle.std.proofs.Common.{◌≡◌, ℕ, zero, suc, ◌+◌, ◌-◌, ◌≤◌, ◌<◌, List, [], ◌∷◌, ◌++◌, length, take, drop, refl, sym, ap, ◌∙◌, subst, arith, false, Bool}
use Rattle.std.proofs.Common.{append_assoc, cond, length-append}
use Rattle.std.specs.Prelude.{Option, Some, None, option_map, ◌==◌, ◌&&◌, nat_le}
use Rattle.std.proofs.lemmas.List.{take-append-le, drop-append-le, length-drop}
use Rattle.std.proofs.lemmas.Bool.{cond-false, and_left}
use Rattle.dgn_drawing.specs.declared.row.Row.{Row}
use Rattle.dgn_drawing.specs.Nesting.{Scope, Whole, whole_of, filling, member_count, front_count, is_spline_part, has_bit, Shape, shape_of, shape, Leaf}
use Rattle.dgn_drawing.specs.Nesting.{Forest, NoTree, Tree, nest, forest, joined, flat, BeginsFree}
use Rattle.dgn_drawing.specs.Numbering.{Mark, end_of, marks}
use Rattle.nest_tree.proofs.NestingSteps.{count_within, nest_cons, nest_nil}

module _ {A : Type 0} (row : A → Row) where
  front_apart : (test : A → Bool) (l new : List A) → ((e : A) (es : List A) → new ≡ e ∷ es → test e ≡ false) → front_count test (l ++ new) ≡ front_count test l
  front_apart test [] [] fails = refl
  front_apart test [] (e ∷ new) fails = cond-false (test e) _ _ (fails e new refl)
  front_apart test (x ∷ l) new fails = ap (λ (k : ℕ). cond (test x) (suc k) 0) (front_apart test l new fails)

  filling_apart : (bytes : ℕ) (l new : List A) → BeginsFree row new → filling row bytes (l ++ new) ≡ filling row bytes l
  filling_apart bytes [] [] free = refl
  filling_apart bytes [] (e ∷ new) free =
      ap (λ (o : Option ℕ). cond (bytes == 0) (Some 0) o) (cond-false ((row e).cbit && nat_le (row e).size bytes) _ _ (and_left ((row e).cbit) _ free))
  filling_apart bytes (x ∷ l) new free =
      ap (λ (o : Option ℕ). cond (bytes == 0) (Some 0) (cond ((row x).cbit && nat_le (row x).size bytes) (option_map suc o) None))
      (filling_apart (bytes - (row x).size) l new free)

  bit_fails : (new : List A) → BeginsFree row new → (e : A) (es : List A) → new ≡ e ∷ es → has_bit (row e) ≡ false
  bit_fails new free e es is = let begins : BeginsFree row (e ∷ es) = subst (BeginsFree row) is free in begins

  part_fails : (new : List A) → BeginsFree row new → (e : A) (es : List A) → new ≡ e ∷ es → is_spline_part (row e) ≡ false
  part_fails new free e es is = and_left ((row e).cbit) _ (bit_fails new free e es is)

  shape_apart : (scope : Scope) (h : A) (r new : List A) → BeginsFree row new → shape row scope h (r ++ new) ≡ shape row scope h r
  shape_apart scope h r new free =
      let members = ap (λ (o : Option ℕ). cond (nat_le (row h).size (whole_of (row h))) o None) (filling_apart (whole_of (row h) - (row h).size) r new free) in
      let spline = front_apart (λ e. is_spline_part (row e)) r new (part_fails new free) in
      let shared = front_apart (λ e. has_bit (row e)) r new (bit_fails new free) in
      ap (λ (o : Option ℕ). shape_of scope (row h) o (front_count (λ e. is_spline_part (row e)) (r ++ new)) (front_count (λ e. has_bit (row e)) (r ++ new)))
      members
      ∙ ap (λ (k : ℕ). shape_of scope (row h) (member_count row (row h) r) k (front_count (λ e. has_bit (row e)) (r ++ new))) spline
      ∙ ap (λ (k : ℕ). shape_of scope (row h) (member_count row (row h) r) (front_count (λ e. is_spline_part (row e)) r) k) shared

  nest_apart_in : (n : ℕ) (scope : Scope) (l new : List A) → length l ≤ n → BeginsFree row new
      → nest row scope (l ++ new) ≡ joined (nest row scope l) (nest row scope new)
  nest_apart_in n scope [] new short free = ap (λ (f : Forest A). joined f (nest row scope new)) (sym (nest_nil row scope))
  nest_apart_in zero scope (h ∷ r) new short free = absurd (omega arith)
  nest_apart_in (suc n) scope (h ∷ r) new short free =
      let k = (shape row scope h r).count in
      let within : k ≤ length r = count_within row scope h r in
      let brief : length (drop k r) ≤ n = omega (arith, length-drop k r) in
      let rest = nest_apart_in n scope (drop k r) new brief free in
      nest_cons row scope h (r ++ new)
      ∙ ap (λ (s : Shape). Tree s.knot h (nest row s.inside (take s.count (r ++ new))) (nest row scope (drop s.count (r ++ new))))
      (shape_apart scope h r new free)
      ∙ ap (λ (x : List A). Tree (shape row scope h r).knot h (nest row (shape row scope h r).inside x) (nest row scope (drop k (r ++ new))))
      (take-append-le k r new within)
      ∙ ap (λ (x : List A). Tree (shape row scope h r).knot h (nest row (shape row scope h r).inside (take k r)) (nest row scope x))
      (drop-append-le k r new within)
      ∙ ap (λ (f : Forest A). Tree (shape row scope h r).knot h (nest row (shape row scope h r).inside (take k r)) f) rest
      ∙ ap (λ (f : Forest A). joined f (nest row scope new)) (sym (nest_cons row scope h r))

  pub nest_apart : (scope : Scope) (l new : List A) → BeginsFree row new → nest row scope (l ++ new) ≡ joined (nest row scope l) (nest row scope new)
  nest_apart scope l new free = nest_apart_in (length l) scope l new (omega arith) free

  pub forest_apart : (es new : List A) → 0 < length es → BeginsFree row new → forest row (es ++ new) ≡ joined (forest row es) (nest row Whole new)
  forest_apart [] new some free = absurd (omega arith)
  forest_apart (e ∷ es) new some free = ap (λ (f : Forest A). Tree Leaf e NoTree f) (nest_apart Whole es new free)

-- the marks of trees and trees behind them
pub marks-joined : {A : Type 0} (f g : Forest A) (n depth : ℕ) (parent : Option ℕ)
    → marks (joined f g) n depth parent ≡ marks f n depth parent ++ marks g (n + length (flat f)) depth parent
marks-joined NoTree g n depth parent = ap (λ (k : ℕ). marks g k depth parent) (omega arith)
marks-joined (Tree knot h below behind) g n depth parent =
    let rest = marks-joined behind g (end_of n below) depth parent in
    let place : end_of n below + length (flat behind) ≡ n + length (flat (Tree knot h below behind)) =
    omega (arith, length-append (flat below) (flat behind)) in
    let first : Mark = record { knot = knot; depth = depth; parent = parent; end = end_of n below } in
    ap (λ (ms : List Mark). first ∷ (marks below (n + 1) (depth + 1) (Some n) ++ ms)) rest
    ∙ ap (λ (k : ℕ). first ∷ (marks below (n + 1) (depth + 1) (Some n) ++ (marks behind (end_of n below) depth parent ++ marks g k depth parent))) place
    ∙ ap (λ (ms : List Mark). first ∷ ms)
    (sym (append_assoc (marks below (n + 1) (depth + 1) (Some n)) (marks behind (end_of n below) depth parent)
    (marks g (n + length (flat (Tree knot h below behind))) depth parent)))
