-- What holds of the items that are found where it holds of the item of each element, as of their numbers.
use Rattle.std.proofs.Common.{ℕ, zero, suc, ◌≡◌, ◌+◌, ◌<◌, ◌≤◌, List, [], ◌∷◌, ◌++◌, length, refl, arith, cond, length-append}
use Rattle.std.specs.Prelude.{◌==◌, ◌&&◌, not, Option, Some, None, nat_lt, slice_get}
use Rattle.std.specs.List.{AllByRecursion}
use Rattle.std.specs.Option.{option_to_list}
use Rattle.std.proofs.lemmas.Bool.{cond_both}
use Rattle.dgn_drawing.specs.declared.types.item.Item.{Item}
use Rattle.dgn_drawing.specs.declared.mask.Mask.{Mask}
use Rattle.dgn_drawing.specs.Element.{Body, Silent, Shown, Element}
use Rattle.dgn_drawing.specs.Rows.{row_of}
use Rattle.dgn_drawing.specs.Items.{item_in, shown_item}
use Rattle.dgn_drawing.specs.Nesting.{Knot, Leaf, Group, Run, Loose, Forest, NoTree, Tree, flat}
use Rattle.dgn_drawing.specs.Numbering.{Mark, mark_of, end_of}
use Rattle.dgn_drawing.specs.Shown.{shows, its_item, shown_alone, headed, shown_tree, items}
use Rattle.nest_tree.specs.Shapes.{code_knot}
use Rattle.nest_tree.proofs.GrownNestings.{all_both}
use Rattle.level_view.specs.Back.{past, begins_below, with_group, with_element, with_marked, read_back}

-- what holds of each of some items
module _ (P : Item → Type 0) (dim : ℕ) (mask : Mask) where
  alone_all : (number depth : ℕ) (e : Element) → AllByRecursion P (its_item dim number depth e) → AllByRecursion P (shown_alone dim mask number depth e)
  alone_all number depth e here = cond_both (not e.deleted && shows mask e.level) (its_item dim number depth e) [] (AllByRecursion P) (λ _. here) (λ _. tt)

  past_all : (end : ℕ) (found : List Item) → AllByRecursion P found → AllByRecursion P (past end found)
  past_all end [] there = tt
  past_all end (i ∷ is) there = cond_both (nat_lt i.number end) (past end is) (i ∷ is) (AllByRecursion P) (λ _. past_all end is there.1) (λ _. there)

  group_all : (number depth end : ℕ) (e : Element) (found : List Item) → AllByRecursion P (its_item dim number depth e) → AllByRecursion P found
      → AllByRecursion P (with_group dim number depth end e found)
  group_all number depth end e found here there =
      cond_both e.deleted (past end found) (cond (begins_below end found) (its_item dim number depth e ++ found) found) (AllByRecursion P)
      (λ _. past_all end found there) (λ _.
      cond_both (begins_below end found) (its_item dim number depth e ++ found) found (AllByRecursion P)
      (λ _. all_both P (its_item dim number depth e) found here there) (λ _. there))

  element_all : (knot : Knot) (number depth end : ℕ) (e : Element) (found : List Item) → AllByRecursion P (its_item dim number depth e) → AllByRecursion P found
      → AllByRecursion P (with_element dim mask (code_knot knot) number depth end e found)
  element_all Leaf number depth end e found here there = all_both P (shown_alone dim mask number depth e) found (alone_all number depth e here) there
  element_all Group number depth end e found here there = group_all number depth end e found here there
  element_all Run number depth end e found here there =
      all_both P (shown_alone dim mask number depth e) (past end found) (alone_all number depth e here) (past_all end found there)
  element_all Loose number depth end e found here there = there

  marked_all : (number : ℕ) (m : Option Mark) (e : Option Element) (found : List Item)
      → ((depth : ℕ) (a : Element) → e ≡ Some a → AllByRecursion P (its_item dim number depth a))
      → AllByRecursion P found → AllByRecursion P (with_marked dim mask number m e found)
  marked_all number None e found here there = there
  marked_all number (Some m) None found here there = there
  marked_all number (Some m) (Some e) found here there = element_all m.knot number m.depth m.end e found (here m.depth e refl) there

  -- where it holds of the item of each element, it does of those that are found backwards
  pub back_all : (es : List Element) (n count : ℕ)
      → ((k depth : ℕ) (e : Element) → n ≤ k → k < n + count → slice_get es k ≡ Some e → AllByRecursion P (its_item dim k depth e))
      → AllByRecursion P (read_back dim mask es n count)
  back_all es n zero each = tt
  back_all es n (suc count) each =
      marked_all n (mark_of row_of es n) (slice_get es n) (read_back dim mask es (n + 1) count)
      (λ depth e there. each n depth e (omega arith) (omega arith) there)
      (back_all es (n + 1) count (λ k depth e low high there. each k depth e (omega arith) (omega arith) there))

-- each of the items has a number of which that holds
abbrev pub Each : (ℕ → Type 0) → List Item → Type 0
Each P found = AllByRecursion (λ (i : Item). P i.number) found

module _ (P : ℕ → Type 0) (dim : ℕ) (mask : Mask) where
  both : (xs ys : List Item) → Each P xs → Each P ys → Each P (xs ++ ys)
  both xs ys here there = all_both (λ (i : Item). P i.number) xs ys here there

  in_each : (number depth : ℕ) (e : Element) (body : Body) → P number → Each P (option_to_list (item_in dim number depth e body))
  in_each number depth e (Silent rest) here = tt
  in_each number depth e (Shown display parts rest) here =
      cond_both (e.kind == 34) None (Some (shown_item dim number depth e display parts)) (λ o. Each P (option_to_list o)) (λ _. tt) (λ _. (here, tt))

  item_each : (number depth : ℕ) (e : Element) → P number → Each P (its_item dim number depth e)
  item_each number depth e here = in_each number depth e e.body here

  alone_each : (number depth : ℕ) (e : Element) → P number → Each P (shown_alone dim mask number depth e)
  alone_each number depth e here = alone_all (λ (i : Item). P i.number) dim mask number depth e (item_each number depth e here)

  headed_each : (head found : List Item) → Each P head → Each P found → Each P (headed head found)
  headed_each head [] here there = tt
  headed_each head (i ∷ is) here there = both head (i ∷ is) here there

  tree_each : (knot : Knot) (number depth : ℕ) (e : Element) (found : List Item) → P number → Each P found
      → Each P (shown_tree dim mask knot number depth e found)
  tree_each Leaf number depth e found here there = alone_each number depth e here
  tree_each Group number depth e found here there =
      cond_both e.deleted [] (headed (its_item dim number depth e) found) (Each P) (λ _. tt)
      (λ _. headed_each (its_item dim number depth e) found (item_each number depth e here) there)
  tree_each Run number depth e found here there =
      cond_both (e.kind == 34) [] (shown_alone dim mask number depth e) (Each P) (λ _. tt) (λ _. alone_each number depth e here)
  tree_each Loose number depth e found here there = tt

  -- the items of trees have numbers of their elements
  pub items_each : (n depth : ℕ) (f : Forest Element) → ((k : ℕ) → n ≤ k → k < n + length (flat f) → P k) → Each P (items dim mask n depth f)
  items_each n depth NoTree within = tt
  items_each n depth (Tree knot e below behind) within =
      let inner = items_each (n + 1) (depth + 1) below (λ k low high. within k (omega arith) (omega (arith, length-append (flat below) (flat behind)))) in
      let outer = items_each (end_of n below) depth behind (λ k low high. within k (omega arith) (omega (arith, length-append (flat below) (flat behind)))) in
      both (shown_tree dim mask knot n depth e (items dim mask (n + 1) (depth + 1) below)) (items dim mask (end_of n below) depth behind)
      (tree_each knot n depth e (items dim mask (n + 1) (depth + 1) below) (within n (omega arith) (omega arith)) inner) outer

  -- and so have those that are found backwards
  pub back_each : (es : List Element) (n count : ℕ) → ((k : ℕ) → n ≤ k → k < n + count → P k) → Each P (read_back dim mask es n count)
  back_each es n count within = back_all (λ (i : Item). P i.number) dim mask es n count (λ k depth e low high there. item_each k depth e (within k low high))
