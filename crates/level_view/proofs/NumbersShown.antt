-- The numbers that are found backwards are those of the items.
use Rattle.std.proofs.Common.{◌≡◌, ℕ, ◌+◌, ◌-◌, ◌≤◌, List, [], ◌∷◌, ◌++◌, refl, sym, ap, ◌∙◌, Bool, true, false, cond}
use Rattle.std.specs.Prelude.{◌==◌, ◌&&◌, not, Some, None, nat_lt}
use Rattle.std.specs.Option.{option_to_list}
use Rattle.std.proofs.lemmas.List.{map-append}
use Rattle.elem_head.specs.Head.{kind_of, head_of}
use Rattle.elem_head.specs.declared.types.Head.{Head}
use Rattle.dgn_layout.specs.declared.types.Class.{Class}
use Rattle.dgn_layout.specs.Classes.{class_of, is_silent}
use Rattle.dgn_drawing.specs.declared.types.item.Item.{Item}
use Rattle.dgn_drawing.specs.declared.mask.Mask.{Mask}
use Rattle.dgn_drawing.specs.Element.{Line, Points, Cell, Node, Header, Element, form_of_parts}
use Rattle.dgn_drawing.specs.Forms.{form_in, form_of}
use Rattle.dgn_drawing.specs.Items.{item_in}
use Rattle.dgn_drawing.specs.Reading.{body_in, element_at}
use Rattle.dgn_drawing.specs.Shown.{shows, its_item, shown_alone}
use Rattle.nest_tree.specs.declared.knot.Knot as code
use Rattle.level_view.specs.declared.place.Place.{Place}
use Rattle.level_view.specs.Back.{begins_below, past, with_group, with_element, read_back, IsPlace}
use Rattle.level_view.specs.Numbers.{numbers_of, alone_if, has_item, is_alone, first_below, numbers_past, with_group_number, with_number}
use Rattle.level_view.proofs.Places.{back_step}

-- the number of an item, unless it is left out
kept_number : (t : Bool) (i : Item) → numbers_of (option_to_list (cond t None (Some i))) ≡ alone_if (not t) i.number
kept_number true i = refl
kept_number false i = refl

module _ (dim : ℕ) (b : List ℕ) (number depth : ℕ) (e : Element) where
  -- that of a row of points, which is a line or not
  of_points : (t : Bool) → numbers_of
      (option_to_list (item_in dim number depth e (body_in (cond t (form_of_parts (Line [])) (form_of_parts (Points []))) dim b)))
      ≡ alone_if (not (e.kind == 34)) number
  unfolding body_in
  of_points true = kept_number (e.kind == 34) _
  of_points false = kept_number (e.kind == 34) _

  -- and of a header, which is a cell, a text node or another
  of_header : (t u : Bool)
      → numbers_of (option_to_list
      (item_in dim number depth e
      (body_in (cond t (form_of_parts (Cell 0 [] [] [])) (cond u (form_of_parts (Node 0 [] [])) (form_of_parts (Header 0 0)))) dim b)))
      ≡ alone_if (not (e.kind == 34)) number
  unfolding body_in
  of_header true u = kept_number (e.kind == 34) _
  of_header false true = kept_number (e.kind == 34) _
  of_header false false = kept_number (e.kind == 34) _

  by_class : (c : Class) (kind : ℕ)
      → numbers_of (option_to_list (item_in dim number depth e (body_in (form_in c kind) dim b)))
      ≡ alone_if (not (is_silent c) && not (e.kind == 34)) number
  unfolding body_in
  by_class Class.Vertices kind = of_points (kind == 3)
  by_class Class.Words kind = kept_number (e.kind == 34) _
  by_class Class.Counted kind = of_header (kind == 2) (kind == 7)
  by_class Class.Run kind = kept_number (e.kind == 34) _
  by_class Class.Floating kind = kept_number (e.kind == 34) _
  by_class Class.Boxed kind = kept_number (e.kind == 34) _
  by_class Class.Silent kind = refl

module _ (dim : ℕ) (b : List ℕ) where
  -- the number of an element's item
  its_number : (number depth : ℕ) → numbers_of (its_item dim number depth (element_at dim b)) ≡ alone_if (has_item (element_at dim b).kind) number
  unfolding element_at form_of
  its_number number depth =
      by_class dim b number depth (element_at dim b) (class_of (kind_of b)) (kind_of b)

-- of items by a test, and of those of two lists
numbers_cond : (t : Bool) (x y : List Item) → numbers_of (cond t x y) ≡ cond t (numbers_of x) (numbers_of y)
numbers_cond true x y = refl
numbers_cond false x y = refl

numbers_join : (x y : List Item) → numbers_of (x ++ y) ≡ numbers_of x ++ numbers_of y
numbers_join x y = map-append (λ (i : Item). i.number) x y

shown_number : (t has : Bool) (number : ℕ) (x : List Item) → numbers_of x ≡ alone_if has number → numbers_of (cond t x []) ≡ alone_if (t && has) number
shown_number true has number x is = is
shown_number false has number x is = refl

-- those in front that are below a number
past_numbers : (end : ℕ) (found : List Item) → numbers_of (past end found) ≡ numbers_past end (numbers_of found)
past_numbers end [] = refl
past_numbers end (i ∷ is) =
    numbers_cond (nat_lt i.number end) (past end is) (i ∷ is)
    ∙ ap (λ (ns : List ℕ). cond (nat_lt i.number end) ns (i.number ∷ numbers_of is)) (past_numbers end is)

below_numbers : (end : ℕ) (found : List Item) → begins_below end found ≡ first_below end (numbers_of found)
below_numbers end [] = refl
below_numbers end (i ∷ is) = refl

headed_numbers : (t has : Bool) (number : ℕ) (x found : List Item) → numbers_of x ≡ alone_if has number
    → numbers_of (cond t (x ++ found) found) ≡ alone_if (t && has) number ++ numbers_of found
headed_numbers true has number x found is = numbers_join x found ∙ ap (λ (ns : List ℕ). ns ++ numbers_of found) is
headed_numbers false has number x found is = refl

module _ (dim : ℕ) (b : List ℕ) (mask : Mask) (number depth end : ℕ) (found : List Item) where
  alone_number : numbers_of (shown_alone dim mask number depth (element_at dim b)) ≡ alone_if (is_alone mask (element_at dim b)) number
  alone_number =
      shown_number (not (element_at dim b).deleted && shows mask (element_at dim b).level) (has_item (element_at dim b).kind) number
      (its_item dim number depth (element_at dim b)) (its_number dim b number depth)

  group_number : numbers_of (with_group dim number depth end (element_at dim b) found) ≡ with_group_number number end (element_at dim b) (numbers_of found)
  group_number =
      numbers_cond (element_at dim b).deleted (past end found) (cond (begins_below end found) (its_item dim number depth (element_at dim b) ++ found) found)
      ∙ ap (λ (ns : List ℕ). cond (element_at dim b).deleted ns
      (numbers_of (cond (begins_below end found) (its_item dim number depth (element_at dim b) ++ found) found))) (past_numbers end found)
      ∙ ap (λ (ns : List ℕ). cond (element_at dim b).deleted (numbers_past end (numbers_of found)) ns)
      (headed_numbers (begins_below end found) (has_item (element_at dim b).kind) number (its_item dim number depth (element_at dim b)) found
      (its_number dim b number depth)
      ∙ ap (λ (t : Bool). alone_if (t && has_item (element_at dim b).kind) number ++ numbers_of found) (below_numbers end found))

  run_number : numbers_of (shown_alone dim mask number depth (element_at dim b) ++ past end found) ≡ alone_if (is_alone mask (element_at dim b)) number
      ++ numbers_past end (numbers_of found)
  run_number =
      numbers_join (shown_alone dim mask number depth (element_at dim b)) (past end found)
      ∙ ap (λ (ns : List ℕ). ns ++ numbers_of (past end found)) alone_number
      ∙ ap (λ (ns : List ℕ). alone_if (is_alone mask (element_at dim b)) number ++ ns) (past_numbers end found)

  -- an element before what is shown behind it
  pub element_number : (knot : code.Knot)
      → numbers_of (with_element dim mask knot number depth end (element_at dim b) found)
      ≡ with_number mask knot number end (element_at dim b) (numbers_of found)
  element_number code.Knot.Leaf =
      numbers_join (shown_alone dim mask number depth (element_at dim b)) found ∙ ap (λ (ns : List ℕ). ns ++ numbers_of found) alone_number
  element_number code.Knot.Group = group_number
  element_number code.Knot.Run = run_number
  element_number code.Knot.Loose = refl

-- the step from what is shown behind an element, by their numbers
pub number_step : (dim : ℕ) (mask : Mask) (es : List Element) (n : ℕ) (p : Place) → IsPlace dim es n p → (next end : ℕ) (found : List ℕ) → next ≡ n + 1
    → next ≤ end
    → found ≡ numbers_of (read_back dim mask es next (end - next))
    → with_number mask p.knot p.number p.end (element_at dim p.bytes.now) found ≡ numbers_of (read_back dim mask es n (end - n))
number_step dim mask es n p is next end found follows within so_far =
    ap (with_number mask p.knot p.number p.end (element_at dim p.bytes.now)) so_far
    ∙ sym (element_number dim p.bytes.now mask p.number p.depth p.end (read_back dim mask es next (end - next)) p.knot)
    ∙ ap numbers_of (back_step dim mask es n p is next end (read_back dim mask es next (end - next)) follows within refl)

-- what the head of an element says of the record that is read from it
module _ (dim : ℕ) (b : List ℕ) (h : Head) (is : h ≡ head_of b) where
  pub kind_said : h.kind ≡ (element_at dim b).kind
  unfolding element_at
  kind_said = ap (λ (x : Head). x.kind) is

  pub deleted_said : h.deleted ≡ (element_at dim b).deleted
  unfolding element_at
  deleted_said = ap (λ (x : Head). x.deleted) is

  pub level_said : h.level ≡ (element_at dim b).level
  unfolding element_at
  level_said = ap (λ (x : Head). x.level) is

  -- so whether it shows its item by itself
  module _ (mask : Mask) where
    alone_said : (t u : Bool) → h.deleted ≡ t → shows mask h.level ≡ u → ((not t && u) && has_item h.kind) ≡ is_alone mask (element_at dim b)
    alone_said t u gone seen =
        ap (λ (x : Bool). (not x && u) && has_item h.kind) (sym gone ∙ deleted_said)
        ∙ ap (λ (x : Bool). (not (element_at dim b).deleted && x) && has_item h.kind) (sym seen ∙ ap (shows mask) level_said)
        ∙ ap (λ (k : ℕ). (not (element_at dim b).deleted && shows mask (element_at dim b).level) && has_item k) kind_said

    pub gone_alone : h.deleted ≡ true → false ≡ is_alone mask (element_at dim b)
    gone_alone gone = alone_said true (shows mask h.level) gone refl

    pub hidden_alone : h.deleted ≡ false → shows mask h.level ≡ false → false ≡ is_alone mask (element_at dim b)
    hidden_alone here hidden = alone_said false false here hidden

    pub seen_alone : h.deleted ≡ false → shows mask h.level ≡ true → has_item h.kind ≡ is_alone mask (element_at dim b)
    seen_alone here seen = alone_said false true here seen

  -- and what a group's header comes before
  module _ (number end : ℕ) (found : List ℕ) where
    pub gone_group : h.deleted ≡ true → numbers_past end found ≡ with_group_number number end (element_at dim b) found
    gone_group gone = ap (λ (t : Bool). cond t (numbers_past end found)
        (alone_if (first_below end found && has_item (element_at dim b).kind) number ++ found)) (sym gone ∙ deleted_said)

    pub shown_group : h.deleted ≡ false → (t : Bool) → t ≡ (first_below end found && has_item h.kind)
        → (alone_if t number ++ found) ≡ with_group_number number end (element_at dim b) found
    shown_group here t is =
        ap (λ (x : Bool). alone_if x number ++ found) (is ∙ ap (λ (k : ℕ). first_below end found && has_item k) kind_said)
        ∙ ap (λ (x : Bool). cond x (numbers_past end found) (alone_if (first_below end found && has_item (element_at dim b).kind) number ++ found))
        (sym here ∙ deleted_said)
