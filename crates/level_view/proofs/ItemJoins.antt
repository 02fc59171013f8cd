-- An element before what is shown behind it, where that is known to be what the elements below it show
-- and what the elements behind its tree show.
use Rattle.std.proofs.Common.{◌≡◌, ℕ, ◌<◌, ◌≤◌, List, [], ◌∷◌, ◌++◌, refl, sym, ap, ◌∙◌, Bool, true, false, cond, append_assoc}
use Rattle.std.specs.Prelude.{◌==◌, ◌&&◌, not, nat_lt, None}
use Rattle.std.specs.Option.{option_to_list}
use Rattle.std.proofs.lemmas.Bool.{cond-true, cond-false, cond_both, lt-ltb, le-ltb}
use Rattle.dgn_drawing.specs.declared.types.item.Item.{Item}
use Rattle.dgn_drawing.specs.declared.mask.Mask.{Mask}
use Rattle.dgn_drawing.specs.Element.{Body, Silent, Shown, Element}
use Rattle.dgn_drawing.specs.Items.{item_in}
use Rattle.dgn_drawing.specs.Nesting.{Knot, Leaf, Group, Run, Loose}
use Rattle.dgn_drawing.specs.Shown.{shows, its_item, shown_alone, headed, shown_tree}
use Rattle.nest_tree.specs.Shapes.{code_knot}
use Rattle.level_view.specs.Back.{past, begins_below, with_element}
use Rattle.level_view.proofs.Numbers.{Each}

-- a leaf and a loose header have nothing below them
abbrev pub ShowsNoneBelow : Knot → List Item → Type 0
ShowsNoneBelow Leaf inner = inner ≡ []
ShowsNoneBelow Group inner = Unit {0}
ShowsNoneBelow Run inner = Unit {0}
ShowsNoneBelow Loose inner = inner ≡ []

past_none : (end : ℕ) (rest : List Item) → Each (λ k. end ≤ k) rest → past end rest ≡ rest
past_none end [] from = refl
past_none end (i ∷ is) from = cond-false (nat_lt i.number end) (past end is) (i ∷ is) (le-ltb i.number end from.0)

past_inner : (end : ℕ) (inner rest : List Item) → Each (λ k. k < end) inner → Each (λ k. end ≤ k) rest → past end (inner ++ rest) ≡ rest
past_inner end [] rest below from = past_none end rest from
past_inner end (i ∷ is) rest below from =
    cond-true (nat_lt i.number end) (past end (is ++ rest)) (i ∷ (is ++ rest)) (lt-ltb i.number end below.0) ∙ past_inner end is rest below.1 from

none_below : (end : ℕ) (rest : List Item) → Each (λ k. end ≤ k) rest → begins_below end rest ≡ false
none_below end [] from = refl
none_below end (i ∷ is) from = le-ltb i.number end from.0

headed_joins : (end : ℕ) (head inner rest : List Item) → Each (λ k. k < end) inner → Each (λ k. end ≤ k) rest
    → cond (begins_below end (inner ++ rest)) (head ++ (inner ++ rest)) (inner ++ rest) ≡ headed head inner ++ rest
headed_joins end head [] rest below from = cond-false (begins_below end rest) (head ++ rest) rest (none_below end rest from)
headed_joins end head (i ∷ is) rest below from =
    cond-true (nat_lt i.number end) (head ++ (i ∷ (is ++ rest))) (i ∷ (is ++ rest)) (lt-ltb i.number end below.0) ∙ sym (append_assoc head (i ∷ is) rest)

module _ (dim : ℕ) (mask : Mask) (number depth end : ℕ) (e : Element) (inner rest : List Item) (below : Each (λ k. k < end) inner)
    (from : Each (λ k. end ≤ k) rest) where
  group_joins_as : (gone : Bool)
      → cond gone (past end (inner ++ rest)) (cond (begins_below end (inner ++ rest)) (its_item dim number depth e ++ (inner ++ rest)) (inner ++ rest))
      ≡ cond gone [] (headed (its_item dim number depth e) inner) ++ rest
  group_joins_as true = past_inner end inner rest below from
  group_joins_as false = headed_joins end (its_item dim number depth e) inner rest below from

  -- a shared cell definition shows nothing by itself
  no_item : (body : Body) → (e.kind == 34) ≡ true → option_to_list (item_in dim number depth e body) ≡ []
  no_item (Silent bytes) is_shared = refl
  no_item (Shown display parts bytes) is_shared = ap option_to_list (cond-true (e.kind == 34) None _ is_shared)

  shared_alone : (is_shared : Bool) → (e.kind == 34) ≡ is_shared → shown_alone dim mask number depth e ≡ cond is_shared [] (shown_alone dim mask number depth e)
  shared_alone true is = cond_both (not e.deleted && shows mask e.level) (its_item dim number depth e) [] (λ (x : List Item). x ≡ [])
      (λ _. no_item e.body is) (λ _. refl)
  shared_alone false is = refl

  run_joins : shown_alone dim mask number depth e ++ past end (inner ++ rest) ≡ cond (e.kind == 34) [] (shown_alone dim mask number depth e) ++ rest
  run_joins =
      ap (λ (x : List Item). shown_alone dim mask number depth e ++ x) (past_inner end inner rest below from)
      ∙ ap (λ (x : List Item). x ++ rest) (shared_alone (e.kind == 34) refl)

  pub element_joins : (knot : Knot) → ShowsNoneBelow knot inner
      → with_element dim mask (code_knot knot) number depth end e (inner ++ rest) ≡ shown_tree dim mask knot number depth e inner ++ rest
  element_joins Leaf none = ap (λ (x : List Item). shown_alone dim mask number depth e ++ (x ++ rest)) none
  element_joins Group none = group_joins_as e.deleted
  element_joins Run none = run_joins
  element_joins Loose none = ap (λ (x : List Item). x ++ rest) none
