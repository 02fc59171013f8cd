-- Items of which none overlaps a fence.
use Rattle.std.proofs.Common.{◌≡◌, ℕ, ◌+◌, ◌-◌, ◌<◌, ◌≤◌, ◌&&◌, ◌||◌, Bool, true, false, Option, Some, None, List, [], ◌∷◌, length, refl, sym, ap, ◌∙◌}
use Rattle.std.proofs.Common.{subst, arith, inl, inr}
use Rattle.std.specs.Prelude.{not, slice_get, option_map}
use Rattle.std.specs.List.{AllByRecursion, list_any, list_all}
use Rattle.std.specs.Option.{option_to_list}
use Rattle.std.proofs.lemmas.Bool.{cases_Bool, cases_lt, cond-true, cond-false, or_parts}
use Rattle.plane_geom.specs.declared.pt.Pt.{Pt}
use Rattle.dgn_drawing.specs.declared.mode.Mode.{Mode}
use Rattle.dgn_drawing.specs.declared.mask.Mask.{Mask}
use Rattle.dgn_drawing.specs.declared.types.item.Item.{Item}
use Rattle.dgn_drawing.specs.Element.{Element}
use Rattle.dgn_drawing.specs.Rows.{row_of}
use Rattle.dgn_drawing.specs.Items.{item_of}
use Rattle.dgn_drawing.specs.Nesting.{forest}
use Rattle.dgn_drawing.specs.Numbering.{Mark, mark_of}
use Rattle.dgn_drawing.specs.Shown.{its_item, tree_shown, IsRoot}
use Rattle.dgn_fence.specs.Segments.{segments_of}
use Rattle.dgn_fence.specs.Taken.{takes, parts, has_some, overlaps, is_inside, begins_within, touches_fence}
use Rattle.nest_tree.proofs.NestingSteps.{flat-forest}
use Rattle.level_view.proofs.Numbers.{back_all}
use Rattle.level_view.proofs.Places.{mark_part}
use Rattle.level_view.proofs.RootsOnward.{GoesOn, root_goes_on}
use Rattle.level_view.proofs.TreeItems.{IsTree, root_known, root_found}
use Rattle.dgn_session.specs.Selecting.{HasNone}

some_same : {A : Type 0} {x y : A} → Some x ≡ Some y → x ≡ y
some_same is = cc

-- the tree of a root
module _ (es : List Element) (root : ℕ) (is_root : IsRoot row_of es root) where
  pub root_there : root < length es
  root_there = root_known es root is_root

  pub tree_within : (end : ℕ) → Some end ≡ option_map (λ (m : Mark). m.end) (mark_of row_of es root) → end ≤ length es
  tree_within end ends =
      let on : GoesOn es (forest row_of es) 0 root = root_goes_on es root root_there is_root in
      let last : end ≡ on.mark.end =
      mark_part (λ (m : Mark). m.end) on.mark (mark_of row_of es root) end ends
      on.marked in
      let within = on.within in
      omega (arith, last, ap (length {A = Element}) (flat-forest row_of es))

  module _ (dim : ℕ) (mask : Mask) (end : ℕ) (ends : Some end ≡ option_map (λ (m : Mark). m.end) (mark_of row_of es root)) where
    tree : IsTree dim mask es root (forest row_of es) 0
    tree = root_found dim mask es root is_root root_there

    end_is : end ≡ tree.mark.end
    end_is = mark_part (λ (m : Mark). m.end) tree.mark (mark_of row_of es root) end
        ends tree.marked

module _ (fence : List Pt) where
  -- an item of which no part overlaps
  abbrev pub IsClear : Item → Type 0
  IsClear i = takes Mode.Overlap fence (i ∷ []) ≡ false

  abbrev IsPart : Item → Bool
  IsPart i = has_some (segments_of i)

  part_first : (i : Item) (is : List Item) → IsPart i ≡ true → parts (i ∷ is) ≡ segments_of i ∷ parts is
  part_first i is part = cond-true (IsPart i) (segments_of i ∷ parts is) (parts is) part

  part_none : (i : Item) (is : List Item) → IsPart i ≡ false → parts (i ∷ is) ≡ parts is
  part_none i is none = cond-false (IsPart i) (segments_of i ∷ parts is) (parts is) none

  clear_part : (i : Item) → IsPart i ≡ true → IsClear i → overlaps fence (segments_of i) ≡ false
  clear_part i part clear =
      let is : (has_some (segments_of i ∷ []) && list_any (overlaps fence) (segments_of i ∷ [])) ≡ false =
      ap (λ (ps : List (List (Pt × Pt))). has_some ps && list_any (overlaps fence) ps) (sym (part_first i [] part)) ∙ clear in
      (or_parts (overlaps fence (segments_of i)) (list_any (overlaps fence) []) is).0

  -- of several none does
  none_over : (is : List Item) → AllByRecursion IsClear is → list_any (overlaps fence) (parts is) ≡ false
  none_over [] each = refl
  none_over (i ∷ is) each = elim (cases_Bool (IsPart i)) [
    | inl part ↦
        ap (list_any (overlaps fence)) (part_first i is part)
        ∙ ap (λ (b : Bool). b || list_any (overlaps fence) (parts is)) (clear_part i part each.0)
        ∙ none_over is each.1
    | inr none ↦ ap (list_any (overlaps fence)) (part_none i is none) ∙ none_over is each.1
  ]

  either_false : (a b : Bool) → (a || b) ≡ false → (a && not b) ≡ false
  either_false true b is = absurd (let x = is in cc)
  either_false false b is = refl

  -- a part that doesn't overlap isn't inside
  not_inside : (p : List (Pt × Pt)) → overlaps fence p ≡ false → is_inside fence p ≡ false
  unfolding overlaps is_inside
  not_inside p is = either_false (begins_within fence p) (touches_fence fence p) is

  inside_none : (ps : List (List (Pt × Pt))) → list_any (overlaps fence) ps ≡ false → (has_some ps && list_all (is_inside fence) ps) ≡ false
  inside_none [] none = refl
  inside_none (p ∷ ps) none =
      ap (λ (b : Bool). b && list_all (is_inside fence) ps) (not_inside p (or_parts (overlaps fence p) (list_any (overlaps fence) ps) none).0)

  overlap_none : (ps : List (List (Pt × Pt))) → list_any (overlaps fence) ps ≡ false → (has_some ps && list_any (overlaps fence) ps) ≡ false
  overlap_none [] none = refl
  overlap_none (p ∷ ps) none = none

  has_none : (is : List Item) → AllByRecursion IsClear is → HasNone fence is
  has_none is each = record { inside = inside_none (parts is) (none_over is each); overlap = overlap_none (parts is) (none_over is each) }

  one_clear : (o : Option Item) → takes Mode.Overlap fence (option_to_list o) ≡ false → AllByRecursion IsClear (option_to_list o)
  one_clear None is = tt
  one_clear (Some i) is = (is, tt)

  module _ (dim : ℕ) (es : List Element) where
    -- no element from one number on and before another overlaps by itself
    abbrev pub ClearTo : ℕ → ℕ → Type 0
    ClearTo n end = (k depth : ℕ) (e : Element) → n ≤ k → k < end → slice_get es k ≡ Some e → takes Mode.Overlap fence (its_item dim k depth e) ≡ false

    pub next_clear : (n m : ℕ) (e : Element) → ClearTo n m → slice_get es m ≡ Some e
        → ((k depth : ℕ) → false ≡ takes Mode.Overlap fence (its_item dim k depth e)) → ClearTo n (m + 1)
    next_clear n m e before here clear = λ k depth x low high there. elim (cases_lt k m) [
      | inl less ↦ before k depth x low less there
      | inr past ↦
          let same : k ≡ m = omega (arith, past, high) in
          let is : x ≡ e = some_same (sym there ∙ ap (slice_get es) same ∙ here) in
          ap (λ (a : Element). takes Mode.Overlap fence (its_item dim k depth a)) is ∙ sym (clear k depth)
    ]

    -- so none of what the tree of a root shows
    pub tree_clear : (root end : ℕ) → IsRoot row_of es root
        → Some end ≡ option_map (λ (m : Mark). m.end) (mark_of row_of es root) → ClearTo root end
        → (mask : Mask) → HasNone fence (tree_shown dim mask es root)
    tree_clear root end is_root ends clear mask =
        let t = tree es root is_root dim mask end ends in
        let last = end_is es root is_root dim mask end ends in
        subst (HasNone fence) t.found
        (has_none _ (back_all IsClear dim mask es root (t.mark.end - root)
        (λ k depth e low high there. one_clear (item_of dim k depth e) (clear k depth e low (omega (arith, low, high, last, t.ordered)) there))))
