-- What the first bytes of an element say of the record that is read from them, and what hides it.
use Rattle.std.proofs.Common.{◌≡◌, ℕ, List, [], ◌++◌, sym, ap, ◌∙◌, Bool, true, false, cond}
use Rattle.std.specs.Prelude.{◌&&◌, not}
use Rattle.std.proofs.lemmas.Bool.{cond-true, cond-false}
use Rattle.elem_head.specs.Head.{head_of}
use Rattle.elem_head.specs.declared.types.Head.{Head}
use Rattle.dgn_drawing.specs.declared.types.item.Item.{Item}
use Rattle.dgn_drawing.specs.declared.mask.Mask.{Mask}
use Rattle.dgn_drawing.specs.Reading.{element_at}
use Rattle.dgn_drawing.specs.Shown.{shows, its_item, shown_alone}
use Rattle.level_view.specs.Back.{past, begins_below, with_group}

module _ (dim : ℕ) (b : List ℕ) (h : Head) (is : h ≡ head_of b) where
  deleted-read : h.deleted ≡ (element_at dim b).deleted
  unfolding element_at
  deleted-read = ap (λ (x : Head). x.deleted) is

  level-read : h.level ≡ (element_at dim b).level
  unfolding element_at
  level-read = ap (λ (x : Head). x.level) is

  module _ (mask : Mask) (number depth : ℕ) where
    pub deleted_hides : h.deleted ≡ true → [] ≡ shown_alone dim mask number depth (element_at dim b)
    deleted_hides gone =
        let e : (element_at dim b).deleted ≡ true = sym deleted-read ∙ gone in
        ap (λ (t : Bool). cond (not t && shows mask (element_at dim b).level) (its_item dim number depth (element_at dim b)) []) (sym e)

    pub mask_hides : h.deleted ≡ false → shows mask h.level ≡ false → [] ≡ shown_alone dim mask number depth (element_at dim b)
    mask_hides here hidden =
        let e : (element_at dim b).deleted ≡ false = sym deleted-read ∙ here in
        let l : shows mask (element_at dim b).level ≡ false = ap (shows mask) (sym level-read) ∙ hidden in
        sym (cond-false (not (element_at dim b).deleted && shows mask (element_at dim b).level) _ _
        (ap (λ (t : Bool). not t && shows mask (element_at dim b).level) e ∙ l))

    pub is_shown : h.deleted ≡ false → shows mask h.level ≡ true
        → its_item dim number depth (element_at dim b) ≡ shown_alone dim mask number depth (element_at dim b)
    is_shown here seen =
        let e : (element_at dim b).deleted ≡ false = sym deleted-read ∙ here in
        let l : shows mask (element_at dim b).level ≡ true = ap (shows mask) (sym level-read) ∙ seen in
        sym (cond-true (not (element_at dim b).deleted && shows mask (element_at dim b).level) _ _
        (ap (λ (t : Bool). not t && shows mask (element_at dim b).level) e ∙ l))

  module _ (number depth end : ℕ) (found : List Item) where
    pub group_gone : h.deleted ≡ true → past end found ≡ with_group dim number depth end (element_at dim b) found
    group_gone gone = sym (cond-true (element_at dim b).deleted _ _ (sym deleted-read ∙ gone))

    pub group_shown : h.deleted ≡ false → begins_below end found ≡ true → its_item dim number depth (element_at dim b)
        ++ found ≡ with_group dim number depth end (element_at dim b) found
    group_shown here some =
        sym (cond-false (element_at dim b).deleted _ _ (sym deleted-read ∙ here) ∙ cond-true (begins_below end found) _ _ some)
