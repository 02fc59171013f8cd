-- The item of an element, by the class of its type.
use Rattle.std.proofs.Common.{◌≡◌, ◌⊎◌, inl, inr, ℕ, List, map, Bool, true, false, cond, Some, None, refl, sym, ap, ◌∙◌}
use Rattle.std.specs.Prelude.{◌==◌}
use Rattle.elem_head.specs.Head.{kind_of, level_of, symbology_of}
use Rattle.range_code.specs.Ranges.{range_of}
use Rattle.dgn_layout.specs.declared.types.Class.{Class}
use Rattle.dgn_layout.specs.Classes.{class_of}
use Rattle.body_vertex.specs.Points.{points_of}
use Rattle.dgn_drawing.specs.declared.form.Form.{Form}
use Rattle.dgn_drawing.specs.declared.types.item_body.ItemBody.{ItemBody}
use Rattle.dgn_drawing.specs.Forms.{form_in, form_of}
use Rattle.dgn_drawing.specs.Reading.{form_at, parts_at, element_at}
use Rattle.dgn_drawing.specs.Faults.{is_shown}
use Rattle.dgn_drawing.specs.Items.{in_space, item_body_of, item_of}
use Rattle.dgn_drawing.proofs.ItemsShown.{path_shown, text_shown, node_shown, cell_shown, header_shown, plain_shown, silent_item, shared_item}
use Rattle.dgn_drawing.proofs.ItemsShown.{item_with, made_item}

-- what is shown by the range alone, and what is a header
abbrev pub IsRanged : ItemBody → Type 0
IsRanged (ItemBody.Path points) = ⊥
IsRanged (ItemBody.Text origin chars) = Unit {0}
IsRanged ItemBody.Boxed = Unit {0}
IsRanged (ItemBody.Cell name origin) = ⊥
IsRanged (ItemBody.Node origin) = ⊥
IsRanged ItemBody.Group = ⊥

abbrev pub IsHeader : ItemBody → Type 0
IsHeader (ItemBody.Path points) = ⊥
IsHeader (ItemBody.Text origin chars) = ⊥
IsHeader ItemBody.Boxed = ⊥
IsHeader (ItemBody.Cell name origin) = Unit {0}
IsHeader (ItemBody.Node origin) = Unit {0}
IsHeader ItemBody.Group = Unit {0}

module _ (dim number depth : ℕ) (b : List ℕ) where
  -- the item has that body
  pub record HasItem (body : ItemBody) : Type 0 where
    pub has : item_of dim number depth (element_at dim b) ≡ Some (item_with dim number depth b (kind_of b) (level_of b) (symbology_of b) (range_of b) body)

  with_body : is_shown (form_at b) ≡ true → (kind_of b ≡ 34 → ⊥) → (body : ItemBody) → item_body_of (parts_at (form_at b) dim b) ≡ body → HasItem body
  with_body shown other body is =
      record { has = sym (made_item dim number depth b shown other (kind_of b) (level_of b) (symbology_of b) (range_of b) body refl refl refl refl (sym is)) }

  shown_path : (form_at b ≡ Form.Line) ⊎ (form_at b ≡ Form.Points) → is_shown (form_at b) ≡ true
  shown_path (inl is) = ap is_shown is
  shown_path (inr is) = ap is_shown is

  -- a shared cell definition has none
  pub shared_none : kind_of b ≡ 34 → item_of dim number depth (element_at dim b) ≡ None
  unfolding form_of
  shared_none is = let plain : form_at b ≡ Form.Plain = ap form_of is in shared_item dim number depth b (ap is_shown plain) is

  module _ (c : Class) (these : c ≡ class_of (kind_of b)) where
    form_is : form_at b ≡ form_in c (kind_of b)
    unfolding form_of
    form_is = ap (λ (k : Class). form_in k (kind_of b)) (sym these)

    form_by : (k : Class) → c ≡ k → form_at b ≡ form_in k (kind_of b)
    form_by k is = form_is ∙ ap (λ (k : Class). form_in k (kind_of b)) is

    -- a row of points
    one_of : (t : Bool) → form_at b ≡ cond t Form.Line Form.Points → (form_at b ≡ Form.Line) ⊎ (form_at b ≡ Form.Points)
    one_of true is = inl is
    one_of false is = inr is

    pub path_item : c ≡ Class.Vertices → (kind_of b ≡ 34 → ⊥) → HasItem (ItemBody.Path (map in_space (points_of dim (kind_of b) b)))
    path_item is other = let form = one_of _ (form_by Class.Vertices is) in with_body (shown_path form) other _ (path_shown (form_at b) dim b form)

    -- what is shown by its range
    ranged_form : (c ≡ Class.Words) ⊎ ((c ≡ Class.Run) ⊎ ((c ≡ Class.Floating) ⊎ (c ≡ Class.Boxed))) → (form_at b ≡ Form.Text) ⊎ (form_at b ≡ Form.Plain)
    ranged_form (inl e) = inl (form_by Class.Words e)
    ranged_form (inr (inl e)) = inr (form_by Class.Run e)
    ranged_form (inr (inr (inl e))) = inr (form_by Class.Floating e)
    ranged_form (inr (inr (inr e))) = inr (form_by Class.Boxed e)

    by_form : (form_at b ≡ Form.Text) ⊎ (form_at b ≡ Form.Plain) → (kind_of b ≡ 34 → ⊥) → (body : ItemBody) × IsRanged body × HasItem body
    by_form (inl text) other = (_, tt, with_body (ap is_shown text) other _ (text_shown (form_at b) dim b text))
    by_form (inr plain) other = (_, tt, with_body (ap is_shown plain) other _ (plain_shown (form_at b) dim b plain))

    pub ranged_item : (c ≡ Class.Words) ⊎ ((c ≡ Class.Run) ⊎ ((c ≡ Class.Floating) ⊎ (c ≡ Class.Boxed))) → (kind_of b ≡ 34 → ⊥) → (body : ItemBody)
        × IsRanged body × HasItem body
    ranged_item is other = by_form (ranged_form is) other

    -- a header
    by_header : (s t : Bool) → form_at b ≡ cond s Form.Cell (cond t Form.Node Form.Header) → (kind_of b ≡ 34 → ⊥) → (body : ItemBody) × IsHeader body
        × HasItem body
    by_header true t is other = (_, tt, with_body (ap is_shown is) other _ (cell_shown (form_at b) dim b is))
    by_header false true is other = (_, tt, with_body (ap is_shown is) other _ (node_shown (form_at b) dim b is))
    by_header false false is other = (_, tt, with_body (ap is_shown is) other _ (header_shown (form_at b) dim b is))

    pub header_item : c ≡ Class.Counted → (kind_of b ≡ 34 → ⊥) → (body : ItemBody) × IsHeader body × HasItem body
    header_item is other = by_header (kind_of b == 2) (kind_of b == 7) (form_by Class.Counted is) other

    -- what is silent has none
    pub silent_none : c ≡ Class.Silent → item_of dim number depth (element_at dim b) ≡ None
    silent_none is = silent_item dim number depth b (form_by Class.Silent is)
