-- Whether an element is drawn, by what is read of it.
use Rattle.std.proofs.Common.{◌≡◌, ℕ, ◌&&◌, Bool, true, false, sym, ap, ◌∙◌}
use Rattle.std.specs.Prelude.{not, slice_get}
use Rattle.std.proofs.lemmas.Bool.{and_left}
use Rattle.dgn_layout.specs.Classes.{class_of, is_silent}
use Rattle.elem_index.specs.declared.design.Design.{Design}
use Rattle.elem_index.specs.Design.{elements}
use Rattle.edit_ops.specs.declared.elements.element_view.ElementView.{ElementView}
use Rattle.edit_ops.specs.ElementViews.{IsElementView}
use Rattle.dgn_import.specs.Gathering.{is_drawn}

module _ (d : Design) (n : ℕ) (f : ElementView) (found : IsElementView d n f) (silent : Bool) (is : silent ≡ is_silent (class_of f.kind)) where
  drawn_is : is_drawn (slice_get (elements d) n) ≡ (not silent && not f.deleted)
  drawn_is =
      ap is_drawn found.there
      ∙ ap (λ (k : ℕ). not (is_silent (class_of k)) && not found.element.deleted) (sym found.kind)
      ∙ ap (λ (b : Bool). not (is_silent (class_of f.kind)) && not b) (sym found.deleted)
      ∙ ap (λ (b : Bool). not b && not f.deleted) (sym is)

  pub drawn_seen : not silent ≡ true → not f.deleted ≡ is_drawn (slice_get (elements d) n)
  drawn_seen loud = sym (drawn_is ∙ ap (λ (b : Bool). b && not f.deleted) loud)

  pub drawn_silent : not silent ≡ false → not silent ≡ is_drawn (slice_get (elements d) n)
  drawn_silent quiet = quiet ∙ sym (drawn_is ∙ and_left (not silent) (not f.deleted) quiet)
