-- What is read of one element says whether it can be moved.
use Rattle.std.proofs.Common.{◌≡◌, ℕ, List, ◌∷◌, Bool, true, Option, None, sym, ap, ◌∙◌}
use Rattle.std.specs.Prelude.{◌&&◌, slice_get}
use Rattle.std.specs.List.{list_all}
use Rattle.dgn_layout.specs.Classes.{class_of}
use Rattle.dgn_layout.specs.Spots.{has_spots}
use Rattle.dgn_layout.specs.declared.spot.Spot.{Spot}
use Rattle.dgn_drawing.specs.Element.{Element}
use Rattle.elem_index.specs.declared.design.Design.{Design}
use Rattle.elem_index.specs.Design.{elements, IsWhole}
use Rattle.edit_ops.specs.declared.elements.element_view.ElementView.{ElementView}
use Rattle.edit_ops.specs.declared.causes.test.Test.TheVariants as tests
use Rattle.edit_ops.specs.Causes.{unmovable}
use Rattle.edit_ops.specs.Asking.{cause_in}
use Rattle.edit_ops.specs.ElementViews.{IsElementView}
use Rattle.edit_ops.proofs.AcceptedEdit.{movable}

module _ (d : Design) (whole : IsWhole d) (m : ℕ) (f : ElementView) (found : IsElementView d m f) where
  abbrev here_too : Option Element
  here_too = slice_get (elements d) m

  -- what each test has against it, by what is read of it
  pub moves_found : unmovable m (class_of f.kind) ≡ cause_in d.dim tests.Moves m here_too
  moves_found = ap (λ (k : ℕ). unmovable m (class_of k)) found.kind ∙ ap (cause_in d.dim tests.Moves m) (sym found.there)

  pub some_spots : unmovable m (class_of f.kind) ≡ None → has_spots (class_of found.element.kind) ≡ true
  some_spots none = movable m (class_of found.element.kind) (ap (λ (k : ℕ). unmovable m (class_of k)) (sym found.kind) ∙ none)

-- a spot at which the sum stays says nothing of all the others
pub stays_next : (test : Spot → Bool) (s : Spot) (ss : List Spot) → test s ≡ true → list_all test ss ≡ list_all test (s ∷ ss)
stays_next test s ss is = sym (ap (λ (b : Bool). b && list_all test ss) is)
