-- What is read of one element of a design, and what is known of one that stands by itself.
use Rattle.std.specs.Prelude.{ℕ, ◌≡◌, [], slice_get, Some, None}
use Rattle.std.specs.Option.{option_to_list}
use Rattle.elem_index.specs.declared.design.Design.{Design}
use Rattle.elem_index.specs.Design.{elements}
use Rattle.elem_index.specs.Offsets.{offset_of}
use Rattle.dgn_drawing.specs.Element.{Element}
use Rattle.dgn_drawing.specs.Spelling.{spell}
use Rattle.dgn_drawing.specs.WellFormed.{IsWellFormed}
use Rattle.edit_ops.specs.declared.elements.element_view.ElementView.{ElementView}
use Rattle.edit_ops.specs.Trees.{above_tree, live_tree, found_at}
use Rattle.edit_ops.specs.Causes.{part_cause}

-- this is element n of the design
pub record IsElementView (d : Design) (n : ℕ) (f : ElementView) : Type 0 where
  pub element : Element
  pub there : slice_get (elements d) n ≡ Some element
  pub good : IsWellFormed d.dim element
  pub place : f.place ≡ offset_of (elements d) n
  pub kind : f.kind ≡ element.kind
  pub deleted : f.deleted ≡ element.deleted
  pub bytes : f.bytes.now ≡ spell element

-- it stands below no header, it is the one live element of its part, and nothing keeps that part from any edit
pub record IsLone (d : Design) (n : ℕ) : Type 0 where
  pub above : above_tree (elements d) n ≡ []
  pub live : live_tree (elements d) n ≡ option_to_list (found_at (elements d) n)
  pub free : part_cause d.dim (elements d) n ≡ None
