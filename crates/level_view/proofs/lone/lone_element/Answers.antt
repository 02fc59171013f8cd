use Rattle.std.proofs.Common.{◌≡◌, List, ℕ, Some, ap, sym, ◌∙◌}
use Rattle.dgn_drawing.specs.declared.mask.Mask.{Mask}
use Rattle.dgn_drawing.specs.Faults.{HasNoFaultIn}
use Rattle.std.specs.Prelude.{option_map, slice_get}
use Rattle.dgn_drawing.specs.Reading.{element_at}
use Rattle.dgn_drawing.specs.Spelling.{spell}
use Rattle.dgn_drawing.specs.Shown.{tree_shown, shown_alone}
use Rattle.elem_index.specs.Design.{elements}
use Rattle.level_view.proofs.LeafRoots.{leaf_knot, leaf_shown, if_mapped}
use Rattle.level_view.proofs.Places.{sound_here, element_here}
use Rattle.level_view.proofs.lone.lone_element.Goals as goal

pub returns-in-Some-Leaf-clause-bytes : goal.returns-in-Some-Leaf-clause-bytes
returns-in-Some-Leaf-clause-bytes c =
    if_mapped _ _ c.element.result (λ (b : List ℕ). Some b ≡ option_map spell (slice_get (elements c.args.d.now) c.args.n)) c.element.ensures.bytes (λ b is. is)

pub returns-in-Some-Leaf-clause-sound : goal.returns-in-Some-Leaf-clause-sound
returns-in-Some-Leaf-clause-sound c =
    if_mapped _ _ c.element.result (HasNoFaultIn c.args.d.now.dim) c.element.ensures.bytes (λ b is. sound_here c.args.d.now c.is_whole.ensures c.args.n b is)

pub returns-in-Some-Leaf-clause-shown : goal.returns-in-Some-Leaf-clause-shown
returns-in-Some-Leaf-clause-shown c =
    if_mapped _ _ c.element.result
    (λ (b : List ℕ). (mask : Mask)
    → tree_shown c.args.d.now.dim mask (elements c.args.d.now) c.args.n ≡ shown_alone c.args.d.now.dim mask c.args.n 0 (element_at c.args.d.now.dim b))
    c.element.ensures.bytes (λ b is mask.
    leaf_shown (elements c.args.d.now) c.args.n c.requires.root
    (leaf_knot _ (sym (ap Some c.in-Some-Leaf.field-0-is) ∙ c.in-Some-Leaf.ensures.knot))
    (element_at c.args.d.now.dim b) (element_here c.args.d.now c.is_whole.ensures c.args.n b is) c.args.d.now.dim mask)
