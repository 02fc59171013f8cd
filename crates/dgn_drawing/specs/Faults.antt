-- What can be wrong with one whole element: it can end before its body does, and its attribute data can
-- be said to begin before its body's end or behind its own end. A silent element has neither fault.
use Rattle.std.specs.Prelude.{ℕ, ◌≡◌, ◌&&◌, ◌||◌, Bool, true, false, List, length, nat_lt, if◌then◌else◌, ◌⊎◌}
use Rattle.std.specs.declared.result.Result.{Result}
use Rattle.std.specs.declared.result.Result.TheVariants.{Ok, Err}
use Rattle.elem_head.specs.Head.{size_of as size_said, has_attributes, attributes_start}
use Rattle.dgn_drawing.specs.declared.form.Form.{Form}
use Rattle.dgn_drawing.specs.declared.body_fault.BodyFault.{BodyFault}
use Rattle.dgn_drawing.specs.WellFormed.{IsBytes}
use Rattle.dgn_drawing.specs.Reading.{form_at, end_at}

-- the bytes are those of one whole element: as many as its size word says
pub record IsWhole (b : List ℕ) : Type 0 where
  pub size : length b ≡ size_said b
  pub bytes : IsBytes b

-- whether the element ends before its body does
abbrev pub is_short : ℕ → List ℕ → Bool
is_short dim b = nat_lt (length b) (end_at dim b)

-- whether a form has a display part
abbrev pub is_shown : Form → Bool
is_shown Form.Silent = false
is_shown form = true

-- whether its attribute data begin before the body's end or behind the element's
abbrev pub breaks_attribute_rule : ℕ → List ℕ → Bool
breaks_attribute_rule dim b =
    is_shown (form_at b) && has_attributes b
    && (nat_lt (attributes_start b) (end_at dim b) || nat_lt (length b) (attributes_start b))

-- the fault of the element, if it has one
abbrev pub element_fault : ℕ → List ℕ → Result (Unit {0}) BodyFault
element_fault dim b =
    if is_short dim b then Err BodyFault.Short
    else if breaks_attribute_rule dim b then Err BodyFault.Attr
    else Ok tt

-- the bytes are one whole element without a fault, in that dimension
pub record HasNoFaultIn (dim : ℕ) (b : List ℕ) : Type 0 where
  pub size : length b ≡ size_said b
  pub fault : element_fault dim b ≡ Ok tt

-- and in at least one dimension
abbrev pub HasNoFault : List ℕ → Type 0
HasNoFault b = HasNoFaultIn 2 b ⊎ HasNoFaultIn 3 b
