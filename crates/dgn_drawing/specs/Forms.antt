-- Which body an element of each type has. The table of classes says it up to the class; within a class
-- a line differs from the other rows of points, and a cell and a text node from the other headers.
use Rattle.std.specs.Prelude.{ℕ, ◌==◌, if◌then◌else◌}
use Rattle.dgn_layout.specs.declared.types.Class.{Class}
use Rattle.dgn_layout.specs.Classes.{class_of}
use Rattle.dgn_drawing.specs.declared.form.Form.{Form}

-- the body of a type, by its class
abbrev pub form_in : Class → ℕ → Form
form_in Class.Vertices kind = if kind == 3 then Form.Line else Form.Points
form_in Class.Words kind = Form.Text
form_in Class.Counted kind = if kind == 2 then Form.Cell else if kind == 7 then Form.Node else Form.Header
form_in Class.Run kind = Form.Plain
form_in Class.Floating kind = Form.Plain
form_in Class.Boxed kind = Form.Plain
form_in Class.Silent kind = Form.Silent

-- the body of a type
unfoldable pub form_of : ℕ → Form
form_of kind = form_in (class_of kind) kind
