-- An element of a design file as a record: what its first two bytes say, and its body. An element whose
-- type isn't read has a silent body; every other one has a display part, the parts of its type, and a
-- rest, which holds its attribute data and whatever else stands there.
use Rattle.std.specs.Prelude.{ℕ, Bool, ℤ, List}
use Rattle.dgn_drawing.specs.declared.form.Form.{Form}

-- the display part: a low and a high corner of three numbers each, three words, and the look
pub record Display : Type 0 where
  pub low : List ℤ
  pub high : List ℤ
  pub group : ℕ
  pub index : ℕ
  pub properties : ℕ
  pub style : ℕ
  pub weight : ℕ
  pub color : ℕ

-- the parts behind the display part, by type: a line's two points; the points of a line string, a shape
-- or a curve; a text's run of bytes, origin, spare byte and characters; a text node's total, run and
-- origin; a cell's total, name of two words, run and origin; another header's total and number word;
-- nothing that is read
pub data Parts : Type 0 where
  Line : List (List ℤ) → Parts
  Points : List (List ℤ) → Parts
  Text : List ℕ → List ℤ → ℕ → List ℕ → Parts
  Node : ℕ → List ℕ → List ℤ → Parts
  Cell : ℕ → List ℕ → List ℕ → List ℤ → Parts
  Header : ℕ → ℕ → Parts
  Plain : Parts

-- the body: bytes that aren't read, or a display part, parts and a rest
pub data Body : Type 0 where
  Silent : List ℕ → Body
  Shown : Display → Parts → List ℕ → Body

-- the element
pub record Element : Type 0 where
  pub level : ℕ
  pub bit6 : Bool
  pub cbit : Bool
  pub kind : ℕ
  pub deleted : Bool
  pub body : Body

-- which body the parts are
abbrev pub form_of_parts : Parts → Form
form_of_parts (Line points) = Form.Line
form_of_parts (Points points) = Form.Points
form_of_parts (Text run origin spare chars) = Form.Text
form_of_parts (Node total run origin) = Form.Node
form_of_parts (Cell total name run origin) = Form.Cell
form_of_parts (Header total number) = Form.Header
form_of_parts Plain = Form.Plain

-- which body the body is
abbrev pub form_of_body : Body → Form
form_of_body (Silent rest) = Form.Silent
form_of_body (Shown display parts rest) = form_of_parts parts

-- the bytes of the body that are kept and never read
abbrev pub rest_of : Body → List ℕ
rest_of (Silent rest) = rest
rest_of (Shown display parts rest) = rest
