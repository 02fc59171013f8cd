-- What `tree N` says: a line for each element from N to the last one below it, and how many there are.
use Rattle.std.specs.Prelude.{ℕ, ◌-◌, Bool, if◌then◌else◌, List, [], ◌∷◌, ◌++◌, codes, slice_get, Option, Some, None}
use Rattle.nest_tree.specs.declared.knot.Knot.{Knot}
use Rattle.nest_tree.specs.Shapes.{code_knot}
use Rattle.dgn_drawing.specs.Element.{Element}
use Rattle.dgn_drawing.specs.Rows.{row_of}
use Rattle.dgn_drawing.specs.Numbering.{Mark, mark_of, is_orphan}
use Rattle.dgn_listing.specs.declared.tree_line.TreeLine.{TreeLine}
use Rattle.dgn_listing.specs.Lines.{line_feed, fields_text, texts_from, ending_text}

-- what is said of an element with a number and a mark
abbrev pub line_of : ℕ → Element → Mark → TreeLine
line_of n e m = record {
  number = n;
  depth = m.depth;
  kind = e.kind;
  level = e.level;
  knot = code_knot m.knot;
  deleted = e.deleted;
  orphan = is_orphan n m (row_of e);
}

-- what the element is in its tree
abbrev pub knot_text : Knot → List ℕ
knot_text Knot.Leaf = codes "leaf"
knot_text Knot.Group = codes "group"
knot_text Knot.Run = codes "run"
knot_text Knot.Loose = codes "loose"

-- whether the element itself is marked deleted
abbrev pub state_text : Bool → List ℕ
state_text deleted = if deleted then codes " deleted" else codes " live"

abbrev pub orphan_text : Bool → List ℕ
orphan_text orphan = if orphan then codes " orphan" else []

-- the line: number, depth, type, level, and the words
abbrev pub numbers_text : TreeLine → List ℕ
numbers_text line = fields_text (line.number ∷ line.depth ∷ line.kind ∷ line.level ∷ [])

abbrev pub line_text : TreeLine → List ℕ
line_text line = numbers_text line ++ (knot_text line.knot ++ (state_text line.deleted ++ (orphan_text line.orphan ++ line_feed)))

-- the line of the element that has number n, if one has
abbrev pub line_at : ℕ → Option Element → Option Mark → Option TreeLine
line_at n (Some e) (Some m) = Some (line_of n e m)
line_at n other another = None

abbrev pub text_at : Option TreeLine → List ℕ
text_at (Some line) = line_text line
text_at None = []

abbrev pub element_text : List Element → ℕ → List ℕ
element_text es n = text_at (line_at n (slice_get es n) (mark_of row_of es n))

-- the text of `tree n`: the lines of the numbers from n to the end of its span, and how many they are
abbrev pub tree_text_by : List Element → ℕ → Option Mark → List ℕ
tree_text_by es n (Some m) = texts_from (element_text es) n (m.end - n) ++ ending_text (codes "tree") (m.end - n)
tree_text_by es n None = []

abbrev pub tree_text : List Element → ℕ → List ℕ
tree_text es n = tree_text_by es n (mark_of row_of es n)
