-- What `links N` says: a line for each linkage of the element, and how many there are. An element whose body
-- isn't read, and one that doesn't say that it has attribute data, has none.
use Rattle.std.specs.Prelude.{ℕ, ◌+◌, ◌*◌, ◌&&◌, not, if◌then◌else◌, List, [], ◌∷◌, ◌++◌, length, drop, codes, Option, Some, None}
use Rattle.std.specs.List.{flat_map}
use Rattle.elem_head.specs.Head.{kind_of, has_attributes, attributes_start}
use Rattle.dgn_layout.specs.Classes.{class_of, is_silent}
use Rattle.dgn_linkage.specs.declared.types.form.Form.{Form}
use Rattle.dgn_linkage.specs.declared.types.link.Link.{Link}
use Rattle.dgn_linkage.specs.Linkages.{linkages_of}
use Rattle.dgn_drawing.specs.Element.{Body, Silent, Shown, Element}
use Rattle.dgn_drawing.specs.Spelling.{spell}
use Rattle.dgn_drawing.specs.WellFormed.{says_attributes}
use Rattle.dgn_listing.specs.Lines.{line_feed, fields_text, ending_text}

-- what a linkage is
abbrev pub form_text : Form → List ℕ
form_text Form.Dmrs = codes "dmrs"
form_text Form.User = codes "user"
form_text Form.Rest = codes "rest"

-- the line of a linkage of data that begin at this byte of the element: its place, its length and what it is
abbrev pub link_text : ℕ → Link → List ℕ
link_text start link = fields_text ((start + link.at) ∷ link.len ∷ []) ++ (form_text link.form ++ line_feed)

-- the lines of linkages, and how many there are
abbrev pub linkages_text : ℕ → List Link → List ℕ
linkages_text start links = flat_map (link_text start) links ++ ending_text (codes "links") (length links)

-- what is said of an element with these bytes, whose attribute data begin at this byte, if there are any
abbrev pub data_text : Option ℕ → List ℕ → List ℕ
data_text None b = linkages_text 0 []
data_text (Some start) b = linkages_text start (linkages_of (drop start b))

-- where the attribute data of an element begin, if there are any
abbrev pub data_start : Body → Option ℕ
data_start (Silent rest) = None
data_start (Shown display parts rest) = if says_attributes display.properties then Some (32 + 2 * display.index) else None

-- the text of `links` for an element
abbrev pub links_text : Element → List ℕ
links_text e = data_text (data_start e.body) (spell e)

-- the same, by the bytes of the element
abbrev pub data_start_in : List ℕ → Option ℕ
data_start_in b = if not (is_silent (class_of (kind_of b))) && has_attributes b then Some (attributes_start b) else None

abbrev pub links_text_in : List ℕ → List ℕ
links_text_in b = data_text (data_start_in b) b
