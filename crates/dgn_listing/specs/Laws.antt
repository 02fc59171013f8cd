-- What holds of the texts of the listings.
use Rattle.std.specs.Prelude.{ℕ, ◌≡◌}
use Rattle.dgn_drawing.specs.Element.{Element}
use Rattle.dgn_drawing.specs.Spelling.{spell}
use Rattle.dgn_drawing.specs.WellFormed.{IsDimension, IsWellFormed}
use Rattle.dgn_listing.specs.LinkTexts.{links_text, links_text_in}

-- what is said of an element's linkages by its bytes is what is said by its record
abbrev pub LinksAreOfTheRecord : Type 0
LinksAreOfTheRecord = (dim : ℕ) (e : Element) → IsDimension dim → IsWellFormed dim e → links_text_in (spell e) ≡ links_text e
