-- What `links` says of an element of a design, by its bytes.
use Rattle.std.proofs.Common.{◌≡◌, ◌++◌, List, ℕ, refl, sym, ap, ◌∙◌, subst}
use Rattle.std.specs.Prelude.{Option, Some, None, option_map, slice_get}
use Rattle.dgn_drawing.specs.Element.{Element}
use Rattle.dgn_drawing.specs.Spelling.{spell}
use Rattle.dgn_drawing.specs.WellFormed.{IsDimension, IsWellFormed}
use Rattle.elem_index.specs.declared.design.Design.{Design}
use Rattle.elem_index.specs.Design.{elements, IsWhole}
use Rattle.elem_index.proofs.Places.{each_at}
use Rattle.dgn_drawing.proofs.FirstElements.{dimension_is}
use Rattle.dgn_listing.specs.LinkTexts.{links_text_in}
use Rattle.dgn_listing.proofs.AttributeData.{links-spell}
use Rattle.dgn_answers.specs.Texts.{links_said_of, links_said}

links_read : (dim n : ℕ) (b : List ℕ) (found : Option Element) → IsDimension dim → ((e : Element) → found ≡ Some e → IsWellFormed dim e)
    → Some b ≡ option_map spell found → links_text_in b ≡ links_said_of n found
links_read dim n b None axes good is = absurd (let f = is in cc)
links_read dim n b (Some e) axes good is =
    let same : b ≡ spell e = cc in
    ap links_text_in same ∙ links-spell dim e axes (good e refl)

pub links_answered : (d : Design) → IsWhole d → (n : ℕ) (b : List ℕ) → Some b ≡ option_map spell (slice_get (elements d) n)
    → links_text_in b ≡ links_said (elements d) n
links_answered d whole n b is =
    links_read d.dim n b (slice_get (elements d) n) (subst IsDimension (sym whole.is_open.opens.axes) (dimension_is (d.body.items ++ d.tail.items)))
    (λ e found. each_at (IsWellFormed d.dim) (elements d) n e whole.is_open.opens.each found) is
