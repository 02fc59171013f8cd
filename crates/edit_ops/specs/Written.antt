-- What an edit puts into the headers above its element and into the live elements of its part, where nothing
-- stands against it.
use Rattle.std.specs.Prelude.{ℕ, ◌≡◌, ◌+◌, ◌*◌, List, [], ◌∷◌, ◌++◌, unwrap_or, slice_get, Option, IsTrue, IsFalse}
use Rattle.std.specs.List.{AllByRecursion, flat_map}
use Rattle.std.specs.Option.{option_to_list}
use Rattle.elem_head.specs.declared.types.Symb.{Symb}
use Rattle.dgn_layout.specs.Classes.{class_of, is_silent}
use Rattle.dgn_layout.specs.Spots.{has_spots}
use Rattle.patch_bytes.specs.Puts.{Put}
use Rattle.dgn_drawing.specs.declared.edit.Edit.{Edit}
use Rattle.dgn_drawing.specs.declared.edit.Edit.TheVariants as edit
use Rattle.dgn_drawing.specs.Values.{LookChange}
use Rattle.dgn_drawing.specs.Element.{Element}
use Rattle.dgn_drawing.specs.Changes.{stays_on_plane}
use Rattle.edit_ops.specs.Trees.{Live, reached, above_tree, found_at}
use Rattle.edit_ops.specs.Rules.{Rule}
use Rattle.dgn_layout.specs.declared.TheConstants.{END_MARK}

-- the two bytes of a look with what is given of another
abbrev pub new_look : LookChange → Symb → List ℕ
new_look change look = (unwrap_or change.style look.style + 8 * unwrap_or change.weight look.weight) ∷ unwrap_or change.color look.color ∷ []

-- what is put into elements that a row reaches, or into the copies of them
abbrev pub live_puts : Rule → List Live → List Put
live_puts r vs = flat_map (λ v. r.puts v.place v.element) vs

-- and into headers above an element
abbrev pub above_puts : Rule → Option Element → List Live → List Put
above_puts r head vs = flat_map (λ v. r.over_puts head v.place v.element) vs

-- into the headers above the part of element n, and into the elements that the row reaches in it
abbrev pub part_puts : Rule → List Element → ℕ → List Put
part_puts r es n = above_puts r (slice_get es n) (above_tree es n) ++ live_puts r (reached r.reach es n)

-- nothing stands against an edit of this live element
abbrev pub IsReady : ℕ → Edit → Element → Type 0
IsReady dim (edit.Move n by) e = IsTrue (has_spots (class_of e.kind)) × IsTrue (stays_on_plane dim by e)
IsReady dim (edit.Copy n by) e = IsTrue (has_spots (class_of e.kind)) × IsTrue (stays_on_plane dim by e)
IsReady dim (edit.Sym n change) e = IsFalse (is_silent (class_of e.kind))
IsReady dim (edit.Delete n) e = ¬ (e.kind ≡ END_MARK)
IsReady dim (edit.Append new) e = Unit {0}

-- the headers above a moved element have spots, so their ranges can be made wider
abbrev pub MayWiden : Edit → List Live → Type 0
MayWiden (edit.Move n by) vs = AllByRecursion (λ v. IsTrue (has_spots (class_of v.element.kind))) vs
MayWiden other vs = Unit {0}

-- the elements of these numbers
abbrev pub lives_of : List Element → List ℕ → List Live
lives_of es ms = flat_map (λ m. option_to_list (found_at es m)) ms
