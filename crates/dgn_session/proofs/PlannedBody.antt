-- What a plan says of a body that opens, whose elements become others: the body with the plan carried out opens too, as
-- these, and the entry is that of the fields.
use Rattle.std.proofs.Common.{◌≡◌, ℕ, List, [], ◌∷◌, ◌++◌, length, take, drop, map, sym, ap, ◌∙◌, subst, arith, length-append}
use Rattle.std.specs.List.{AllByRecursion}
use Rattle.std.proofs.lemmas.Grind.{flat_map-append}
use Rattle.std.proofs.lemmas.List.{map-append, take-append-drop, drop_at}
use Rattle.std.proofs.lemmas.List.Elements.{recursion_from_All, All-from_recursion, All-drop}
use Rattle.patch_bytes.specs.Puts.{Put, write, old_of, Span}
use Rattle.undo_log.specs.Entries.{entry_of, back}
use Rattle.undo_log.specs.declared.entry.Entry.{Entry}
use Rattle.dgn_drawing.specs.declared.row.Row.{Row}
use Rattle.dgn_drawing.specs.Element.{Element}
use Rattle.dgn_drawing.specs.Spelling.{spell, spelling}
use Rattle.dgn_drawing.specs.WellFormed.{IsDimension, IsWellFormed}
use Rattle.dgn_drawing.specs.Rows.{row_of}
use Rattle.dgn_drawing.specs.Nesting.{BeginsFree, itself}
use Rattle.dgn_drawing.specs.Opening.{Opens, elements_of}
use Rattle.dgn_drawing.proofs.FirstElements.{dimension_is}
use Rattle.dgn_drawing.proofs.Fronts.{opens_elements, opens_of, body_spelled}
use Rattle.edit_ops.specs.declared.types.plan.Plan.{Plan}
use Rattle.edit_ops.specs.Fields.{Field, filled}
use Rattle.dgn_session.specs.State.{entry_with}
use Rattle.dgn_session.specs.Kept.{OpensAt}
use Rattle.dgn_session.specs.CarryingOut.{Spells, IsChange}
use Rattle.dgn_session.specs.SessionParts.{IsSoundPlan}
use Rattle.dgn_session.proofs.FrontSizes.{front_long}
use Rattle.dgn_session.proofs.EditedBody.{Become}
use Rattle.dgn_session.proofs.Rising.{filled_rise, olds_filled}
use Rattle.dgn_session.proofs.Leading.{leads_back}

-- elements and what is behind some of them
parted : (made : List Element) (n : ℕ) → spelling made ≡ spelling (take n made) ++ spelling (drop n made)
parted made n = ap spelling (sym (take-append-drop n made)) ∙ flat_map-append spell (take n made) (drop n made)

each_behind : (dim n : ℕ) (es : List Element) → AllByRecursion (IsWellFormed dim) es → AllByRecursion (IsWellFormed dim) (drop n es)
each_behind dim n es each = recursion_from_All (IsWellFormed dim) (drop n es) (All-drop (IsWellFormed dim) n es (All-from_recursion (IsWellFormed dim) es each))

pub free_rows : (es : List Element) → BeginsFree row_of es → BeginsFree itself (map row_of es)
free_rows [] free = free
free_rows (e ∷ es) free = free

abbrev entry_as : List Put → ℕ → Entry
entry_as ps n = record { patches = ps; len = n }

-- a body opens with the tail, its elements become others by these fields, and the plan says so
pub record IsPlanned (dim : ℕ) (tail b : List ℕ) (fields : List Field) (made : List Element) (p : Plan) : Type 0 where
  pub opens : OpensAt dim tail b
  pub becomes : Become dim tail (elements_of dim b) fields made
  pub patches : p.patches ≡ filled (spelling made) fields
  pub append : p.append ≡ drop (length (spelling (elements_of dim b))) (spelling made)

module _ (dim : ℕ) (tail b : List ℕ) (fields : List Field) (made : List Element) (p : Plan) (is : IsPlanned dim tail b fields made p) where
  pub body_is : spelling (elements_of dim b) ≡ b
  body_is = body_spelled b tail dim (elements_of dim b) is.opens.opens

  pub made_axes : IsDimension dim
  made_axes = subst IsDimension (sym is.opens.opens.axes) (dimension_is (b ++ tail))

  -- what is carried out spells what is made
  pub text_is : write b p.patches ++ p.append ≡ spelling made
  text_is =
      ap (λ (x : List ℕ). write x p.patches ++ p.append) (sym body_is)
      ∙ ap (λ (ps : List Put). write (spelling (elements_of dim b)) ps ++ p.append) is.patches
      ∙ ap (λ (x : List ℕ). write (spelling (elements_of dim b)) (filled (spelling made) fields) ++ x) is.append
      ∙ sym is.becomes.written

  pub made_are : elements_of dim (write b p.patches ++ p.append) ≡ made
  made_are = ap (elements_of dim) text_is ∙ opens_elements (spelling made) tail dim made is.becomes.opens

  pub opens_after : OpensAt dim tail (write b p.patches ++ p.append)
  opens_after =
      record {
        few = omega (arith, is.becomes.few, ap (length {A = ℕ}) text_is);
        opens = subst (λ (x : List ℕ). Opens (x ++ tail) dim (elements_of dim x) tail) (sym text_is) (opens_of (spelling made) tail dim made is.becomes.opens);
      }

  -- what it appends spells the elements behind the others
  pub append_is : p.append ≡ spelling (drop (length (elements_of dim b)) made)
  append_is =
      let n : ℕ = length (elements_of dim b) in
      let front : length (spelling (take n made)) ≡ length (spelling (elements_of dim b)) = front_long made (elements_of dim b) n is.becomes.rows in
      is.append ∙ ap (drop (length (spelling (elements_of dim b)))) (parted made n)
      ∙ drop_at (spelling (take n made)) (spelling (drop n made)) (length (spelling (elements_of dim b))) front

  pub append_spells : Spells dim (drop (length (elements_of dim b)) made) p.append
  append_spells = record { axes = made_axes; each = each_behind dim (length (elements_of dim b)) made is.becomes.opens.each; text = append_is }

  -- the patches rise
  patches_rise : Span 0 p.patches (length b)
  patches_rise =
      subst (λ (ps : List Put). Span 0 ps (length b)) (sym is.patches)
      (subst (λ (k : ℕ). Span 0 (filled (spelling made) fields) k) (ap (length {A = ℕ}) body_is)
      (filled_rise (spelling made) (length (spelling (elements_of dim b))) fields 0 is.becomes.long is.becomes.rise))

  -- so its entry leads back
  pub entry_leads : back (write b p.patches ++ p.append) (entry_of b p.patches) ≡ b
  entry_leads = leads_back b p.patches p.append patches_rise

  -- it is a change, with the rows of what it appends
  change_is : IsChange dim tail b p.patches p.append (map row_of (drop (length (elements_of dim b)) made))
  change_is =
      let n : ℕ = length (elements_of dim b) in
      record {
        opens = opens_after;
        rise = patches_rise;
        behind =
            ap (map row_of) (made_are ∙ sym (take-append-drop n made))
            ∙ map-append row_of (take n made) (drop n made)
            ∙ ap (λ (l : List Row). l ++ map row_of (drop n made)) is.becomes.rows;
        free = free_rows (drop n made) is.becomes.appended;
      }

  -- and it may be carried out
  pub plan_sound : IsSoundPlan dim tail b p
  plan_sound = record {
    new = drop (length (elements_of dim b)) made;
    spells = append_spells;
    short = let few = opens_after.few in omega (arith, few, length-append (write b p.patches) p.append);
    change = change_is;
  }

  -- the entry that it leaves is that of the fields
  pub entry_is : entry_of b p.patches ≡ entry_with (elements_of dim b) fields
  entry_is =
      let text : entry_of b p.patches ≡ entry_of (spelling (elements_of dim b)) p.patches = ap (λ (x : List ℕ). entry_of x p.patches) (sym body_is) in
      let held : map (old_of (spelling (elements_of dim b))) p.patches ≡ filled (spelling (elements_of dim b)) fields =
      ap (map (old_of (spelling (elements_of dim b)))) is.patches
      ∙ olds_filled (spelling (elements_of dim b)) (spelling made) (length (spelling (elements_of dim b))) fields 0 is.becomes.long is.becomes.rise in
      text ∙ ap (λ (ps : List Put). entry_as ps (length (spelling (elements_of dim b)))) held
