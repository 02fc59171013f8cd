-- A drawing after mending: it opens as it did, and differs in the fields of the headers that change alone.
use Rattle.std.proofs.Common.{◌≡◌, ℕ, zero, suc, ◌+◌, ◌<◌, ◌≤◌, Bool, true, false, cond, List, [], ◌∷◌, ◌++◌, length, map, get_or, refl, sym, ap, ◌∙◌, subst, arith, length-append}
use Rattle.std.specs.List.{AllByRecursion}
use Rattle.std.proofs.lemmas.Bool.{cond_both, cond-true, cond-false}
use Rattle.std.proofs.lemmas.List.Elements.{recursion_from_All}
use Rattle.patch_bytes.specs.Puts.{Put, write, Span}
use Rattle.patch_bytes.proofs.PutsLaid.{write_other}
use Rattle.patch_bytes.proofs.RisingPuts.{span_within}
use Rattle.dgn_drawing.specs.Element.{Element}
use Rattle.dgn_drawing.specs.Spelling.{spell, spelling, size_of}
use Rattle.dgn_drawing.specs.WellFormed.{IsWellFormed}
use Rattle.dgn_drawing.specs.Opening.{dimension, BeginsWithTcb, Opens}
use Rattle.elem_index.proofs.Places.{opened_axes}
use Rattle.edit_ops.specs.Fields.{Field, IsIn, Rise}
use Rattle.edit_ops.proofs.FirstElement.{begins_as}
use Rattle.edit_ops.proofs.TextTurns.{Turns, turns_none, turns_then, whole_turned, whole_span}
use Rattle.edit_ops.proofs.LivePuts.{field_of}
use Rattle.edit_ops.proofs.PutFields.{fields_rise, held_by_none}
use Rattle.dgn_mend.specs.Mending.{mended, mend, has_changed, header_puts, header_fields, puts_from, fields_from, mend_puts, mend_fields}
use Rattle.dgn_mend.specs.Laws.{IsMendedFrom, AreMendedFrom, MendedElementsKeepTheirPlaces, MendedDrawingsOpen, ChangesHeaders, MendingChangesHeaders}
use Rattle.dgn_mend.proofs.ElementsMended.{IsTurned, AreTurned, mend_turned}

turned_from : (dim : ℕ) (es ms : List Element) → AreTurned dim es ms → AreMendedFrom dim es ms
turned_from dim [] [] each = tt
turned_from dim (e ∷ es) (m ∷ ms) each = (each.0.from, turned_from dim es ms each.1)
turned_from dim [] (m ∷ ms) each = absurd each
turned_from dim (e ∷ es) [] each = absurd each

turned_length : (dim : ℕ) (es ms : List Element) → AreTurned dim es ms → length ms ≡ length es
turned_length dim [] [] each = refl
turned_length dim (e ∷ es) (m ∷ ms) each = omega (arith, turned_length dim es ms each.1)
turned_length dim [] (m ∷ ms) each = absurd each
turned_length dim (e ∷ es) [] each = absurd each

turned_sizes : (dim : ℕ) (es ms : List Element) → AreTurned dim es ms → map size_of ms ≡ map size_of es
turned_sizes dim [] [] each = refl
turned_sizes dim (e ∷ es) (m ∷ ms) each =
    ap (λ (n : ℕ). n ∷ map size_of ms) each.0.from.size ∙ ap (λ (ns : List ℕ). size_of e ∷ ns) (turned_sizes dim es ms each.1)
turned_sizes dim [] (m ∷ ms) each = absurd each
turned_sizes dim (e ∷ es) [] each = absurd each

turned_good : (dim : ℕ) (es ms : List Element) → AreTurned dim es ms → AllByRecursion (IsWellFormed dim) ms
turned_good dim [] [] each = tt
turned_good dim (e ∷ es) (m ∷ ms) each = (each.0.from.good, turned_good dim es ms each.1)
turned_good dim [] (m ∷ ms) each = absurd each
turned_good dim (e ∷ es) [] each = absurd each

-- the first puts and fields, if there are any, stand before the others
first_puts : (c : Bool) (a b : List Put) → cond c (a ++ b) b ≡ cond c a [] ++ b
first_puts c a b = cond_both c (a ++ b) b (λ l. l ≡ cond c a [] ++ b) (λ is. ap (λ (x : List Put). x ++ b) (sym (cond-true c a [] is)))
    (λ is. ap (λ (x : List Put). x ++ b) (sym (cond-false c a [] is)))

turned_bytes : (dim p : ℕ) (es ms : List Element) → AreTurned dim es ms → Turns p (spelling es) (puts_from p es ms) (spelling ms)
turned_bytes dim p [] [] each = turns_none p []
turned_bytes dim p (e ∷ es) (m ∷ ms) each =
    subst (λ (ps : List Put). Turns p (spell e ++ spelling es) ps (spell m ++ spelling ms))
    (sym (first_puts (has_changed e m) (header_puts p m) (puts_from (p + size_of e) es ms)))
    (turns_then p (p + size_of e) (spell e) (spelling es) (spell m) (spelling ms) (cond (has_changed e m) (header_puts p m) [])
    (puts_from (p + size_of e) es ms) refl (each.0.turned p) (turned_bytes dim (p + size_of e) es ms each.1))
turned_bytes dim p [] (m ∷ ms) each = absurd each
turned_bytes dim p (e ∷ es) [] each = absurd each

turned_fields : (p : ℕ) (es ms : List Element) → map field_of (puts_from p es ms) ≡ fields_from p es ms
turned_fields p [] ms = refl
turned_fields p (e ∷ es) [] = refl
turned_fields p (e ∷ es) (m ∷ ms) =
    let more : List Put = puts_from (p + size_of e) es ms in
    let fields : List Field = fields_from (p + size_of e) es ms in
    let same : map field_of more ≡ fields = turned_fields (p + size_of e) es ms in
    both (has_changed e m) more fields same
  where
    both : (c : Bool) (more : List Put) (fields : List Field) → map field_of more ≡ fields
        → map field_of (cond c (header_puts p m ++ more) more) ≡ cond c (header_fields p ++ fields) fields
    both true more fields same = ap (λ (l : List Field). header_fields p ++ l) same
    both false more fields same = same

-- the laws
pub keep_places : MendedElementsKeepTheirPlaces
keep_places f dim es t opens =
    let each = mend_turned dim es opens.each in
    (turned_length dim es (mend dim es) each, turned_sizes dim es (mend dim es) each, turned_from dim es (mend dim es) each)

mend_begins : (dim : ℕ) (es : List Element) (t f : List ℕ) → Opens f dim es t
    → BeginsWithTcb (mend dim es) × (dimension (spelling (mend dim es) ++ t) ≡ dimension (spelling es ++ t))
mend_begins dim [] t f opens = absurd opens.first
mend_begins dim (e ∷ es) t f opens =
    begins_as dim e es (mend dim (e ∷ es)) t (opened_axes f dim (e ∷ es) t opens) opens.each.0 opens.first
    (record { behind = mended dim true [] es; is = refl })

pub mended_opens : MendedDrawingsOpen
mended_opens f dim es t opens =
    let begins = mend_begins dim es t f opens in
    record {
      whole = refl;
      each = turned_good dim es (mend dim es) (mend_turned dim es opens.each);
      first = begins.0;
      tail = opens.tail;
      axes = opens.axes ∙ ap dimension opens.whole ∙ sym begins.1;
    }

pub changes_headers : MendingChangesHeaders
changes_headers f dim es t opens =
    let turned = turned_bytes dim 0 es (mend dim es) (mend_turned dim es opens.each) in
    let span : Span 0 (mend_puts dim es) (length (spelling es)) = whole_span (spelling es) (spelling (mend dim es)) (mend_puts dim es) turned in
    let written : write (spelling es) (mend_puts dim es) ≡ spelling (mend dim es) = whole_turned (spelling es) (spelling (mend dim es)) (mend_puts dim es) turned in
    let fields : map field_of (mend_puts dim es) ≡ mend_fields dim es = turned_fields 0 es (mend dim es) in
    record {
      long = sym turned.same;
      written = written;
      rise = subst (λ (fs : List Field). Rise 0 fs (length (spelling es))) fields (fields_rise (length (spelling es)) (mend_puts dim es) 0 span);
      stays = λ k none.
          ap (λ (z : List ℕ). get_or z k 0) (sym written)
          ∙ write_other (spelling es) (mend_puts dim es) k 0 (span_within (length (spelling es)) (mend_puts dim es) 0 span)
          (held_by_none k (mend_puts dim es) (subst (AllByRecursion (λ f. ¬ IsIn f k)) (sym fields) (recursion_from_All _ (mend_fields dim es) none)));
    }
