-- The fields of an edit are apart, and each lies in its element, and all in the tree that holds the edit's element.
use Rattle.std.proofs.Common.{◌≡◌, ℕ, ◌+◌, ◌≤◌, List, [], ◌∷◌, length, map, refl, sym, ap, ◌∙◌, subst, arith}
use Rattle.std.specs.Prelude.{All, Some, None, slice_get}
use Rattle.std.specs.List.{AllByRecursion, flat_map}
use Rattle.std.proofs.lemmas.List.Elements.{All-from_recursion}
use Rattle.patch_bytes.specs.Puts.{Put, Span}
use Rattle.patch_bytes.proofs.RisingPuts.{span_long}
use Rattle.dgn_drawing.specs.declared.edit.Edit.{Edit}
use Rattle.dgn_drawing.specs.declared.edit.Edit.TheVariants as edit
use Rattle.dgn_drawing.specs.Element.{Element}
use Rattle.dgn_drawing.specs.Spelling.{spell, spelling, size_of}
use Rattle.dgn_drawing.specs.WellFormed.{IsDimension}
use Rattle.dgn_drawing.specs.Rows.{row_of}
use Rattle.dgn_drawing.specs.Nesting.{flat}
use Rattle.dgn_drawing.specs.Numbering.{root_of, span_of}
use Rattle.dgn_drawing.specs.Opening.{Opens}
use Rattle.elem_index.specs.Offsets.{offset_of}
use Rattle.edit_ops.specs.Trees.{Live, reached, above_tree}
use Rattle.edit_ops.specs.Causes.{target_of, cause_of}
use Rattle.edit_ops.specs.Applying.{Done, apply, altered, IsEdit}
use Rattle.edit_ops.specs.Fields.{Field, Rise}
use Rattle.edit_ops.specs.EditedFields.{above_fields, live_fields, part_fields, edited_fields}
use Rattle.edit_ops.specs.Rules.{Rule, rule_of}
use Rattle.edit_ops.specs.Written.{part_puts}
use Rattle.edit_ops.specs.Laws.{LieIn, FieldsLieApart, EditedFieldsAreApart}
use Rattle.edit_ops.proofs.EachLive.{each_both}
use Rattle.edit_ops.proofs.TextTurns.{Turns, whole_span}
use Rattle.edit_ops.proofs.LivePuts.{field_of, IsPut}
use Rattle.edit_ops.proofs.HeaderPuts.{IsAbovePut}
use Rattle.edit_ops.proofs.PutFields.{fields_rise}
use Rattle.edit_ops.proofs.EditedBytes.{IsWritten, all_so}
use Rattle.edit_ops.proofs.AcceptedEdit.{done_is}
use Rattle.edit_ops.proofs.EditsLeft.{named_target, named_written}
use Rattle.edit_ops.proofs.TreeSpread.{LiesBetween, LieInTree, lie_in_tree, reached_lie}
use Rattle.elem_index.proofs.Places.{opened_axes}

-- a field lies between two places
abbrev LiesIn : ℕ → ℕ → Field → Type 0
LiesIn n m f = (n ≤ f.at) × (f.at + f.len ≤ m)

-- fields that rise lie between the places between which they rise
fields_within : (low m : ℕ) (ps : List Put) (n : ℕ) → low ≤ n → Span n ps m → AllByRecursion (LiesIn low m) (map field_of ps)
fields_within low m [] n from span = tt
fields_within low m (p ∷ ps) n from span =
    let first = span.0 in
    let ends : p.at + length p.bytes ≤ m = span_long m ps (p.at + length p.bytes) span.1 in
    ((omega arith, ends), fields_within low m ps (p.at + length p.bytes) (omega arith) span.1)

-- fields that rise, and end by a place, rise to it
rise_to : (low end m : ℕ) (fs : List Field) (n : ℕ) → n ≤ end → Rise n fs m → AllByRecursion (LiesIn low end) fs → Rise n fs end
rise_to low end m [] n by rise all = by
rise_to low end m (f ∷ fs) n by rise all = (rise.0, rise_to low end m fs (f.at + f.len) all.0.1 rise.1 all.1)

-- and fields that rise, and lie between two places, rise between them
rise_between : (low end m : ℕ) (fs : List Field) (n : ℕ) → low ≤ end → Rise n fs m → AllByRecursion (LiesIn low end) fs → Rise low fs end
rise_between low end m [] n by rise all = by
rise_between low end m (f ∷ fs) n by rise all = (all.0.0, rise_to low end m fs (f.at + f.len) all.0.1 rise.1 all.1)

-- fields that lie in their element
abbrev LieInside : (Live → List Field) → Live → Type 0
LieInside fields v = AllByRecursion (LiesIn v.place (v.place + size_of v.element)) (fields v)

-- those of puts that turn the element do
turned_inside : (v : Live) (ps : List Put) (after : List ℕ) (fs : List Field) → Turns v.place (spell v.element) ps after → map field_of ps ≡ fs
    → AllByRecursion (LiesIn v.place (v.place + size_of v.element)) fs
turned_inside v ps after fs turns are =
    subst (AllByRecursion (LiesIn v.place (v.place + size_of v.element))) are
    (fields_within v.place (v.place + size_of v.element) ps v.place (omega arith) turns.span)

-- fields that lie in elements lie between two places between which these lie
fields_spread : (low end : ℕ) (fields : Live → List Field) (vs : List Live) → AllByRecursion (LiesBetween low end) vs → AllByRecursion (LieInside fields) vs
    → AllByRecursion (LiesIn low end) (flat_map fields vs)
fields_spread low end fields [] lie inside = tt
fields_spread low end fields (v ∷ vs) lie inside =
    each_both (LiesIn low end) (fields v) (flat_map fields vs)
    (all_so (LiesIn v.place (v.place + size_of v.element)) (LiesIn low end)
    (λ f is. (let a = lie.0.0 in let b = is.0 in omega arith, let a = lie.0.1 in let b = is.1 in omega arith)) (fields v) inside.0)
    (fields_spread low end fields vs lie.1 inside.1)

-- what lies inside, said of each by its place in the list
lie_in : (fields : Live → List Field) (vs : List Live) → AllByRecursion (LieInside fields) vs → LieIn fields vs
lie_in fields vs inside =
    All-from_recursion (λ (v : Live). All (LiesIn v.place (v.place + size_of v.element)) (fields v)) vs
    (all_so (LieInside fields) (λ (v : Live). All (LiesIn v.place (v.place + size_of v.element)) (fields v))
    (λ v is. All-from_recursion (LiesIn v.place (v.place + size_of v.element)) (fields v) is) vs inside)

-- the fields of the elements that a row reaches lie in these, and those of the headers above in those
live_inside : (dim : ℕ) (es : List Element) (r : Rule) (n : ℕ) → IsWritten dim es r n
    → AllByRecursion (LieInside (λ v. r.fields v.place v.element)) (reached r.reach es n)
live_inside dim es r n wrote =
    all_so (λ v. IsPut dim r v.element) (LieInside (λ v. r.fields v.place v.element))
    (λ v is. turned_inside v (r.puts v.place v.element) (spell (r.made v.element)) (r.fields v.place v.element) (is.turned v.place) (is.fields v.place))
    (reached r.reach es n) wrote.each

above_inside : (dim : ℕ) (es : List Element) (r : Rule) (n : ℕ) → IsWritten dim es r n → AllByRecursion (LieInside (λ v. r.over v.place v.element)) (above_tree es n)
above_inside dim es r n wrote =
    all_so (λ v. IsAbovePut dim r (slice_get es n) v.element) (LieInside (λ v. r.over v.place v.element))
    (λ v is. turned_inside v (r.over_puts (slice_get es n) v.place v.element) (spell (r.above (slice_get es n) v.element)) (r.over v.place v.element)
    (is.turned v.place) (is.fields v.place))
    (above_tree es n) wrote.each_above

-- the fields of a part rise in the drawing
part_rises : (dim : ℕ) (es : List Element) (r : Rule) (n : ℕ) → IsWritten dim es r n → Rise 0 (part_fields r es n) (length (spelling es))
part_rises dim es r n wrote =
    subst (λ (fs : List Field). Rise 0 fs (length (spelling es))) wrote.fields
    (fields_rise (length (spelling es)) (part_puts r es n) 0
    (whole_span (spelling es) (spelling (flat (altered r es n))) (part_puts r es n) wrote.turned))

-- and in the tree that holds the part
part_in_tree : (dim : ℕ) (es : List Element) (r : Rule) (n root end : ℕ) → IsWritten dim es r n → LieInTree es n root end
    → Rise (offset_of es root) (part_fields r es n) (offset_of es end)
part_in_tree dim es r n root end wrote lie =
    rise_between (offset_of es root) (offset_of es end) (length (spelling es)) (part_fields r es n) 0 lie.rises (part_rises dim es r n wrote)
    (each_both (LiesIn (offset_of es root) (offset_of es end)) (above_fields r (above_tree es n)) (live_fields r (reached r.reach es n))
    (fields_spread (offset_of es root) (offset_of es end) (λ v. r.over v.place v.element) (above_tree es n) lie.above (above_inside dim es r n wrote))
    (fields_spread (offset_of es root) (offset_of es end) (λ v. r.fields v.place v.element) (reached r.reach es n) (reached_lie r.reach es n root end lie) (live_inside dim es r n wrote)))

-- an edit names one element
one_target : (e : Edit) (n m : ℕ) → target_of e ≡ Some n → target_of e ≡ Some m → n ≡ m
one_target e n m a b = cc

module _ (f : List ℕ) (dim : ℕ) (es : List Element) (t : List ℕ) (rest : ℕ) (e : Edit) (made : List Element) (fits : IsEdit e) (opens : Opens f dim es t)
    (done : apply dim es rest e ≡ Done made) where
  -- the row of the edit
  abbrev row : Rule
  row = rule_of dim e

  none : cause_of dim es rest e ≡ None
  none = (done_is dim es rest e made done).0

  axes : IsDimension dim
  axes = opened_axes f dim es t opens

  wrote : (n : ℕ) → target_of e ≡ Some n → IsWritten dim es row n
  wrote n named = named_written dim axes es opens.each opens.first rest e fits none n named

  lies : (n root end : ℕ) → target_of e ≡ Some n → root_of row_of es n ≡ Some root → span_of row_of es root ≡ Some (root, end) → LieInTree es n root end
  lies n root end named root_is span =
      lie_in_tree es n root end (named_target dim axes es opens.each opens.first rest e fits none n named).known root_is span

  within : (n : ℕ) → target_of e ≡ Some n → LieIn (λ v. row.fields v.place v.element) (reached row.reach es n)
  within n named = lie_in (λ v. row.fields v.place v.element) (reached row.reach es n) (live_inside dim es row n (wrote n named))

  above : (n : ℕ) → target_of e ≡ Some n → LieIn (λ v. row.over v.place v.element) (above_tree es n)
  above n named = lie_in (λ v. row.over v.place v.element) (above_tree es n) (above_inside dim es row n (wrote n named))

  -- the fields of an edit in its place
  apart_in_place : (n : ℕ) → target_of e ≡ Some n → edited_fields dim es e ≡ part_fields row es n → FieldsLieApart dim es e
  apart_in_place n here fields = record {
    rise = subst (λ (fs : List Field). Rise 0 fs (length (spelling es))) (sym fields) (part_rises dim es row n (wrote n here));
    in_tree = λ m root end named root_is span.
        let same : m ≡ n = one_target e m n named here in
        subst (λ (fs : List Field). Rise (offset_of es root) fs (offset_of es end)) (ap (part_fields row es) same ∙ sym fields)
        (part_in_tree dim es row m root end (wrote m named) (lies m root end named root_is span));
    within = within;
    above = above;
  }

  -- those of one that writes none
  apart_none : edited_fields dim es e ≡ [] → FieldsLieApart dim es e
  apart_none none_written = record {
    rise = subst (λ (fs : List Field). Rise 0 fs (length (spelling es))) (sym none_written) (omega arith);
    in_tree = λ m root end named root_is span.
        subst (λ (fs : List Field). Rise (offset_of es root) fs (offset_of es end)) (sym none_written) (lies m root end named root_is span).rises;
    within = within;
    above = above;
  }

-- the fields of an edit that is done rise, in the tree of its element too, and each lies in its element
pub fields_apart : EditedFieldsAreApart
fields_apart f dim es t rest (edit.Move n by) made fits opens done = apart_in_place f dim es t rest (edit.Move n by) made fits opens done n refl refl
fields_apart f dim es t rest (edit.Copy n by) made fits opens done = apart_none f dim es t rest (edit.Copy n by) made fits opens done refl
fields_apart f dim es t rest (edit.Sym n change) made fits opens done = apart_in_place f dim es t rest (edit.Sym n change) made fits opens done n refl refl
fields_apart f dim es t rest (edit.Delete n) made fits opens done = apart_in_place f dim es t rest (edit.Delete n) made fits opens done n refl refl
fields_apart f dim es t rest (edit.Append new) made fits opens done = apart_none f dim es t rest (edit.Append new) made fits opens done refl
