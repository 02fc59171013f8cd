-- What is left of a drawing where elements change in their places, by puts, and others stand behind them: it opens as a
-- drawing of the same dimension, and differs from what was there in the fields of the puts alone, which are apart, and by
-- what stands behind.
use Rattle.std.proofs.Common.{◌≡◌, ℕ, ◌+◌, ◌<◌, ◌≤◌, List, [], ◌∷◌, ◌++◌, length, map, drop, get_or, refl, sym, ap, ◌∙◌, subst, arith, append_assoc}
use Rattle.std.proofs.Common.{length-append}
use Rattle.std.specs.List.{AllByRecursion}
use Rattle.std.proofs.lemmas.Grind.{flat_map-append}
use Rattle.std.proofs.lemmas.List.{append-nil, take_at, drop_at, get_or_append_left, length-map}
use Rattle.std.proofs.lemmas.List.Elements.{recursion_from_All}
use Rattle.patch_bytes.specs.Puts.{Put, write, AreWithin}
use Rattle.patch_bytes.proofs.PutsLaid.{write_other}
use Rattle.patch_bytes.proofs.RisingPuts.{span_within}
use Rattle.dgn_drawing.specs.declared.row.Row.{Row}
use Rattle.dgn_drawing.specs.Element.{Element}
use Rattle.dgn_drawing.specs.Spelling.{spell, spelling}
use Rattle.dgn_drawing.specs.WellFormed.{IsDimension, IsWellFormed}
use Rattle.dgn_drawing.specs.Rows.{row_of}
use Rattle.dgn_drawing.specs.Nesting.{Forest, flat, forest, BeginsFree}
use Rattle.dgn_drawing.specs.Opening.{dimension, BeginsWithTcb, Opens}
use Rattle.elem_index.proofs.Places.{opened_axes}
use Rattle.edit_ops.specs.Fields.{Field, IsIn, Rise, filled}
use Rattle.edit_ops.specs.Laws.{ChangesFields}
use Rattle.edit_ops.proofs.EachLive.{each_both}
use Rattle.edit_ops.proofs.FirstElement.{tcb_long, same_dimension}
use Rattle.edit_ops.proofs.TextTurns.{Turns, turns_none, turns_then, turned_reads, whole_turned, whole_span}
use Rattle.edit_ops.proofs.LivePuts.{field_of}
use Rattle.edit_ops.proofs.EditedBytes.{filled_reads}
use Rattle.edit_ops.proofs.PutFields.{fields_rise, held_by_none}

-- elements with others behind them begin as they did
tcb_before : (es more : List Element) → BeginsWithTcb es → BeginsWithTcb (es ++ more)
tcb_before [] more first = absurd first
tcb_before (e ∷ es) more first = first

-- and their dimension stays
dimension_before : (dim : ℕ) (es more : List Element) (t : List ℕ) → IsDimension dim → AllByRecursion (IsWellFormed dim) es → BeginsWithTcb es
    → dimension (spelling (es ++ more) ++ t) ≡ dimension (spelling es ++ t)
dimension_before dim [] more t axes each first = absurd first
dimension_before dim (e ∷ es) more t axes each first =
    let long : 1214 < length (spell e) = omega (arith, tcb_long dim e axes each.0 first) in
    ap dimension (append_assoc (spell e) (spelling (es ++ more)) t)
    ∙ same_dimension (spell e) (spelling (es ++ more) ++ t) (spelling es ++ t) long
    ∙ ap dimension (sym (append_assoc (spell e) (spelling es) t))

-- a file that opens does so with well formed elements behind its own
pub appended_opens : (f : List ℕ) (dim : ℕ) (es more : List Element) (t : List ℕ) → Opens f dim es t → AllByRecursion (IsWellFormed dim) more
    → Opens (spelling (es ++ more) ++ t) dim (es ++ more) t
appended_opens f dim es more t opens good = record {
  whole = refl;
  each = each_both (IsWellFormed dim) es more opens.each good;
  first = tcb_before es more opens.first;
  tail = opens.tail;
  axes = opens.axes ∙ ap dimension opens.whole ∙ sym (dimension_before dim es more t (opened_axes f dim es t opens) opens.each opens.first);
}

-- the elements `base`, which the puts make of those of a drawing, and `more` behind them: they are the elements of these
-- trees, and the puts are laid over these fields
pub record IsLeft (dim : ℕ) (es : List Element) (puts : List Put) (fields : List Field) (more : List Element) (trees : Forest Element) : Type 0 where
  pub base : List Element
  pub listed : flat trees ≡ base ++ more
  pub turned : Turns 0 (spelling es) puts (spelling base)
  pub laid : map field_of puts ≡ fields
  pub rows : map row_of base ≡ map row_of es
  pub nested : forest row_of (base ++ more) ≡ trees
  pub good : AllByRecursion (IsWellFormed dim) base
  pub good_more : AllByRecursion (IsWellFormed dim) more
  pub begins : (t : List ℕ) → BeginsWithTcb base × (dimension (spelling base ++ t) ≡ dimension (spelling es ++ t))
  pub free : BeginsFree row_of more

-- so it is where nothing changes and others stand behind
pub behind_left : (dim : ℕ) (es more : List Element) (trees : Forest Element) → AllByRecursion (IsWellFormed dim) es → BeginsWithTcb es
    → flat trees ≡ es ++ more → forest row_of (es ++ more) ≡ trees → AllByRecursion (IsWellFormed dim) more → BeginsFree row_of more
    → IsLeft dim es [] [] more trees
behind_left dim es more trees each first listed nested good free = record {
  base = es;
  listed = listed;
  turned = turns_none 0 (spelling es);
  laid = refl;
  rows = refl;
  nested = nested;
  good = each;
  good_more = good;
  begins = λ t. (first, refl);
  free = free;
}

module _ (dim : ℕ) (es : List Element) (puts : List Put) (fields : List Field) (more : List Element) (trees : Forest Element)
    (left : IsLeft dim es puts fields more trees) where
  -- all that is left
  abbrev made : List Element
  made = left.base ++ more

  whole : spelling made ≡ spelling left.base ++ spelling more
  whole = flat_map-append spell left.base more

  long_base : length (spelling left.base) ≡ length (spelling es)
  long_base = sym left.turned.same

  count_base : length left.base ≡ length es
  count_base = sym (length-map left.base row_of) ∙ ap (length {A = Row}) left.rows ∙ length-map es row_of

  made_behind : drop (length (spelling es)) (spelling made) ≡ spelling more
  made_behind = ap (drop (length (spelling es))) whole ∙ drop_at (spelling left.base) (spelling more) (length (spelling es)) long_base

  -- what stands behind the old length is the bytes of the others
  pub left_behind : drop (length (spelling es)) (spelling (flat trees)) ≡ spelling more
  left_behind = ap (λ (l : List Element). drop (length (spelling es)) (spelling l)) left.listed ∙ made_behind

  -- so it is longer by these
  made_long : length (spelling made) ≡ length (spelling es) + length (spelling more)
  made_long = omega (arith, ap (length {A = ℕ}) whole, length-append (spelling left.base) (spelling more), long_base)

  pub left_long : length (spelling (flat trees)) ≡ length (spelling es) + length (spelling more)
  left_long = ap (λ (l : List Element). length (spelling l)) left.listed ∙ made_long

  -- it opens
  pub left_opens : (f t : List ℕ) → Opens f dim es t → Opens (spelling (flat trees) ++ t) dim (flat trees) t
  left_opens f t opens =
      subst (λ (l : List Element). Opens (spelling l ++ t) dim l t) (sym left.listed)
      (appended_opens (spelling left.base ++ t) dim left.base more t (record {
        whole = refl;
        each = left.good;
        first = (left.begins t).0;
        tail = opens.tail;
        axes = opens.axes ∙ ap dimension opens.whole ∙ sym (left.begins t).1;
      }) left.good_more)

  -- what is put makes the bytes of the changed elements
  base_made : write (spelling es) puts ≡ spelling left.base
  base_made = whole_turned (spelling es) (spelling left.base) puts left.turned

  -- and stands there also where others are behind these
  all_turned : Turns 0 (spelling es ++ spelling more) puts (spelling made)
  all_turned =
      let both = turns_then 0 (length (spelling es)) (spelling es) (spelling more) (spelling left.base) (spelling more) puts [] (omega arith)
      left.turned (turns_none (length (spelling es)) (spelling more)) in
      subst (λ (ps : List Put). Turns 0 (spelling es ++ spelling more) ps (spelling made)) (append-nil puts)
      (subst (λ (b : List ℕ). Turns 0 (spelling es ++ spelling more) (puts ++ []) b) (sym whole) both)

  -- so it is the fields with the bytes of the result
  made_fill : puts ≡ filled (spelling made) fields
  made_fill =
      sym (turned_reads (spelling es ++ spelling more) (spelling made) puts
      (whole_span (spelling es ++ spelling more) (spelling made) puts all_turned)
      (whole_turned (spelling es ++ spelling more) (spelling made) puts all_turned))
      ∙ filled_reads (spelling made) puts
      ∙ ap (filled (spelling made)) left.laid

  pub left_fill : puts ≡ filled (spelling (flat trees)) fields
  left_fill = made_fill ∙ ap (λ (l : List Element). filled (spelling l) fields) (sym left.listed)

  -- the fields alone have changed
  pub left_changes : ChangesFields es (flat trees) fields (length (spelling more)) trees
  left_changes =
      let within : AreWithin (length (spelling es)) puts =
      span_within (length (spelling es)) puts 0 (whole_span (spelling es) (spelling left.base) puts left.turned) in
      subst (λ (l : List Element). ChangesFields es l fields (length (spelling more)) trees) (sym left.listed) (record {
        stays = λ k below all.
            let free : AllByRecursion (λ f. ¬ IsIn f k) (map field_of puts) =
            subst (AllByRecursion (λ f. ¬ IsIn f k)) (sym left.laid) (recursion_from_All (λ f. ¬ IsIn f k) fields all) in
            ap (λ (b : List ℕ). get_or b k 0) whole
            ∙ get_or_append_left (spelling left.base) (spelling more) 0 k (omega (arith, long_base))
            ∙ ap (λ (b : List ℕ). get_or b k 0) (sym base_made)
            ∙ write_other (spelling es) puts k 0 within (held_by_none k puts free);
        written = whole
            ∙ ap (λ (b : List ℕ). b ++ spelling more) (sym base_made ∙ ap (write (spelling es)) made_fill)
            ∙ ap (λ (b : List ℕ). write (spelling es) (filled (spelling made) fields) ++ b) (sym made_behind);
        long = made_long;
        rows = ap (map row_of) (take_at left.base more (length es) count_base) ∙ left.rows;
        appended = subst (BeginsFree row_of) (sym (drop_at left.base more (length es) count_base)) left.free;
        nested = left.nested;
      })

  -- and are apart
  pub left_apart : Rise 0 fields (length (spelling es))
  left_apart =
      subst (λ (fs : List Field). Rise 0 fs (length (spelling es))) left.laid
      (fields_rise (length (spelling es)) puts 0 (whole_span (spelling es) (spelling left.base) puts left.turned))
