-- What a crate above knows of a design after it has written to the body: offsets hang on sizes alone, and so on rows.
use Rattle.std.proofs.Common.{◌≡◌, ℕ, ◌+◌, ◌≤◌, List, length, take, map, sym, ap, ◌∙◌, arith}
use Rattle.std.proofs.lemmas.List.{take-map}
use Rattle.dgn_drawing.specs.declared.row.Row.{Row}
use Rattle.dgn_drawing.specs.Element.{Element}
use Rattle.dgn_drawing.specs.Spelling.{size_of}
use Rattle.dgn_drawing.specs.Rows.{row_of}
use Rattle.dgn_drawing.specs.Opening.{offsets_from}
use Rattle.dgn_drawing.proofs.Offsets.{take-offsets_from, sizes-rows}
use Rattle.elem_index.specs.declared.design.Design.{Design}
use Rattle.elem_index.specs.Offsets.{offsets_of}
use Rattle.elem_index.specs.Design.{kept_of, kinds_of, spare_of, kind_of_row, elements, IsOpen, IsWhole, HasGrown, HasShrunk}
use Rattle.elem_index.proofs.KindBytes.{kinds_in-take, kinds_in-front}
use Rattle.elem_index.proofs.Places.{length-offsets}

-- elements with the same rows have the same offsets
pub offsets-rows : (es fs : List Element) → map row_of es ≡ map row_of fs → offsets_of es ≡ offsets_of fs
offsets-rows es fs rows =
    ap (offsets_from 0) (sym (sizes-rows es) ∙ ap (map (λ (r : Row). r.size)) rows ∙ sizes-rows fs)

-- the offsets of the first elements are the first offsets
pub offsets-take : (k : ℕ) (es : List Element) → offsets_of (take k es) ≡ take k (offsets_of es)
offsets-take k es = ap (offsets_from 0) (sym (take-map size_of k es)) ∙ sym (take-offsets_from 0 k (map size_of es))

-- where the first elements have the rows of others, their offsets are those of the others
pub offsets-front : (es more : List Element) → map row_of (take (length es) more) ≡ map row_of es → offsets_of es ≡ take (length es) (offsets_of more)
offsets-front es more rows = offsets-rows es (take (length es) more) (sym rows) ∙ offsets-take (length es) more

-- what a body that was written to owes to the kept offsets, bytes and totals
module _ (old new : Design) (whole : IsWhole old) (is_open : IsOpen new) (kept : kept_of new ≡ kept_of old) (kinds : kinds_of new ≡ kinds_of old) where
  -- before it grows: the first elements have the rows that there were, and there is room for the others
  pub front_after : map row_of (take (length (elements old)) (elements new)) ≡ map row_of (elements old)
      → length (elements new) ≤ length (elements old) + spare_of new → HasGrown new
  front_after rows room =
      let n : ℕ = length (elements old) in
      let is : kept_of new ≡ offsets_of (elements old) = kept ∙ whole.kept in
      let long : length (kept_of new) ≡ n = ap (length {A = ℕ}) is ∙ length-offsets (elements old) in
      let front : map row_of (elements old) ≡ take n (map row_of (elements new)) = sym rows ∙ sym (take-map row_of n (elements new)) in
      record {
        is_open = is_open;
        first = rw long (is ∙ offsets-front (elements old) (elements new) rows);
        kinds = rw long (kinds ∙ whole.kinds ∙ kinds_in-front (elements old) (elements new) n front);
        room = omega (arith, long, room);
      }

  -- before it shrinks: the elements have the rows that the first ones had
  pub behind_after : (count : ℕ) → length (elements new) ≡ count → map row_of (take count (elements old)) ≡ map row_of (elements new) → HasShrunk count new
  behind_after count many rows =
      record {
        is_open = is_open;
        many = many;
        first = ap (take count) (kept ∙ whole.kept) ∙ sym (offsets-take count (elements old)) ∙ offsets-rows (take count (elements old)) (elements new) rows;
        kinds = ap (take count) (kinds ∙ whole.kinds) ∙ sym (kinds_in-take count (elements old)) ∙ ap (map kind_of_row) rows;
      }
