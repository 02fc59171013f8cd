-- The definitions that walk to one element of trees say one thing: the headers above it, its part, and the trees with
-- another one in the place of its part; and spots, fields and patches rise alike.
use Rattle.std.specs.Prelude.{ℕ, ◌≡◌, ◌+◌, ◌-◌, ◌≤◌, ◌↔◌, List, ◌++◌, length, map, take, drop, Some}
use Rattle.std.specs.List.{AllByRecursion}
use Rattle.dgn_layout.specs.declared.spot.Spot.{Spot}
use Rattle.dgn_layout.specs.Spots.{Rise as SpotsRise}
use Rattle.patch_bytes.specs.Puts.{Span}
use Rattle.dgn_drawing.specs.Element.{Element}
use Rattle.dgn_drawing.specs.Rows.{row_of}
use Rattle.dgn_drawing.specs.Nesting.{Forest, flat, forest}
use Rattle.dgn_drawing.specs.Numbering.{span_of, headers_of}
use Rattle.edit_ops.specs.Trees.{Live, tree_at, exchange, above_tree}
use Rattle.edit_ops.specs.Fields.{Field, Rise, spot_fields, filled}

-- the headers above an element have the numbers that the numbering gives
abbrev pub HeadersAreNumbered : Type 0
HeadersAreNumbered = (es : List Element) (n : ℕ) → map (λ (v : Live). v.number) (above_tree es n) ≡ headers_of row_of es n

-- the part of element n is the elements from n to the end of its span
abbrev pub PartsAreSpans : Type 0
PartsAreSpans =
    (es : List Element) (n end : ℕ) → span_of row_of es n ≡ Some (n, end)
    → flat (tree_at n (forest row_of es)) ≡ take (end - n) (drop n es)

-- with another tree in its place, and the headers above as they were, the trees have the elements before it, those of
-- the other one, and the elements behind its span
abbrev pub ExchangesAreLocal : Type 0
ExchangesAreLocal =
    (es : List Element) (n end : ℕ) (other : Forest Element → Forest Element) → span_of row_of es n ≡ Some (n, end)
    → flat (exchange (λ header. header) other n (forest row_of es))
    ≡ take n es ++ (flat (other (tree_at n (forest row_of es))) ++ drop end es)

-- fields that lie in a text rise exactly where the patches do that have the text's bytes there
abbrev pub FieldsRiseAsPatches : Type 0
FieldsRiseAsPatches =
    (text : List ℕ) (fs : List Field) (p end : ℕ) → AllByRecursion (λ (f : Field). f.at + f.len ≤ length text) fs
    → Rise p fs end ↔ Span p (filled text fs) end

-- spots rise in their element exactly where their fields do in the drawing
abbrev pub SpotsRiseAsFields : Type 0
SpotsRiseAsFields = (ss : List Spot) (p start end : ℕ) → SpotsRise p ss end ↔ Rise (start + p) (spot_fields start ss) (start + end)
