-- The places of the elements, as they are found one behind the other: of the elements that have theirs, which
-- ones these are, and of the others, in which lists they are still to be read.
use Rattle.std.specs.Prelude.{ℕ, ◌+◌, ◌-◌, ◌<◌, ◌≤◌, ◌≡◌, ◌&&◌, ◌||◌, ◌==◌, not, is_some, Bool, true, false, if◌then◌else◌, Option, Some, None, List, []}
use Rattle.std.specs.Prelude.{◌∷◌, ◌++◌, length, take, drop, map, slice_index, slice_index_or}
use Rattle.dgn_layout.specs.Classes.{is_among}
use Rattle.dgn_drawing.specs.declared.row.Row.{Row}
use Rattle.dgn_drawing.specs.Nesting.{Whole, itself, nest, forest}
use Rattle.dgn_drawing.specs.Numbering.{Mark, marks, marks_of, is_loose}
use Rattle.nest_tree.specs.declared.knot.Knot.{Knot}
use Rattle.nest_tree.specs.NestEntries.{NestEntry}
use Rattle.nest_tree.specs.declared.open_list.OpenList.{OpenList}
use Rattle.nest_tree.specs.declared.shape.Scope.{Scope}
use Rattle.nest_tree.specs.Shapes.{code_knot, defined_knot, defined_scope}

-- the marks of the elements with these rows
unfoldable pub marks_in : List Row → List Mark
marks_in rows = marks_of (forest itself rows)

-- new elements with these rows nest apart from those before them
abbrev pub NestApart : List Row → List Row → Type 0
NestApart rows new = marks_in (rows ++ new) ≡ marks_in rows ++ marks (nest itself Whole new) (length rows) 0 None

-- what is kept of a mark beside its end
abbrev pub entry_of : Mark → NestEntry
entry_of m = record { parent = m.parent; depth = m.depth; knot = code_knot m.knot }

abbrev pub end_of_mark : Mark → ℕ
end_of_mark m = m.end

-- whether an element is broken, by what is kept of it, and by whether it has bit C: a loose header, or a root but for
-- element 0 with bit C
abbrev pub broken_by_entry : ℕ → NestEntry → Bool → Bool
broken_by_entry n entry cbit = is_loose (defined_knot entry.knot) || not (n == 0) && not (is_some entry.parent) && cbit

-- what is kept of the first n elements
pub record ArePlaces (rows : List Row) (n : ℕ) (ends : List ℕ) (entries : List NestEntry) : Type 0 where
  pub within : n ≤ length rows
  pub ends_are : ends ≡ map end_of_mark (take n (marks_in rows))
  pub entries_are : entries ≡ map entry_of (take n (marks_in rows))

-- what the marks say of element n
abbrev pub end_in : List Row → ℕ → ℕ
end_in rows n = slice_index (map (λ (m : Mark). m.end) (marks_in rows)) n

abbrev pub parent_in : List Row → ℕ → Option ℕ
parent_in rows n = slice_index_or (map (λ (m : Mark). m.parent) (marks_in rows)) n None

abbrev pub depth_in : List Row → ℕ → ℕ
depth_in rows n = slice_index (map (λ (m : Mark). m.depth) (marks_in rows)) n

abbrev pub knot_in : List Row → ℕ → Knot
knot_in rows n = slice_index_or (map (λ (m : Mark). code_knot m.knot) (marks_in rows)) n Knot.Leaf

abbrev pub kind_in : List Row → ℕ → ℕ
kind_in rows n = slice_index (map (λ (r : Row). r.kind) rows) n

-- what the elements below a header are read as
abbrev pub is_run : Knot → Bool
is_run Knot.Run = true
is_run other = false

abbrev pub scope_below : Knot → ℕ → Scope
scope_below knot kind = if is_run knot && is_among kind (24 ∷ 27 ∷ []) then Scope.Parts else Scope.Members

-- the list of elements at that depth below that header, or of all elements
abbrev pub list_in : List Row → Option ℕ → ℕ → OpenList
list_in rows None depth = record { scope = Scope.All; end = length rows; depth = 0; parent = None }
list_in rows (Some p) depth = record { scope = scope_below (knot_in rows p) (kind_in rows p); end = end_in rows p; depth = depth; parent = Some p }

-- the list that element n stands in
abbrev pub list_around : List Row → ℕ → OpenList
list_around rows n = list_in rows (parent_in rows n) (depth_in rows n)

-- the marks that are still to be found where a list is read from number at on, and then the lists around it;
-- the rows from there on are l
abbrev pub resume : List OpenList → ℕ → List Row → List Mark
resume [] at l = []
resume (f ∷ fs) at l =
    marks (nest itself (defined_scope f.scope) (take (f.end - at) l)) at f.depth f.parent
    ++ resume fs (at + (f.end - at)) (drop (f.end - at) l)

-- list f stands in list g, below a header before number at
pub record IsInside (rows : List Row) (at : ℕ) (g f : OpenList) : Type 0 where
  pub header : ℕ
  pub before : header < at
  pub list : f ≡ list_in rows (Some header) (g.depth + 1)
  pub around : g ≡ list_around rows header
  pub ends : f.end ≤ length rows
  pub deep : f.depth ≤ at

-- list f stands in the lists of the stack, each in the next, the last of which is that of all elements
abbrev pub IsStack : List Row → ℕ → OpenList → List OpenList → Type 0
IsStack rows at f [] = f ≡ list_in rows None 0
IsStack rows at f (g ∷ gs) = IsInside rows at g f × IsStack rows at g gs

-- the elements before number at have their places, and reading goes on at it in list f
pub record Going (rows : List Row) (at : ℕ) (f : OpenList) : Type 0 where
  pub stack : List OpenList
  pub stands : IsStack rows at f stack
  pub left : drop at (marks_in rows) ≡ resume (f ∷ stack) at (drop at rows)
