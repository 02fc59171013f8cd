-- What holds of all nestings.
use Rattle.std.specs.Prelude.{ℕ, ◌≡◌, ◌+◌, ◌<◌, ◌≤◌, ◌↔◌, Bool, true, false, Some, None, List, [], ◌∷◌, ◌++◌, length, take, drop, map}
use Rattle.std.specs.List.{AllByRecursion}
use Rattle.dgn_drawing.specs.declared.row.Row.{Row}
use Rattle.dgn_drawing.specs.Element.{Element}
use Rattle.dgn_drawing.specs.Rows.{row_of}
use Rattle.dgn_drawing.specs.WellFormed.{IsDimension, IsWellFormed}
use Rattle.dgn_drawing.specs.Nesting.{Scope, Whole, Forest, NoTree, Tree, AreMembers, member_count, shape, nest, forest, joined, flat, forest_map}
use Rattle.dgn_drawing.specs.Nesting.{BeginsFree, itself}
use Rattle.dgn_drawing.specs.Numbering.{Mark, marks, marks_of, parent_of, headers_of, first_from}
use Rattle.nest_tree.specs.Shapes.{IsRow}
use Rattle.nest_tree.specs.Depths.{IsSized, IsWordTotal, headers}

-- a list is read from its front: its first element is the head of a tree over the elements that its shape
-- counts, and the others are read behind them
abbrev pub ListsAreRead : Type 0
ListsAreRead =
    (scope : Scope) (h : Row) (r : List Row)
    → nest itself scope (h ∷ r) ≡ Tree (shape itself scope h r).knot h
    (nest itself (shape itself scope h r).inside (take (shape itself scope h r).count r))
    (nest itself scope (drop (shape itself scope h r).count r))

abbrev pub NothingIsReadOfNothing : Type 0
NothingIsReadOfNothing = (scope : Scope) → nest itself scope [] ≡ NoTree

-- where each element has a byte, the members of a header are those of the definition, and it has no others
abbrev pub MembersAreCounted : Type 0
MembersAreCounted =
    (h : Row) (r : List Row) (k : ℕ) → AllByRecursion (λ x. 0 < x.size) r → (member_count itself h r ≡ Some k) ↔ AreMembers itself h r k

-- the trees have the elements of the list, in its order
abbrev pub OrderIsKept : Type 0
OrderIsKept = (rows : List Row) → flat (forest itself rows) ≡ rows

-- nesting looks at rows alone: elements nest and are numbered as their rows are
abbrev pub ElementsNestByRows : Type 0
ElementsNestByRows = (es : List Element) → forest_map row_of (forest row_of es) ≡ forest itself (map row_of es)

abbrev pub ElementsAreNumberedByRows : Type 0
ElementsAreNumberedByRows = (es : List Element) → marks_of (forest row_of es) ≡ marks_of (forest itself (map row_of es))

-- trees whose rows nest as the rows of their own elements do are the trees of their elements: so a change of
-- elements that keeps their rows keeps their trees
abbrev pub TreesAreKnownByRows : Type 0
TreesAreKnownByRows = (f : Forest Element) → forest_map row_of f ≡ forest itself (map row_of (flat f)) → f ≡ forest row_of (flat f)

-- what is read behind other elements, and begins without bit C, nests apart from them
abbrev pub AppendedElementsNestApart : Type 0
AppendedElementsNestApart =
    (es new : List Element) → 0 < length es → BeginsFree row_of new → forest row_of (es ++ new) ≡ joined (forest row_of es) (nest row_of Whole new)

abbrev pub AppendedRowsNestApart : Type 0
AppendedRowsNestApart =
    (rows new : List Row) → 0 < length rows → BeginsFree itself new → forest itself (rows ++ new) ≡ joined (forest itself rows) (nest itself Whole new)

-- so their numbers are those behind the others, whose marks stay
abbrev pub AppendedRowsAreNumberedBehind : Type 0
AppendedRowsAreNumberedBehind =
    (rows new : List Row) → 0 < length rows → BeginsFree itself new
    → marks_of (forest itself (rows ++ new)) ≡ marks_of (forest itself rows) ++ marks (nest itself Whole new) (length rows) 0 None

-- and the other way round: where they are taken away, the marks of the others stay
abbrev pub FirstRowsKeepTheirMarks : Type 0
FirstRowsKeepTheirMarks =
    (rows : List Row) (n : ℕ) → 0 < n → n ≤ length rows → BeginsFree itself (drop n rows)
    → marks_of (forest itself (take n rows)) ≡ take n (marks_of (forest itself rows))

-- among rows of elements without a fault at most 3277 counted headers lie in each other, and no element lies
-- more than 3278 below a root
abbrev pub FewHeadersLieInEachOther : Type 0
FewHeadersLieInEachOther =
    (rows : List Row) → AllByRecursion IsSized rows → AllByRecursion IsWordTotal rows → AllByRecursion (λ x. x ≤ 3277) (headers (forest itself rows) 0)

abbrev pub NoElementLiesDeep : Type 0
NoElementLiesDeep =
    (rows : List Row) → AllByRecursion IsSized rows → AllByRecursion IsWordTotal rows
    → AllByRecursion (λ (m : Mark). m.depth ≤ 3278) (marks_of (forest itself rows))

-- the headers above an element are those above its header, which stands before it, and then that one; above a root there
-- are none
pub record GoByParents (es : List Element) (n : ℕ) : Type 0 where
  pub header : (q : ℕ) → parent_of row_of es n ≡ Some (Some q) → (q < n) × (headers_of row_of es n ≡ headers_of row_of es q ++ q ∷ [])
  pub root : parent_of row_of es n ≡ Some None → headers_of row_of es n ≡ []

abbrev pub HeadersGoByParents : Type 0
HeadersGoByParents = (es : List Element) (n : ℕ) → GoByParents es n

-- the number is the least that passes the test, of so many from n on
pub record IsLeast (test : ℕ → Bool) (n count m : ℕ) : Type 0 where
  pub from : n ≤ m
  pub before : m < n + count
  pub passes : test m ≡ true
  pub least : (k : ℕ) → n ≤ k → k < m → test k ≡ false

-- the first that passes is the least, and there is none where none passes
abbrev pub FirstIsLeast : Type 0
FirstIsLeast = (test : ℕ → Bool) (n count m : ℕ) → (first_from test n count ≡ Some m) ↔ IsLeast test n count m

-- the row of an element of a file is a row of an element, of the size that its type has at the least and with
-- a total of one word
pub record HasElementRow (e : Element) : Type 0 where
  pub is_row : IsRow (row_of e)
  pub sized : IsSized (row_of e)
  pub word : IsWordTotal (row_of e)

abbrev pub ElementsHaveRows : Type 0
ElementsHaveRows = (dim : ℕ) (e : Element) → IsDimension dim → IsWellFormed dim e → HasElementRow e
