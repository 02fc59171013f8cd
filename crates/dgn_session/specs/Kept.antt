-- What is kept of the parts of a session: a design, its nesting and its log.
use Rattle.std.specs.Prelude.{ℕ, ◌≡◌, ◌+◌, ◌≤◌, List, [], ◌∷◌, ◌++◌, length, take, drop, map, reverse}
use Rattle.patch_bytes.specs.Puts.{Span}
use Rattle.undo_log.specs.declared.entry.Entry.{Entry}
use Rattle.undo_log.specs.LogState.{LogState}
use Rattle.undo_log.specs.Entries.{back}
use Rattle.dgn_drawing.specs.declared.row.Row.{Row}
use Rattle.dgn_drawing.specs.Rows.{row_of}
use Rattle.dgn_drawing.specs.Nesting.{BeginsFree, itself}
use Rattle.dgn_drawing.specs.Opening.{Opens, elements_of}
use Rattle.elem_index.specs.declared.design.Design.{Design}
use Rattle.elem_index.specs.Design.{elements, IsWhole}
use Rattle.nest_tree.specs.Nested.{Nested}
use Rattle.dgn_drawing.specs.declared.limits.TheConstants.{MOST_DESIGN}

-- the rows of the elements of a body: their sizes, types, bits C and totals
abbrev pub rows_of : ℕ → List ℕ → List Row
rows_of dim b = map row_of (elements_of dim b)

-- a body and the tail are a file that opens, in this dimension
pub record OpensAt (dim : ℕ) (tail b : List ℕ) : Type 0 where
  pub few : length b + length tail ≤ MOST_DESIGN
  pub opens : Opens (b ++ tail) dim (elements_of dim b) tail

-- a body and an earlier one: the elements of the earlier one have the same rows in both, and the element behind them,
-- if there is one, has no bit C
pub record IsUnder (dim : ℕ) (earlier b : List ℕ) : Type 0 where
  pub front : rows_of dim earlier ≡ take (length (rows_of dim earlier)) (rows_of dim b)
  pub free : BeginsFree itself (drop (length (rows_of dim earlier)) (rows_of dim b))

-- an entry leads from a body to an earlier one: it is no longer than the body, its patches rise within its length, so
-- no two share a byte, and what it leads to lies under the body
pub record Leads (dim : ℕ) (b : List ℕ) (e : Entry) : Type 0 where
  pub long : e.len ≤ length b
  pub rise : Span 0 e.patches e.len
  pub under : IsUnder dim (back b e) b

-- a body, and each that its entries lead back to, the newest first, opens with the tail, and each entry leads
abbrev pub AreKept : ℕ → List ℕ → List ℕ → List Entry → Type 0
AreKept dim tail b [] = OpensAt dim tail b
AreKept dim tail b (e ∷ es) = OpensAt dim tail b × Leads dim b e × AreKept dim tail (back b e) es

-- what is kept: the design is whole, the nesting is that of its elements, and what the log leads back to is sound
pub record IsKept (d : Design) (t : Nested) (l : LogState) : Type 0 where
  pub whole : IsWhole d
  pub nesting : t.rows ≡ map row_of (elements d)
  pub back : AreKept d.dim d.tail.items d.body.items (reverse l.entries)
