-- A pass over rows: where it stands, and what is kept of the elements before that. Contracts of private functions alone cite this.
use Rattle.std.specs.Prelude.{ℕ, ◌≡◌, ◌-◌, ◌<◌, ◌≤◌, List, length, drop, IfSome, None, vec_len, vec_capacity}
use Rattle.std.specs.List.{AllByRecursion}
use Rattle.dgn_drawing.specs.declared.row.Row.{Row}
use Rattle.dgn_drawing.specs.Nesting.{Whole, itself, nest}
use Rattle.dgn_drawing.specs.Numbering.{marks}
use Rattle.nest_tree.specs.declared.open_list.OpenList.{OpenList}
use Rattle.nest_tree.specs.declared.pass.Pass.{Pass}
use Rattle.nest_tree.specs.declared.placed.Placed.{Placed}
use Rattle.nest_tree.specs.Depths.{IsWordTotal}
use Rattle.nest_tree.specs.Places.{marks_in, Going}
use Rattle.nest_tree.specs.Read.{AreRead, HaveRoom}
use Rattle.nest_tree.specs.Sources.{rows_of, IsSource, IsScan}

-- the rows of all elements
abbrev pub all_rows : Pass → List Row
all_rows p = p.seen.now.list

-- the first n of all elements have their places, the broken ones of them are listed, and there is room for all others
pub record IsFilled (rows : List Row) (n : ℕ) (kept : Placed) : Type 0 where
  pub read : AreRead rows n kept.ends.items kept.entries.items kept.broken.items
  pub room : HaveRoom (length rows - n) (vec_capacity kept.ends - vec_len kept.ends) kept.entries.spare (vec_capacity kept.broken - vec_len kept.broken)

-- the rows that are read are those from number `first` on, which nest apart from those before them; all before the next one
-- have been read, and it stands in the list or behind it
pub record IsPass (p : Pass) : Type 0 where
  pub bounded : length (all_rows p) < 4294967295
  pub source : IsSource p.source
  pub rows : rows_of p.source ≡ drop p.first (all_rows p)
  pub words : AllByRecursion IsWordTotal (rows_of p.source)
  pub begun : 0 < p.first
  pub within : p.first ≤ length (all_rows p)
  pub apart : drop p.first (marks_in (all_rows p)) ≡ marks (nest itself Whole (drop p.first (all_rows p))) p.first 0 None
  pub from : p.first ≤ p.at
  pub going : Going (all_rows p) p.at p.list
  pub header : IfSome p.list.parent (λ q. p.first ≤ q)
  pub scan : IsScan (rows_of p.source) (p.at - p.first) p.scan

-- so much is kept of the elements before the one that it reads next
pub record IsReading (p : Pass) (kept : Placed) : Type 0 where
  pub pass : IsPass p
  pub filled : IsFilled (all_rows p) p.at kept

-- this is the innermost list that the next element stands in
pub record IsInnermost (p : Pass) (around : OpenList) : Type 0 where
  pub going : Going (all_rows p) p.at around
  pub inside : p.at < around.end
  pub header : IfSome around.parent (λ q. p.first ≤ q)
  pub near : around.depth < 65536

-- it has gone on over the same rows
pub record GoesOn (old new : Pass) (kept : Placed) : Type 0 where
  pub reading : IsReading new kept
  pub on : old.at < new.at
  pub rows : all_rows new ≡ all_rows old
  pub source : new.source ≡ old.source
  pub first : new.first ≡ old.first
