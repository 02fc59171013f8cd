use Rattle.std.proofs.Common.{◌≡◌, ◌<◌, length}
use Rattle.std.specs.Prelude.{Some}
use Rattle.dgn_drawing.specs.Nesting.{itself}
use Rattle.dgn_drawing.specs.Numbering.{parent_of, headers_of, first_or}
use Rattle.nest_tree.proofs.nested.Nest.root.Given as goal

abbrev pub invariant-up : goal.invariant-up
invariant-up l =
    (l.n < length l.self.rows) × (l.root < length l.self.rows) × (Some l.header ≡ parent_of itself l.self.rows l.root)
    × (first_or l.n (headers_of itself l.self.rows l.n) ≡ first_or l.root (headers_of itself l.self.rows l.root))

abbrev pub decreases-up : goal.decreases-up
decreases-up l = l.root
