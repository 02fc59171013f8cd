use Rattle.std.proofs.Common.{◌≡◌, map, take}
use Rattle.dgn_drawing.specs.Element.{Element}
use Rattle.elem_index.specs.Design.{elements}
use Rattle.dgn_listing.specs.Counts.{counts}
use Rattle.dgn_listing.proofs.counts.totals_of.Given as goal

abbrev pub invariant-loop-n : goal.invariant-loop-n
invariant-loop-n l = record {
  levels : l.levels.entries ≡ counts (map (λ (e : Element). e.level) (take l.n (elements l.d)));
  types : l.types.entries ≡ counts (map (λ (e : Element). e.kind) (take l.n (elements l.d)));
}
