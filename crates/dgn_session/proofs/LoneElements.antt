-- What is taken of an element by itself.
use Rattle.std.proofs.Common.{◌≡◌, false, None, List, [], Result, refl, sym}
use Rattle.std.specs.Prelude.{IfOk, Ok, Err}
use Rattle.plane_geom.specs.declared.pt.Pt.{Pt}
use Rattle.dgn_drawing.specs.declared.mode.Mode.{Mode}
use Rattle.dgn_fence.specs.Taken.{takes}
use Rattle.dgn_fence.proofs.Outlines.{none_taken}

-- nothing is taken of no items
pub nothing_taken : (mode : Mode) (fence : List Pt) → false ≡ takes mode fence []
nothing_taken mode fence = sym (none_taken mode fence None refl)

-- what holds of an answer where another does
pub ok_then : {A E : Type 0} (r : Result A E) (P Q : A → Type 0) → ((a : A) → P a → Q a) → IfOk r P → IfOk r Q
ok_then (Ok a) P Q so holds = so a holds
ok_then (Err e) P Q so holds = tt
