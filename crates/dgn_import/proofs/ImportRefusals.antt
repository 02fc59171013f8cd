-- What refuses an import: an element of a tree of which not all coordinates are read, or one that would leave the plane.
use Rattle.std.proofs.Common.{◌≡◌, ℕ, List, [], ◌∷◌, length, Option, Some, None, sym, ◌∙◌, inl, inr}
use Rattle.std.proofs.lemmas.Bool.{cases_Bool}
use Rattle.dgn_drawing.specs.Values.{Displacement}
use Rattle.dgn_drawing.specs.Element.{Element}
use Rattle.dgn_drawing.specs.Nesting.{Forest}
use Rattle.edit_ops.specs.declared.causes.cause.Cause.{Cause}
use Rattle.edit_ops.proofs.CopyRefusals.{either_refuses, copy_refused}
use Rattle.dgn_import.specs.Gathering.{Dimension, Refused, fits, gathering_unless, taken, import_trees, import_cause, cause_of_roots}
use Rattle.dgn_import.specs.Laws.{IsOfATree, TreesAloneRefuse}
use Rattle.dgn_import.proofs.GatheredTrees.{fitting, other_dim}

tree_kind : (dim : ℕ) (es : List Element) (by : Option Displacement) (n : ℕ) (c : Cause) → import_cause dim es by n ≡ Some c → IsOfATree c
tree_kind dim es None n c is = absurd (let x = is in cc)
tree_kind dim es (Some by) n c is = copy_refused IsOfATree (λ m. tt) (λ m. tt) (λ m. tt) dim es by n c is

roots_kind : (dim : ℕ) (es : List Element) (by : Option Displacement) (ns : List ℕ) (c : Cause) → cause_of_roots dim es by ns ≡ Some c → IsOfATree c
roots_kind dim es by [] c is = absurd (let x = is in cc)
roots_kind dim es by (n ∷ ns) c is =
    either_refuses (IsOfATree c) (import_cause dim es by n) (cause_of_roots dim es by ns) c (tree_kind dim es by n c) (roots_kind dim es by ns c) is

refused_with : (cause : Option Cause) (trees : Forest Element) (count : ℕ) (c : Cause) → gathering_unless cause trees count ≡ Refused c → cause ≡ Some c
refused_with None trees count c is = absurd (let x = is in cc)
refused_with (Some cause) trees count c is = let x = is in cc

pub trees_alone_refuse : TreesAloneRefuse
trees_alone_refuse dim own es by c is = elim (cases_Bool (fits dim own by)) [
  | inl fit ↦
      roots_kind own es by (taken es) c
      (refused_with (cause_of_roots own es by (taken es)) (import_trees own es by (taken es)) (length (taken es)) c (sym (fitting dim own es by fit) ∙ is))
  | inr other ↦ absurd (let x : Dimension ≡ Refused c = sym (other_dim dim own es by other) ∙ is in cc)
]
