-- What is gathered from a drawing that opens: well formed elements that begin without bit C and nest behind any drawing
-- as the gathered trees.
use Rattle.std.proofs.Common.{◌≡◌, ℕ, ◌<◌, List, [], ◌∷◌, ◌++◌, length, true, Option, Some, None, sym, ap, ◌∙◌, subst}
use Rattle.std.specs.Prelude.{IfSome}
use Rattle.std.specs.List.{AllByRecursion}
use Rattle.dgn_layout.specs.Classes.{class_of}
use Rattle.dgn_layout.specs.Spots.{has_spots}
use Rattle.dgn_drawing.specs.declared.edit.Edit.TheVariants as edit
use Rattle.dgn_drawing.specs.Values.{Displacement, IsShift}
use Rattle.dgn_drawing.specs.Element.{Element}
use Rattle.dgn_drawing.specs.WellFormed.{IsDimension, IsWellFormed}
use Rattle.dgn_drawing.specs.Rows.{row_of}
use Rattle.dgn_drawing.specs.Changes.{shift}
use Rattle.dgn_drawing.specs.Nesting.{Whole, Forest, flat, nest, forest, joined, BeginsFree}
use Rattle.dgn_drawing.specs.Opening.{BeginsWithTcb}
use Rattle.nest_tree.proofs.NestingSteps.{nest_nil, flat-forest}
use Rattle.nest_tree.proofs.TreesApart.{nest_apart, forest_apart}
use Rattle.edit_ops.specs.Trees.{tree_at, live_map, live_tree}
use Rattle.edit_ops.specs.Rules.{displacing}
use Rattle.edit_ops.specs.Written.{IsReady}
use Rattle.edit_ops.proofs.PartPlace.{flat-joined}
use Rattle.edit_ops.proofs.EachLive.{each_both, tree_each}
use Rattle.edit_ops.proofs.AcceptedEdit.{IsThere, is_there, none_both, copy_ready}
use Rattle.edit_ops.proofs.FirstElement.{some_element}
use Rattle.edit_ops.proofs.KeptRules.{edit_keeps}
use Rattle.edit_ops.proofs.CopiedPart.{freed_first, copied_good, copied_nests}
use Rattle.edit_ops.proofs.TreesBehind.{joined_left, free_both}
use Rattle.dgn_import.specs.Gathering.{import_tree, import_trees, import_cause, cause_of_roots}
use Rattle.dgn_import.proofs.TakenTrees.{IsTakenRoot}

some_same : {A : Type 0} {x y : A} → Some x ≡ Some y → x ≡ y
some_same is = cc

module _ (dim : ℕ) (es : List Element) (axes : IsDimension dim) (each : AllByRecursion (IsWellFormed dim) es) (first : BeginsWithTcb es) where
  -- an imported tree has well formed elements, begins without bit C, and nests alone
  record IsImported (by : Option Displacement) (n : ℕ) : Type 0 where
    good : AllByRecursion (IsWellFormed dim) (flat (import_tree dim es by n))
    free : BeginsFree row_of (flat (import_tree dim es by n))
    alone : nest row_of Whole (flat (import_tree dim es by n)) ≡ import_tree dim es by n

  -- the head of a taken tree is ready for a copy where each live element is
  head_spots : (by : Displacement) (n : ℕ) (root : IsTakenRoot es n) → AllByRecursion (λ v. IsReady dim (edit.Copy n by) v.element) (live_tree es n)
      → has_spots (class_of root.head.kind) ≡ true
  head_spots by n root able =
      let x : IsThere es n = is_there es n root.known in
      let same : x.head ≡ root.head = some_same (sym x.there ∙ root.there) in
      let list = x.first (ap (λ (e : Element). e.deleted) same ∙ root.alive) in
      ap (λ (e : Element). has_spots (class_of e.kind)) (sym same) ∙ (subst (AllByRecursion (λ v. IsReady dim (edit.Copy n by) v.element)) list.1 able).0.0

  imported : (by : Option Displacement) (n : ℕ) → IfSome by IsShift → IsTakenRoot es n → import_cause dim es by n ≡ None → IsImported by n
  imported None n fits root none = record {
    good = tree_each (IsWellFormed dim) n (forest row_of es) (subst (AllByRecursion (IsWellFormed dim)) (sym (flat-forest row_of es)) each);
    free = root.free;
    alone = root.alone;
  }
  imported (Some by) n fits root none =
      let able = copy_ready dim by n (live_tree es n) none in
      let free : BeginsFree row_of (flat (import_tree dim es (Some by) n)) =
      freed_first (live_map (λ member. member.deleted) (shift dim by) (tree_at n (forest row_of es))) in
      let keeps = edit_keeps dim axes (edit.Copy n by) fits in
      record {
        good = copied_good dim es (displacing dim by) (IsReady dim (edit.Copy n by)) keeps n each able;
        free = free;
        alone =
            joined_left (forest row_of es) (nest row_of Whole (flat (import_tree dim es (Some by) n))) (import_tree dim es (Some by) n)
            (sym (forest_apart row_of es (flat (import_tree dim es (Some by) n)) (some_element es first) free)
            ∙ copied_nests dim es (displacing dim by) (IsReady dim (edit.Copy n by)) keeps n each able root.known root.later root.head root.there
            (head_spots by n root able));
      }

  module _ (by : Option Displacement) (fits : IfSome by IsShift) where
    -- and so have all of them
    all_imported : (ns : List ℕ) → AllByRecursion (IsTakenRoot es) ns → cause_of_roots dim es by ns ≡ None → AllByRecursion (IsImported by) ns
    all_imported [] roots none = tt
    all_imported (n ∷ ns) roots none =
        let both = none_both (import_cause dim es by n) (cause_of_roots dim es by ns) none in
        (imported by n fits roots.0 both.0, all_imported ns roots.1 both.1)

    good_trees : (ns : List ℕ) → AllByRecursion (IsImported by) ns → AllByRecursion (IsWellFormed dim) (flat (import_trees dim es by ns))
    good_trees [] are = tt
    good_trees (n ∷ ns) are =
        subst (AllByRecursion (IsWellFormed dim)) (sym (flat-joined (import_tree dim es by n) (import_trees dim es by ns)))
        (each_both (IsWellFormed dim) (flat (import_tree dim es by n)) (flat (import_trees dim es by ns)) are.0.good (good_trees ns are.1))

    free_trees : (ns : List ℕ) → AllByRecursion (IsImported by) ns → BeginsFree row_of (flat (import_trees dim es by ns))
    free_trees [] are = tt
    free_trees (n ∷ ns) are =
        subst (BeginsFree row_of) (sym (flat-joined (import_tree dim es by n) (import_trees dim es by ns)))
        (free_both (flat (import_tree dim es by n)) (flat (import_trees dim es by ns)) are.0.free (free_trees ns are.1))

    trees_alone : (ns : List ℕ) → AllByRecursion (IsImported by) ns → nest row_of Whole (flat (import_trees dim es by ns)) ≡ import_trees dim es by ns
    trees_alone [] are = nest_nil row_of Whole
    trees_alone (n ∷ ns) are =
        ap (nest row_of Whole) (flat-joined (import_tree dim es by n) (import_trees dim es by ns))
        ∙ nest_apart row_of Whole (flat (import_tree dim es by n)) (flat (import_trees dim es by ns)) (free_trees ns are.1)
        ∙ ap (λ (t : Forest Element). joined t (nest row_of Whole (flat (import_trees dim es by ns)))) are.0.alone
        ∙ ap (joined (import_tree dim es by n)) (trees_alone ns are.1)

    -- the trees of roots that are taken, which nothing refuses
    module _ (ns : List ℕ) (roots : AllByRecursion (IsTakenRoot es) ns) (none : cause_of_roots dim es by ns ≡ None) where
      pub trees_good : AllByRecursion (IsWellFormed dim) (flat (import_trees dim es by ns))
      trees_good = good_trees ns (all_imported ns roots none)

      pub trees_free : BeginsFree row_of (flat (import_trees dim es by ns))
      trees_free = free_trees ns (all_imported ns roots none)

      pub trees_apart : (drawing : List Element) → 0 < length drawing
          → forest row_of (drawing ++ flat (import_trees dim es by ns)) ≡ joined (forest row_of drawing) (import_trees dim es by ns)
      trees_apart drawing some =
          forest_apart row_of drawing (flat (import_trees dim es by ns)) some trees_free
          ∙ ap (joined (forest row_of drawing)) (trees_alone ns (all_imported ns roots none))
