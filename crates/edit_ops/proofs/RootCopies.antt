-- The copies of the trees of several roots, one behind the other: they are well formed, begin without bit C, and nest
-- behind the drawing as the copied trees.
use Rattle.std.proofs.Common.{◌≡◌, ℕ, List, [], ◌∷◌, ◌++◌, length, refl, sym, ap, ◌∙◌, subst, length-append, arith}
use Rattle.std.specs.List.{AllByRecursion, flat_map}
use Rattle.dgn_drawing.specs.declared.edit.Edit.TheVariants as edit
use Rattle.dgn_drawing.specs.declared.fence_edit.FenceEdit.TheVariants as fence
use Rattle.dgn_drawing.specs.Values.{Displacement, IsShift}
use Rattle.dgn_drawing.specs.Element.{Element}
use Rattle.dgn_drawing.specs.Spelling.{spelling}
use Rattle.dgn_drawing.specs.WellFormed.{IsDimension, IsWellFormed}
use Rattle.dgn_drawing.specs.Rows.{row_of}
use Rattle.dgn_drawing.specs.Changes.{shift}
use Rattle.dgn_drawing.specs.Nesting.{Whole, Forest, flat, nest, forest, joined, BeginsFree}
use Rattle.dgn_drawing.specs.Opening.{BeginsWithTcb}
use Rattle.nest_tree.proofs.NestingSteps.{nest_nil}
use Rattle.nest_tree.proofs.TreesApart.{nest_apart, forest_apart}
use Rattle.edit_ops.specs.Trees.{tree_at, live_map}
use Rattle.edit_ops.specs.Applying.{copied}
use Rattle.edit_ops.specs.Rules.{displacing}
use Rattle.edit_ops.specs.Written.{IsReady}
use Rattle.edit_ops.specs.Fenced.{edits_at, copies, all_appended}
use Rattle.edit_ops.proofs.PartPlace.{flat-joined}
use Rattle.edit_ops.proofs.EachLive.{each_both}
use Rattle.edit_ops.proofs.AcceptedEdit.{IsAccepted}
use Rattle.edit_ops.proofs.FirstElement.{some_element}
use Rattle.edit_ops.proofs.TreesBehind.{first_spelled, joined_left, free_both}
use Rattle.edit_ops.proofs.KeptRules.{Keeps, edit_keeps}
use Rattle.edit_ops.proofs.CopiedPart.{freed_first, copied_good, copied_long, copied_nests}

module _ (dim : ℕ) (es : List Element) (by : Displacement) where
  -- the copy of the tree of root n, and those of some roots
  abbrev copy : ℕ → Forest Element
  copy n = copied (displacing dim by) es n

  abbrev all : List ℕ → Forest Element
  all ns = copies dim es (fence.Copy by) ns

  copy_free : (n : ℕ) → BeginsFree row_of (flat (copy n))
  copy_free n = freed_first (live_map (λ member. member.deleted) (shift dim by) (tree_at n (forest row_of es)))

  pub copies_free : (ns : List ℕ) → BeginsFree row_of (flat (copies dim es (fence.Copy by) ns))
  copies_free [] = tt
  copies_free (n ∷ ns) =
      subst (BeginsFree row_of) (sym (flat-joined (copy n) (all ns))) (free_both (flat (copy n)) (flat (all ns)) (copy_free n) (copies_free ns))

  -- their bytes are those of each
  pub copies_spelled : (ns : List ℕ)
      → spelling (flat (copies dim es (fence.Copy by) ns)) ≡ flat_map (λ n. spelling (flat (copied (displacing dim by) es n))) ns
  copies_spelled [] = refl
  copies_spelled (n ∷ ns) = first_spelled (copy n) (all ns) ∙ ap (λ (b : List ℕ). spelling (flat (copy n)) ++ b) (copies_spelled ns)

  module _ (axes : IsDimension dim) (fits : IsShift by) (each : AllByRecursion (IsWellFormed dim) es) (first : BeginsWithTcb es) where
    -- nothing refuses the copy of a root's tree
    abbrev CanBeCopied : ℕ → Type 0
    CanBeCopied n = IsAccepted dim es (edit.Copy n by) n

    keeps : (n : ℕ) → Keeps dim (displacing dim by) (IsReady dim (edit.Copy n by))
    keeps n = edit_keeps dim axes (edit.Copy n by) fits

    pub copies_good : (ns : List ℕ) → AllByRecursion (λ n. IsAccepted dim es (edit.Copy n by) n) ns
        → AllByRecursion (IsWellFormed dim) (flat (copies dim es (fence.Copy by) ns))
    copies_good [] able = tt
    copies_good (n ∷ ns) able =
        subst (AllByRecursion (IsWellFormed dim)) (sym (flat-joined (copy n) (all ns)))
        (each_both (IsWellFormed dim) (flat (copy n)) (flat (all ns)) (copied_good dim es (displacing dim by) (IsReady dim (edit.Copy n by)) (keeps n) n each able.0.able)
        (copies_good ns able.1))

    -- they are as long as the copied trees
    pub copies_long : (ns : List ℕ) → AllByRecursion (λ n. IsAccepted dim es (edit.Copy n by) n) ns
        → length (spelling (flat (copies dim es (fence.Copy by) ns))) ≡ all_appended es (edits_at (fence.Copy by) ns)
    copies_long [] able = refl
    copies_long (n ∷ ns) able =
        let here = copied_long dim es (displacing dim by) (IsReady dim (edit.Copy n by)) (keeps n) n each able.0.able in
        let more = copies_long ns able.1 in
        let long = ap (length {A = ℕ}) (first_spelled (copy n) (all ns)) in
        omega (arith, length-append (spelling (flat (copy n))) (spelling (flat (all ns))))

    -- a copy nests alone as the copied tree
    copy_alone : (n : ℕ) → CanBeCopied n → nest row_of Whole (flat (copy n)) ≡ copy n
    copy_alone n able =
        joined_left (forest row_of es) (nest row_of Whole (flat (copy n))) (copy n)
        (sym (forest_apart row_of es (flat (copy n)) (some_element es first) (copy_free n))
        ∙ copied_nests dim es (displacing dim by) (IsReady dim (edit.Copy n by)) (keeps n) n each able.able able.known able.later able.head able.there able.head_able.0)

    copies_alone : (ns : List ℕ) → AllByRecursion CanBeCopied ns → nest row_of Whole (flat (all ns)) ≡ all ns
    copies_alone [] able = nest_nil row_of Whole
    copies_alone (n ∷ ns) able =
        ap (nest row_of Whole) (flat-joined (copy n) (all ns))
        ∙ nest_apart row_of Whole (flat (copy n)) (flat (all ns)) (copies_free ns)
        ∙ ap (λ (t : Forest Element). joined t (nest row_of Whole (flat (all ns)))) (copy_alone n able.0)
        ∙ ap (joined (copy n)) (copies_alone ns able.1)

    -- and all of them behind the drawing as the copied trees
    pub copies_nest : (ns : List ℕ) → AllByRecursion (λ n. IsAccepted dim es (edit.Copy n by) n) ns
        → forest row_of (es ++ flat (copies dim es (fence.Copy by) ns)) ≡ joined (forest row_of es) (copies dim es (fence.Copy by) ns)
    copies_nest ns able =
        forest_apart row_of es (flat (all ns)) (some_element es first) (copies_free ns) ∙ ap (joined (forest row_of es)) (copies_alone ns able)
