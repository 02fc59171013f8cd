-- What an edit of several roots that is done leaves opens as a drawing of the same dimension, keeps the limit of a
-- design file, and differs from what was there in the edited fields, which are apart, and by what is appended.
use Rattle.std.proofs.Common.{◌≡◌, ℕ, ◌+◌, ◌≤◌, List, [], ◌∷◌, ◌++◌, length, refl, sym, ap, ◌∙◌, subst, arith}
use Rattle.std.specs.Prelude.{Option, None}
use Rattle.std.specs.List.{AllByRecursion}
use Rattle.std.proofs.lemmas.List.Elements.{All-from_recursion}
use Rattle.dgn_drawing.specs.declared.fence_edit.FenceEdit.{FenceEdit}
use Rattle.dgn_drawing.specs.Element.{Element}
use Rattle.dgn_drawing.specs.Spelling.{spelling}
use Rattle.dgn_drawing.specs.Nesting.{flat}
use Rattle.dgn_drawing.specs.Opening.{Opens}
use Rattle.edit_ops.specs.declared.causes.cause.Cause.{Cause}
use Rattle.edit_ops.specs.declared.types.plan.Plan.{Plan}
use Rattle.edit_ops.specs.Causes.{cause_of, bytes_appended}
use Rattle.edit_ops.specs.Applying.{Done, changed_forest, applied_unless}
use Rattle.edit_ops.specs.Fenced.{edit_at, edits_at, cause_of_all, fenced_forest, fenced_fields, all_appended, apply_all, AreRoots, IsFenceEdit}
use Rattle.edit_ops.specs.Planned.{IsFencePlan}
use Rattle.edit_ops.specs.Laws.{ChangesFields, FieldsLieApart}
use Rattle.edit_ops.specs.FenceLaws.{FencedDrawingsOpen, FencedDrawingsFit, ChangesFencedFields, FenceEditsChangeTheirFields, FencedFieldsAreApart}
use Rattle.edit_ops.proofs.AcceptedEdit.{none_both, done_unless, done_without_cause}
use Rattle.edit_ops.proofs.WhatIsLeft.{left_behind, left_long, left_opens, left_fill, left_changes, left_apart}
use Rattle.edit_ops.proofs.EditsLeft.{edit_short}
use Rattle.edit_ops.proofs.FieldsRise.{fields_apart}
use Rattle.edit_ops.proofs.RootsTogether.{all_puts, all_bytes, IsFenced, root_fits, fenced}
use Rattle.dgn_drawing.specs.declared.limits.TheConstants.{MOST_DESIGN}

-- what is put and what is appended are the plan
pub fenced_plan : (dim : ℕ) (es : List Element) (rest : ℕ) (e : FenceEdit) (ns : List ℕ) (p : Plan) → IsFenced dim es e ns
    → cause_of_all dim es rest (edits_at e ns) ≡ None → p.patches ≡ all_puts dim es (edits_at e ns) → p.append ≡ all_bytes dim es (edits_at e ns)
    → IsFencePlan dim es rest e ns p
fenced_plan dim es rest e ns p is none patches append = record {
  made = flat (fenced_forest dim es e ns);
  done = ap (λ (c : Option Cause). applied_unless c (flat (fenced_forest dim es e ns))) none;
  patches = patches ∙ left_fill dim es (all_puts dim es (edits_at e ns)) (fenced_fields dim es e ns) is.more (fenced_forest dim es e ns) is.left;
  append = append ∙ sym is.bytes
      ∙ sym (left_behind dim es (all_puts dim es (edits_at e ns)) (fenced_fields dim es e ns) is.more (fenced_forest dim es e ns) is.left);
}

-- edits of roots that aren't refused leave a file that isn't too long
all_short : (dim : ℕ) (es : List Element) (e : FenceEdit) (rest : ℕ) (ns : List ℕ) → cause_of_all dim es rest (edits_at e ns) ≡ None
    → length (spelling es) + rest ≤ MOST_DESIGN
    → length (spelling es) + (rest + all_appended es (edits_at e ns)) ≤ MOST_DESIGN
all_short dim es e rest [] none few = omega arith
all_short dim es e rest (n ∷ ns) none few =
    let more : ℕ = bytes_appended es (edit_at e n) in
    let both = none_both (cause_of dim es rest (edit_at e n)) (cause_of_all dim es (rest + more) (edits_at e ns)) none in
    let all = all_short dim es e (rest + more) ns both.1 (edit_short dim es rest (edit_at e n) both.0 few) in
    omega arith

module _ (f : List ℕ) (dim : ℕ) (es : List Element) (t : List ℕ) (rest : ℕ) (e : FenceEdit) (ns : List ℕ) (made : List Element) (fits : IsFenceEdit e)
    (some : AreRoots es ns) (opens : Opens f dim es t) (done : apply_all dim es rest e ns ≡ Done made) where
  -- nothing refuses what is done
  accepted_all : (cause_of_all dim es rest (edits_at e ns) ≡ None) × (made ≡ flat (fenced_forest dim es e ns))
  accepted_all = done_unless (cause_of_all dim es rest (edits_at e ns)) (flat (fenced_forest dim es e ns)) made done

  is : IsFenced dim es e ns
  is = fenced f dim es t rest e ns fits some opens accepted_all.0

  all_open : Opens (spelling made ++ t) dim made t
  all_open = subst (λ (l : List Element). Opens (spelling l ++ t) dim l t) (sym accepted_all.1)
      (left_opens dim es (all_puts dim es (edits_at e ns)) (fenced_fields dim es e ns) is.more (fenced_forest dim es e ns) is.left f t opens)

  all_long : length (spelling made) ≡ length (spelling es) + all_appended es (edits_at e ns)
  all_long = ap (λ (l : List Element). length (spelling l)) accepted_all.1
      ∙ left_long dim es (all_puts dim es (edits_at e ns)) (fenced_fields dim es e ns) is.more (fenced_forest dim es e ns) is.left
      ∙ ap (λ (k : ℕ). length (spelling es) + k) is.long

  all_change : ChangesFencedFields dim es e ns made
  all_change = subst (ChangesFencedFields dim es e ns) (sym accepted_all.1)
      (subst (λ (k : ℕ). ChangesFields es (flat (fenced_forest dim es e ns)) (fenced_fields dim es e ns) k (fenced_forest dim es e ns)) is.long
      (left_changes dim es (all_puts dim es (edits_at e ns)) (fenced_fields dim es e ns) is.more (fenced_forest dim es e ns) is.left))

-- what is left opens in the same dimension, with the same tail
pub fenced_opens : FencedDrawingsOpen
fenced_opens f dim es t rest e ns made fits some opens done = all_open f dim es t rest e ns made fits some opens done

-- it keeps the limit of a design file
pub fenced_fits : FencedDrawingsFit
fenced_fits f dim es t rest e ns made fits some opens done few =
    let long = all_long f dim es t rest e ns made fits some opens done in
    let short = all_short dim es e rest ns (accepted_all f dim es t rest e ns made fits some opens done).0 few in
    omega arith

-- it differs in the edited fields alone, is longer by whole trees, and its trees are the changed ones
pub fenced_changes : FenceEditsChangeTheirFields
fenced_changes f dim es t rest e ns made fits some opens done = all_change f dim es t rest e ns made fits some opens done

-- where nothing refuses all, the fields of each root's edit lie as those of an edit that is done
roots_apart : (f : List ℕ) (dim : ℕ) (es : List Element) (t : List ℕ) (e : FenceEdit) → IsFenceEdit e → Opens f dim es t → (rest : ℕ) (ns : List ℕ)
    → cause_of_all dim es rest (edits_at e ns) ≡ None → AllByRecursion (λ n. FieldsLieApart dim es (edit_at e n)) ns
roots_apart f dim es t e fits opens rest [] none = tt
roots_apart f dim es t e fits opens rest (n ∷ ns) none =
    let more : ℕ = bytes_appended es (edit_at e n) in
    let both = none_both (cause_of dim es rest (edit_at e n)) (cause_of_all dim es (rest + more) (edits_at e ns)) none in (
      fields_apart f dim es t rest (edit_at e n) (flat (changed_forest dim es (edit_at e n))) (root_fits e n fits) opens
          (done_without_cause dim es rest (edit_at e n) both.0),
      roots_apart f dim es t e fits opens (rest + more) ns both.1,
    )

-- these fields are apart, and those of each root in its tree
pub fenced_apart : FencedFieldsAreApart
fenced_apart f dim es t rest e ns made fits some opens done =
    let x = is f dim es t rest e ns made fits some opens done in
    record {
      rise = left_apart dim es (all_puts dim es (edits_at e ns)) (fenced_fields dim es e ns) x.more (fenced_forest dim es e ns) x.left;
      each_root = All-from_recursion (λ n. FieldsLieApart dim es (edit_at e n)) ns
          (roots_apart f dim es t e fits opens rest ns (accepted_all f dim es t rest e ns made fits some opens done).0);
    }
